-- What a disk in memory tells.
use Rattle.std.specs.Prelude.{ℕ, Bool, cond, List, Option, Some, None}
use Rattle.pg_outside.specs.Inside.disk.Disks.{DiskHistory}
use Rattle.pg_told_disk.specs.Inside.Changes.{told_in, id_of}
use Rattle.pg_outside.specs.declared.disk.system.FileId.{FileId}
use Rattle.pg_told_disk.specs.declared.change.Change.{Change}
use Rattle.pg_told_disk.specs.declared.links.Link.{Link}
use Rattle.pg_told_disk.specs.declared.told_disk.ToldDisk.{ToldDisk}
use Rattle.pg_told_disk.specs.declared.told_disk.ToldFile.{ToldFile}

-- the disk after these changes and the disks before, where they are told
abbrev pub told_where : Bool → List Link → List Change → Option DiskHistory
told_where is_told links log = cond is_told (Some (told_in links log)) None

-- what a disk in memory tells of the disk now and of those before
abbrev pub told_by : ToldDisk → Option DiskHistory
told_by disk = told_where disk.is_told disk.links.items disk.log.items

-- the device and the number of a file
abbrev pub file_id : ToldFile → FileId
file_id file = id_of file.number

-- how many bytes of a file were read
abbrev pub read_len : ToldFile → ℕ
read_len file = file.at
