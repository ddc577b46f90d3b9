-- What files over a system of files show.
use Rattle.std.specs.Prelude.{ℕ, List, [], ◌∷◌, map, Bool, true, false, cond, ◌&&◌, Option, Some, None}
use Rattle.std.specs.FinMap as fin
use Rattle.pg_outside.specs.Content.{FileMap, FilesShown}
use Rattle.pg_outside.specs.Inside.disk.Disks.{Node, Disk, DiskHistory}
use Rattle.pg_outside.specs.FilesCalls.{FilesCall}
use Rattle.pg_outside.specs.declared.disk.files.DiskFiles.{DiskFiles}

-- the bytes of a file; no bytes where there is no file
abbrev pub bytes_of : Option Node → List ℕ
bytes_of None = []
bytes_of (Some node) = node.bytes

-- the bytes of each name
abbrev pub disk_map : Disk → FileMap
disk_map disk = fin.from_entries
    (map (λ e. (e.0, bytes_of (disk.files e.1))) (fin.entries disk.names))

-- whether there is no name
abbrev pub has_none : List (List ℕ) → Bool
has_none [] = true
has_none (name ∷ names) = false

-- the files are told where the disk is known to be plain, and the system has refused no removal
abbrev pub tells_files : Disk → Bool
tells_files disk = disk.links.is_plain && has_none disk.refused

-- the bytes of each name of a disk that is told, where its files are told too
abbrev pub held_of : Option DiskHistory → Option FileMap
held_of None = None
held_of (Some told) = cond (tells_files told.now) (Some (disk_map told.now)) None

-- the count of all faults: of reads and of writes, of all names together
abbrev pub all_faults : {S File : Type 0} → DiskFiles S File → ℕ
all_faults files = files.failed

-- the reads and writes that there were, in their order
abbrev pub disk_calls : {S File : Type 0} → DiskFiles S File → List FilesCall
disk_calls files = files.calls.made

-- what it shows of a system that tells its disk: each fault counts for every name
abbrev pub disk_shown : {S File : Type 0} → (S → Option DiskHistory) → DiskFiles S File → FilesShown
disk_shown told files = record {
  held = held_of (told files.system);
  read_faults = λ _. all_faults files;
  write_faults = λ _. all_faults files;
  calls = disk_calls files;
}
