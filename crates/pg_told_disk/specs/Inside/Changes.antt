-- The disk that a list of changes makes, the latest first.
use Rattle.std.specs.Prelude.{◌≡◌, ℕ, ◌/◌, ◌%◌, List, Vec, [], ◌∷◌, ◌++◌, length, Bool, true, false, cond, nat_eq, Option, Some, None, string_bytes}
use Rattle.std.specs.Option.{option_map}
use Rattle.std.specs.Str.{bytes_eq}
use Rattle.std.specs.FinMap as fin
use Rattle.std.specs.declared.alloc.Global.{Global}
use Rattle.pg_outside.specs.Inside.disk.Disks.{Node, NameMap, Disk, DiskHistory}
use Rattle.pg_outside.specs.declared.disk.system.FileId.{FileId}
use Rattle.pg_told_disk.specs.Inside.LinkLists.{real_in, links_in}
use Rattle.pg_told_disk.specs.declared.change.Change.{Change}
use Rattle.pg_told_disk.specs.declared.change.Change.TheVariants.{Made, Shared, GotMode, Wrote, Stored, Renamed, Removed, Refused}
use Rattle.pg_told_disk.specs.declared.links.Link.{Link}

-- the number of the file that the name leads to, which is no link
abbrev pub number_in : List Change → List ℕ → Option ℕ
number_in [] name = None
number_in (Made own ∷ older) name = cond (bytes_eq name (string_bytes own))
    (Some (length older)) (number_in older name)
number_in (Shared own old ∷ older) name = cond (bytes_eq name (string_bytes own))
    (number_in older (string_bytes old)) (number_in older name)
number_in (Renamed from to ∷ older) name =
    cond (bytes_eq name (string_bytes to)) (number_in older (string_bytes from))
    (cond (bytes_eq name (string_bytes from)) None (number_in older name))
number_in (Removed own ∷ older) name =
    cond (bytes_eq name (string_bytes own)) None (number_in older name)
number_in (_ ∷ older) name = number_in older name

-- the file of this number; all are on one device
abbrev pub id_of : ℕ → FileId
id_of number = record { device = 1; inode = number }

-- the names after a name was given to the file of another
abbrev pub with_name : Option ℕ → NameMap → List ℕ → NameMap
with_name None names to = fin.remove names to
with_name (Some number) names to = fin.insert names to (id_of number)

-- the names after the changes, each with the file that it leads to
abbrev pub names_in : List Change → NameMap
names_in [] = fin.empty
names_in (Made own ∷ older) =
    fin.insert (names_in older) (string_bytes own) (id_of (length older))
names_in (Shared own old ∷ older) = with_name (number_in older (string_bytes old))
    (names_in older) (string_bytes own)
names_in (Renamed from to ∷ older) = with_name (number_in older (string_bytes from))
    (fin.remove (names_in older) (string_bytes from)) (string_bytes to)
names_in (Removed own ∷ older) = fin.remove (names_in older) (string_bytes own)
names_in (_ ∷ older) = names_in older

-- the permissions of the file of this number, if it is there
abbrev pub mode_in : List Change → ℕ → Option ℕ
mode_in [] number = None
mode_in (Made own ∷ older) number = cond (nat_eq number (length older))
    (Some 420) (mode_in older number)
mode_in (GotMode other mode ∷ older) number = cond (nat_eq number other)
    (Some mode) (mode_in older number)
mode_in (_ ∷ older) number = mode_in older number

-- the bytes of the file of this number
abbrev pub bytes_in : List Change → ℕ → List ℕ
bytes_in [] number = []
bytes_in (Made own ∷ older) number = cond (nat_eq number (length older))
    [] (bytes_in older number)
bytes_in (Wrote other bytes ∷ older) number = cond (nat_eq number other)
    (bytes_in older number ++ bytes.items) (bytes_in older number)
bytes_in (_ ∷ older) number = bytes_in older number

-- whether the device has all of the file of this number
abbrev pub stored_in : List Change → ℕ → Bool
stored_in [] number = false
stored_in (Made own ∷ older) number = cond (nat_eq number (length older))
    false (stored_in older number)
stored_in (Wrote other bytes ∷ older) number = cond (nat_eq number other)
    false (stored_in older number)
stored_in (Stored other ∷ older) number = cond (nat_eq number other)
    true (stored_in older number)
stored_in (_ ∷ older) number = stored_in older number

-- whether a file of these permissions may be written by its owner
abbrev pub lets_write : ℕ → Bool
lets_write mode = nat_eq (mode / 128 % 2) 1

-- a regular file by its bytes, and whether the device has them, with these permissions
abbrev pub node_with : List ℕ → Bool → ℕ → Node
node_with bytes stored mode = record {
  is_regular = true;
  bytes = bytes;
  mode = mode;
  is_writable = lets_write mode;
  is_stored = stored;
}

-- the file of this number
abbrev pub node_in : List Change → ℕ → Option Node
node_in log number = option_map
    (node_with (bytes_in log number) (stored_in log number)) (mode_in log number)

-- the names that the system refused to remove, the latest first
abbrev pub refused_in : List Change → List (List ℕ)
refused_in [] = []
refused_in (Refused own ∷ older) = string_bytes own ∷ refused_in older
refused_in (_ ∷ older) = refused_in older

-- what this file is
abbrev pub file_in : List Change → FileId → Option Node
file_in log id = cond (nat_eq id.device 1) (node_in log id.inode) None

-- the disk with these links, after these changes
abbrev pub disk_in : List Link → List Change → Disk
disk_in links log = record {
  links = links_in links;
  names = names_in log;
  files = file_in log;
  refused = refused_in log;
}

-- the disks before each change, the latest first
abbrev pub past_in : List Link → List Change → List Disk
past_in links [] = []
past_in links (change ∷ older) = disk_in links older ∷ past_in links older

-- the disk after these changes, and the disks before
abbrev pub told_in : List Link → List Change → DiskHistory
told_in links log = record { now = disk_in links log; past = past_in links log }

-- these are the bytes of the file that the name leads to, if there is one
abbrev pub IsHeldIn : List Link → List Change → List ℕ → Option (Vec ℕ Global) → Type 0
IsHeldIn links log name None = number_in log (real_in links name) ≡ None
IsHeldIn links log name (Some bytes) = (number : ℕ)
    × (number_in log (real_in links name) ≡ Some number) × (bytes.items ≡ bytes_in log number)
