-- The moments of a call: the disks between any two calls on the system.
use Rattle.std.specs.Prelude.{◌≡◌, ℕ, List, [], ◌∷◌, ◌++◌, true, false, Option, Some, None, MatchOption, IfSome, ◌⊎◌}
use Rattle.std.specs.Option.{unwrap_or}
use Rattle.pg_outside.specs.Inside.disk.Disks.{Node, Disk, DiskHistory, SetsFile, RenamesUnlessLink, AreOne, id_at, node_at, ChangesOnlyFile}
use Rattle.pg_outside.specs.Inside.disk.NewNames.{IsNewName}
use Rattle.pg_outside.specs.declared.disk.system.FileId.{FileId}

-- P holds of each of these disks
abbrev pub HoldsOfEach : (Disk → Type 0) → List Disk → Type 0
HoldsOfEach P [] = Unit {0}
HoldsOfEach P (disk ∷ disks) = P disk × HoldsOfEach P disks

-- from one disk to another: each since the first stands to it as P says, and the last as Q says
pub record IsDiskRun (P Q : Disk → Disk → Type 0) (old new : DiskHistory) : Type 0 where
  pub since : List Disk
  pub moments : new.now ∷ new.past ≡ since ++ old.now ∷ old.past
  pub each : HoldsOfEach (P old.now) since
  pub end : Q old.now new.now

-- a disk that is told was told before; each since stands to the first as P says, the last as Q says
abbrev pub RunsCalls : Option DiskHistory → Option DiskHistory → (Disk → Disk → Type 0)
    → (Disk → Disk → Type 0) → Type 0
RunsCalls old new P Q = IfSome new (λ after. MatchOption old ⊥
    (λ before. IsDiskRun P Q before after))

-- the file has these permissions, or its own where none are given
abbrev pub HasMode : FileId → Option ℕ → Disk → Disk → Type 0
HasMode id mode old new = (node : Node) → old.files id ≡ Some node
    → (after : Node) × SetsFile id after old new × (after.is_regular ≡ node.is_regular)
    × (after.bytes ≡ node.bytes) × (after.mode ≡ unwrap_or mode node.mode)

-- the file gets these bytes and permissions, and the device has all of it
abbrev pub FillsFile : FileId → Option ℕ → List ℕ → Disk → Disk → Type 0
FillsFile id mode bytes old new = (node : Node) → old.files id ≡ Some node
    → (after : Node) × SetsFile id after old new × (after.is_regular ≡ node.is_regular)
    × (after.bytes ≡ node.bytes ++ bytes) × (after.is_stored ≡ true)
    × (after.mode ≡ unwrap_or mode node.mode)

-- the file is filled, and then it takes the name
abbrev pub PlacesFile : List ℕ → List ℕ → FileId → Option ℕ → List ℕ → Disk → Disk → Type 0
PlacesFile own name id mode bytes old new = (filled : Disk)
    × FillsFile id mode bytes old filled × RenamesUnlessLink own name filled new

-- the file that was found is filled, and then it takes the name
abbrev pub PlacesFileAs : List ℕ → List ℕ → FileId → Option ℕ → List ℕ → FileId
    → Disk → Disk → Type 0
PlacesFileAs own name id mode bytes found old new =
    PlacesFile own name id mode bytes old new × (found ≡ id)

-- the file is filled in part, or it has taken the name as a whole
abbrev pub AtPlacing : List ℕ → List ℕ → FileId → Option ℕ → List ℕ → Disk → Disk → Type 0
AtPlacing own name id mode bytes old new =
    ChangesOnlyFile id old new ⊎ PlacesFile own name id mode bytes old new

-- the name leads to a regular file of these bytes and permissions, and the device has all of it
pub record IsWhole (whole : List ℕ) (given : Option ℕ) (disk : Disk) (name : List ℕ) : Type 0 where
  pub node : Node
  pub there : node_at disk name ≡ Some node
  pub is_regular : node.is_regular ≡ true
  pub bytes : node.bytes ≡ whole
  pub is_stored : node.is_stored ≡ true
  pub mode : node.mode ≡ unwrap_or given disk.links.new_mode

-- where the name is no link itself at first
abbrev pub WhereDirect : List ℕ → (Disk → Disk → Type 0) → Disk → Disk → Type 0
WhereDirect name R first last = first.links.is_link name ≡ false → R first last

-- a new file's name beside what the other name leads to, which is no file's
pub record IsBeside (own name : List ℕ) (first : Disk) : Type 0 where
  pub real : List ℕ
  pub direct : first.links.is_link real ≡ false
  pub one : AreOne first real name
  pub is_new : IsNewName own real
  pub apart : ¬ AreOne first own name
  pub unnamed : id_at first own ≡ None

-- the name leads to the same file as at first, which is unchanged
abbrev pub IsSameAt : Disk → Disk → List ℕ → Type 0
IsSameAt first disk name = (id_at disk name ≡ id_at first name)
    × (node_at disk name ≡ node_at first name)

-- at a moment of a write each name leads to its old file, or the written one to all new bytes
pub record AtMoment (name bytes : List ℕ) (mode : Option ℕ) (first disk : Disk) : Type 0 where
  pub links : disk.links ≡ first.links
  pub own : List ℕ
  pub beside : IsBeside own name first
  pub names : (other : List ℕ) → ¬ AreOne first other own
      → IsSameAt first disk other ⊎ (AreOne first other name × IsWhole bytes mode disk other)

-- after a write: the name leads to this file with the bytes, and each other name to what it led to
pub record IsWritten (name bytes : List ℕ) (mode : Option ℕ)
    (id : FileId) (first last : Disk) : Type 0 where
  pub links : last.links ≡ first.links
  pub refused : last.refused ≡ first.refused
  pub leads : id_at last name ≡ Some id
  pub whole : IsWhole bytes mode last name
  pub others : (other : List ℕ) → ¬ AreOne first other name → IsSameAt first last other

-- each name leads to the same file as at first
pub record IsSame (first last : Disk) : Type 0 where
  pub links : last.links ≡ first.links
  pub refused : last.refused ≡ first.refused
  pub names : (name : List ℕ) → IsSameAt first last name

-- the system refused to remove the new file, and each other name leads to the same file as at first
pub record HasRest (name : List ℕ) (first last : Disk) : Type 0 where
  pub links : last.links ≡ first.links
  pub own : List ℕ
  pub beside : IsBeside own name first
  pub others : (other : List ℕ) → ¬ AreOne first other own → IsSameAt first last other
  pub refused : last.refused ≡ own ∷ first.refused

-- after a failed write
abbrev pub IsAsBefore : List ℕ → Disk → Disk → Type 0
IsAsBefore name first last = IsSame first last ⊎ HasRest name first last
