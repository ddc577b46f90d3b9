-- What a disk holds, and what a call may change of it.
use Rattle.std.specs.Prelude.{◌≡◌, ◌≢◌, ℕ, ◌+◌, ◌<◌, ◌≤◌, List, [], take, drop, length, ◌∷◌, ◌++◌, Bool, true, false, Option, Some, None, MatchOption, IfSome, ◌⊎◌}
use Rattle.std.specs.Cmp.Lexicographic.{slice_cmp}
use Rattle.std.specs.Ordering.{nat_cmp}
use Rattle.std.specs.FinMap as fin
use Rattle.pg_outside.specs.Inside.disk.NewNames.{IsNewName, IsLinkedName}
use Rattle.pg_outside.specs.declared.disk.system.NameKind.{NameKind}
use Rattle.pg_outside.specs.declared.disk.system.NameKind.TheVariants.{Missing, Link, OpenFile, File}
use Rattle.pg_outside.specs.declared.disk.system.FileId.{FileId}
use Rattle.pg_outside.specs.declared.disk.system.FileStatus.{FileStatus}

-- a file: its kind, its bytes, its permissions, whether it may be written, whether it is stored
pub record Node : Type 0 where
  pub is_regular : Bool
  pub bytes : List ℕ
  pub mode : ℕ
  pub is_writable : Bool
  pub is_stored : Bool

-- what links make of names, which of them the system made to open files, which permissions a new
-- file has, and whether the disk is known plain
pub record Links : Type 0 where
  pub real : List ℕ → List ℕ
  pub is_link : List ℕ → Bool
  pub is_open : List ℕ → Bool
  pub next : List ℕ → List ℕ
  pub new_mode : ℕ
  pub is_plain : Bool

-- the real names, each with the file that it leads to
abbrev pub NameMap : Type 0
NameMap = fin.FinMap (slice_cmp nat_cmp) FileId

-- a disk: the links, the names, the files, and the names that the system refused to remove
pub record Disk : Type 0 where
  pub links : Links
  pub names : NameMap
  pub files : FileId → Option Node
  pub refused : List (List ℕ)

-- the disk now, and the disks before each call that may have changed it, the latest first
pub record DiskHistory : Type 0 where
  pub now : Disk
  pub past : List Disk

-- which file the name leads to
abbrev pub id_at : Disk → List ℕ → Option FileId
id_at disk name = fin.get disk.names (disk.links.real name)

-- what this file is, if there is one
abbrev pub node_of : Option FileId → (FileId → Option Node) → Option Node
node_of None files = None
node_of (Some id) files = files id

-- what the file is that the name leads to
abbrev pub node_at : Disk → List ℕ → Option Node
node_at disk name = node_of (id_at disk name) disk.files

-- a disk that is told after the call was told before it, and is the same
abbrev pub KeepsDisk : Option DiskHistory → Option DiskHistory → Type 0
KeepsDisk old new = IfSome new (λ after. old ≡ Some after)

-- the two names stand for one
abbrev pub AreOne : Disk → List ℕ → List ℕ → Type 0
AreOne disk one other = disk.links.real one ≡ disk.links.real other

-- where a disk is told, P holds of it
abbrev pub HoldsNow : Option DiskHistory → (Disk → Type 0) → Type 0
HoldsNow told P = IfSome told (λ t. P t.now)

-- a call changes the disk as R says, and the disk before it is kept with the past
abbrev pub ChangesDisk : Option DiskHistory → Option DiskHistory → (Disk → Disk → Type 0) → Type 0
ChangesDisk old new R = IfSome new (λ after. MatchOption old ⊥ (λ before.
    (after.past ≡ before.now ∷ before.past) × R before.now after.now))

-- a call sets the file of this id to this one, and all else is as before
pub record SetsFile (id : FileId) (node : Node) (old new : Disk) : Type 0 where
  pub links : new.links ≡ old.links
  pub names : new.names ≡ old.names
  pub refused : new.refused ≡ old.refused
  pub file : new.files id ≡ Some node
  pub others : (other : FileId) → other ≢ id → new.files other ≡ old.files other

-- a call puts a new file of this id under a name that no file had, and all else is as before
pub record AddsFile (own : List ℕ) (id : FileId) (node : Node) (old new : Disk) : Type 0 where
  pub links : new.links ≡ old.links
  pub unnamed : id_at old own ≡ None
  pub fresh : (name : List ℕ) → id_at old name ≢ Some id
  pub named : id_at new own ≡ Some id
  pub names : (name : List ℕ) → ¬ AreOne old name own → id_at new name ≡ id_at old name
  pub file : new.files id ≡ Some node
  pub others : (other : FileId) → other ≢ id → new.files other ≡ old.files other
  pub refused : new.refused ≡ old.refused

-- a call makes a new file, which is regular and empty
pub record MakesFile (own : List ℕ) (id : FileId) (old new : Disk) : Type 0 where
  pub node : Node
  pub is_regular : node.is_regular ≡ true
  pub empty : node.bytes ≡ []
  pub mode : node.mode ≡ old.links.new_mode
  pub direct : old.links.is_link own ≡ false
  pub beside : AddsFile own id node old new

-- a call appends these bytes to the file
abbrev pub AppendsBytes : FileId → List ℕ → Disk → Disk → Type 0
AppendsBytes id bytes old new = (node : Node) → old.files id ≡ Some node
    → (after : Node) × SetsFile id after old new × (after.is_regular ≡ node.is_regular)
    × (after.mode ≡ node.mode) × (after.bytes ≡ node.bytes ++ bytes)

-- a call appends a first part of these bytes to the file
abbrev pub AppendsFront : FileId → List ℕ → Disk → Disk → Type 0
AppendsFront id bytes old new = (count : ℕ) × AppendsBytes id (take count bytes) old new

-- a call changes nothing but this file, if anything
abbrev pub ChangesOnlyFile : FileId → Disk → Disk → Type 0
ChangesOnlyFile id old new = (node : Node) → old.files id ≡ Some node
    → (after : Node) × SetsFile id after old new

-- after a call the device has the file
abbrev pub SyncsFile : FileId → Disk → Disk → Type 0
SyncsFile id old new = (node : Node) → old.files id ≡ Some node
    → SetsFile id (record node { is_stored = true }) old new

-- a call gives the file these permissions, by which it may be writable or not
abbrev pub SetsMode : FileId → ℕ → Disk → Disk → Type 0
SetsMode id mode old new = (node : Node) → old.files id ≡ Some node
    → (after : Node) × SetsFile id after old new × (after.is_regular ≡ node.is_regular)
    × (after.bytes ≡ node.bytes) × (after.mode ≡ mode)

-- a call gives the file of the one name the other name
pub record RenamesFile (from to : List ℕ) (old new : Disk) : Type 0 where
  pub links : new.links ≡ old.links
  pub moved : id_at new to ≡ id_at old from
  pub gone : ¬ AreOne old from to → id_at new from ≡ None
  pub names : (name : List ℕ) → ¬ AreOne old name from
      → ¬ AreOne old name to → id_at new name ≡ id_at old name
  pub files : (other : FileId) → new.files other ≡ old.files other
  pub refused : new.refused ≡ old.refused

-- a call gives the file of the one name the other, unless one of the names is a link itself
abbrev pub RenamesUnlessLink : List ℕ → List ℕ → Disk → Disk → Type 0
RenamesUnlessLink from to old new = old.links.is_link from ≡ false
    → old.links.is_link to ≡ false → RenamesFile from to old new

-- a call takes the name away
pub record RemovesName (own : List ℕ) (old new : Disk) : Type 0 where
  pub links : new.links ≡ old.links
  pub gone : id_at new own ≡ None
  pub names : (name : List ℕ) → ¬ AreOne old name own → id_at new name ≡ id_at old name
  pub files : (other : FileId) → new.files other ≡ old.files other
  pub refused : new.refused ≡ old.refused

-- a call takes the name away, unless it is a link itself
abbrev pub RemovesUnlessLink : List ℕ → Disk → Disk → Type 0
RemovesUnlessLink own old new = old.links.is_link own ≡ false → RemovesName own old new

-- the system refuses to remove this name
pub record RefusesRemoval (own : List ℕ) (old new : Disk) : Type 0 where
  pub links : new.links ≡ old.links
  pub names : new.names ≡ old.names
  pub files : (other : FileId) → new.files other ≡ old.files other
  pub refused : new.refused ≡ own ∷ old.refused

-- the name leads to this file
abbrev pub LeadsTo : List ℕ → FileId → Disk → Type 0
LeadsTo name id disk = id_at disk name ≡ Some id

-- the name leads to no file
abbrev pub LeadsToNone : List ℕ → Disk → Type 0
LeadsToNone name disk = id_at disk name ≡ None

-- the name is a link or leads to a file, so that no file can be made under it
abbrev pub IsNameTaken : List ℕ → Disk → Type 0
IsNameTaken name disk = (disk.links.is_link name ≡ true) ⊎ ((id : FileId) × LeadsTo name id disk)

-- this is what the name is, before a link is followed
abbrev pub IsKindOf : List ℕ → NameKind → Disk → Type 0
IsKindOf name Missing disk = (disk.links.is_link name ≡ false) × LeadsToNone name disk
IsKindOf name Link disk = (disk.links.is_link name ≡ true) × (disk.links.is_open name ≡ false)
IsKindOf name OpenFile disk = (disk.links.is_link name ≡ true) × (disk.links.is_open name ≡ true)
IsKindOf name (File id) disk = (disk.links.is_link name ≡ false) × LeadsTo name id disk

-- the text, seen from the link's folder, is the name that the link says
abbrev pub IsFollowedBy : List ℕ → List ℕ → Disk → Type 0
IsFollowedBy link text disk = (joined : List ℕ) → IsLinkedName link text joined
    → (joined ≡ disk.links.next link) × AreOne disk joined link

-- the name leads to this file, which is there
pub record IsOpened (name : List ℕ) (id : FileId) (disk : Disk) : Type 0 where
  pub leads : LeadsTo name id disk
  pub node : Node
  pub there : disk.files id ≡ Some node

-- the file may be written
abbrev pub IsWritable : FileId → Disk → Type 0
IsWritable id disk = (node : Node) → disk.files id ≡ Some node → node.is_writable ≡ true

-- this is what the file is
pub record IsStat (id : FileId) (seen : FileStatus) (disk : Disk) : Type 0 where
  pub is : seen.id ≡ id
  pub node : Node
  pub there : disk.files id ≡ Some node
  pub kind : node.is_regular ≡ seen.is_regular
  pub mode : node.mode ≡ seen.mode

-- the buffer begins with the next bytes of the file, and with none only at its end
pub record HasPiece (id : FileId) (at next count room : ℕ)
    (buffer : List ℕ) (disk : Disk) : Type 0 where
  pub on : next ≡ at + count
  pub bytes : (node : Node) → disk.files id ≡ Some node
      → take count buffer ≡ take count (drop at node.bytes)
  pub within : (node : Node) → disk.files id ≡ Some node → at + count ≤ length node.bytes
  pub end : (node : Node) → disk.files id ≡ Some node
      → count ≡ 0 → 0 < room → length node.bytes ≤ at

-- no name is a link, each stands for itself, and each leads to a regular file that is there
pub record HasNoLinks (disk : Disk) : Type 0 where
  pub real : (name : List ℕ) → disk.links.real name ≡ name
  pub direct : (name : List ℕ) → disk.links.is_link name ≡ false
  pub there : (name : List ℕ) (id : FileId) → id_at disk name ≡ Some id
      → (node : Node) × (disk.files id ≡ Some node) × (node.is_regular ≡ true)

-- what `is_plain` means
abbrev pub KnowsPlain : Disk → Type 0
KnowsPlain disk = disk.links.is_plain ≡ true → HasNoLinks disk

-- where two names beside each other are no links, they stand for one only if they are one name
abbrev pub KnowsNewNames : Disk → Type 0
KnowsNewNames disk = (own name : List ℕ) → IsNewName own name → disk.links.is_link name ≡ false
    → disk.links.is_link own ≡ false → AreOne disk own name → own ≡ name
