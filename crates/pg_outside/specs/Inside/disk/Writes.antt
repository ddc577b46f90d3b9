-- What reads and writes by name do to a disk.
use Rattle.std.specs.Prelude.{◌≡◌, ℕ, zero, suc, ◌+◌, ◌<◌, List, [], ◌∷◌, ◌++◌, take, length, Bool, true, false, Option, Some, None, IfSome, Result, OnOk, OnErr, IfErr, nat_eq, ◌&&◌, ◌⊎◌}
use Rattle.std.specs.List.{list_any}
use Rattle.pg_outside.specs.declared.disk.links.TheConstants.{LINK_NAMES_MAX}
use Rattle.pg_outside.specs.declared.disk.new_file.TheConstants.{NEW_NAMES_MAX}
use Rattle.pg_outside.specs.Faults.{next_count}
use Rattle.pg_outside.specs.Inside.disk.Causes.{IsCauseOf}
use Rattle.pg_outside.specs.Inside.disk.Disks.{Node, Disk, DiskHistory, AreOne, LeadsTo, LeadsToNone, AppendsBytes, AppendsFront, IsNameTaken, HoldsNow, id_at, node_at}
use Rattle.pg_outside.specs.Inside.disk.NewNames.{IsFolderOf, new_name}
use Rattle.pg_outside.specs.Inside.disk.WhatDiskShows.{all_faults}
use Rattle.pg_outside.specs.declared.disk.files.DiskFiles.{DiskFiles}
use Rattle.pg_outside.specs.declared.disk.system.FileId.{FileId}
use Rattle.pg_outside.specs.declared.disk.system.FileStatus.{FileStatus}
use Rattle.pg_outside.specs.declared.disk.error.WriteError.{WriteError}
use Rattle.pg_outside.specs.Inside.disk.Moments.{RunsCalls, AtMoment, IsWritten, IsAsBefore}

-- whether these are one file
abbrev pub is_same_file : FileId → FileId → Bool
is_same_file one other = nat_eq one.device other.device && nat_eq one.inode other.inode

-- the file is one of these
abbrev pub IsIn : FileId → List FileId → Type 0
IsIn id kept = list_any (λ other. is_same_file other id) kept ≡ true

-- each file that was kept in mind still is
abbrev pub KeepsAll : List FileId → List FileId → Type 0
KeepsAll old new = (id : FileId) → IsIn id old → IsIn id new

-- the name leads to no file or to a regular one
abbrev pub IsPlain : List ℕ → Disk → Type 0
IsPlain name disk = IfSome (node_at disk name) (λ node. node.is_regular ≡ true)

-- the permissions of a file, if there is one
abbrev pub mode_of : Option Node → Option ℕ
mode_of None = None
mode_of (Some node) = Some node.mode

-- the permissions of what the name leads to
abbrev pub mode_at : List ℕ → Disk → Option ℕ
mode_at name disk = mode_of (node_at disk name)

-- the name leads to this file, which is no regular one
pub record IsDevice (name : List ℕ) (id : FileId) (disk : Disk) : Type 0 where
  pub leads : LeadsTo name id disk
  pub node : Node
  pub there : disk.files id ≡ Some node
  pub kind : node.is_regular ≡ false

-- the name leads to this regular file, which was read or written before
pub record IsProtected (name : List ℕ) (kept : List FileId)
    (id : FileId) (disk : Disk) : Type 0 where
  pub leads : LeadsTo name id disk
  pub plain : IsPlain name disk
  pub is_kept : IsIn id kept

-- these are the bytes of the file that the name leads to
pub record IsContent (name bytes : List ℕ) (disk : Disk) : Type 0 where
  pub node : Node
  pub there : node_at disk name ≡ Some node
  pub all : bytes ≡ node.bytes

-- the file that the name leads to has more bytes than the limit, and these are its first limit + 1
pub record IsContentCut (name : List ℕ) (limit : ℕ) (bytes : List ℕ) (disk : Disk) : Type 0 where
  pub node : Node
  pub there : node_at disk name ≡ Some node
  pub longer : limit < length node.bytes
  pub front : bytes ≡ take (limit + 1) node.bytes

-- a regular file that the name leads to is one of these
abbrev pub IsNoted : List ℕ → List FileId → Disk → Type 0
IsNoted name kept disk = (id : FileId) → LeadsTo name id disk → IsPlain name disk → IsIn id kept

-- the name that so many links in a row lead to, which the first name begins
abbrev pub followed_name : Disk → ℕ → List ℕ → List ℕ
followed_name disk zero name = name
followed_name disk (suc count) name = disk.links.next (followed_name disk count name)

-- the name's links come, one after the other, to a link of the system to an open file
pub record LeadsThroughOpen (name : List ℕ) (disk : Disk) : Type 0 where
  pub count : ℕ
  pub links : (before : ℕ) → before < count + 1
      → disk.links.is_link (followed_name disk before name) ≡ true
  pub is_open : disk.links.is_open (followed_name disk count name) ≡ true

-- what the name leads to may be written, and is no regular file that was read or written before, or
-- that the name leads to as to an open one
pub record MayWrite (name : List ℕ) (kept : List FileId) (disk : Disk) : Type 0 where
  pub writable : IfSome (node_at disk name) (λ node. node.is_writable ≡ true)
  pub free : (id : FileId) → IsProtected name kept id disk → ⊥
  pub by_name : IsPlain name disk → ¬ LeadsThroughOpen name disk

-- at each moment of a write a regular file is the old one or the new one, whole
pub record AtWrite (name bytes : List ℕ) (kept : List FileId) (first disk : Disk) : Type 0 where
  pub allowed : MayWrite name kept first
  pub plain : IsPlain name first → AtMoment name bytes (mode_at name first) first disk
  pub device : (id : FileId) → IsDevice name id first → AppendsFront id bytes first disk

-- the name leads to a new file of these bytes, with the old permissions, which is kept in mind
pub record IsWrittenAndKept (name bytes : List ℕ)
    (before kept : List FileId) (first last : Disk) : Type 0 where
  pub id : FileId
  pub grown : kept ≡ before ++ id ∷ []
  pub written : IsWritten name bytes (mode_at name first) id first last

-- after a write
pub record AfterWrite (name bytes : List ℕ) (before kept : List FileId)
    (first last : Disk) : Type 0 where
  pub links : last.links ≡ first.links
  pub allowed : MayWrite name before first
  pub plain : IsPlain name first → IsWrittenAndKept name bytes before kept first last
  pub device : (id : FileId) → IsDevice name id first
      → AppendsBytes id bytes first last × (kept ≡ before)

-- after a write that failed
pub record AfterFailure (name bytes : List ℕ) (first last : Disk) : Type 0 where
  pub links : last.links ≡ first.links
  pub plain : IsPlain name first → IsAsBefore name first last
  pub device : (id : FileId) → IsDevice name id first → AppendsFront id bytes first last

-- no file is kept in mind but those before and the one that the name leads to
abbrev pub KeepsOnly : List ℕ → List FileId → List FileId → Disk → Type 0
KeepsOnly name before kept disk = (kept ≡ before)
    ⊎ ((id : FileId) × (kept ≡ before ++ id ∷ []) × LeadsTo name id disk)

-- the name leads to this file, which may be written, and whose kind and permissions these are
pub record IsSeen (name : List ℕ) (seen : FileStatus) (disk : Disk) : Type 0 where
  pub leads : LeadsTo name seen.id disk
  pub node : Node
  pub there : disk.files seen.id ≡ Some node
  pub kind : node.is_regular ≡ seen.is_regular
  pub mode : node.mode ≡ seen.mode
  pub writable : node.is_writable ≡ true

-- this is what the name leads to: no file, or the one that was seen
abbrev pub IsOld : List ℕ → Option FileStatus → Disk → Type 0
IsOld name None disk = LeadsToNone name disk
IsOld name (Some seen) disk = IsSeen name seen disk

-- what was found is what was seen, and these are its permissions
abbrev pub IsSeenMode : Option FileId → Option FileStatus → Option ℕ → Type 0
IsSeenMode None None mode = mode ≡ None
IsSeenMode (Some id) (Some seen) mode = (id ≡ seen.id) × (mode ≡ Some seen.mode)
IsSeenMode None (Some seen) mode = ⊥
IsSeenMode (Some id) None mode = ⊥

-- a regular file that the name leads to was read or written before
abbrev pub WasKept : List ℕ → List FileId → Disk → Type 0
WasKept name kept disk = (id : FileId) × IsProtected name kept id disk

-- the name begins a row of more than 40 links
abbrev pub IsDeep : List ℕ → Disk → Type 0
IsDeep name disk = (count : ℕ) → count < LINK_NAMES_MAX
    → disk.links.is_link (followed_name disk count name) ≡ true

-- each of the thousand names of a new file beside this one is taken, or is this one
pub record AreAllTaken (name : List ℕ) (disk : Disk) : Type 0 where
  pub folder : List ℕ
  pub is_folder : IsFolderOf folder name
  pub taken : (counted : ℕ) → counted < NEW_NAMES_MAX
      → IsNameTaken (new_name folder counted) disk ⊎ (name ≡ new_name folder counted)

-- there is no name for a new file beside what the name leads to
pub record IsFull (name : List ℕ) (disk : Disk) : Type 0 where
  pub real : List ℕ
  pub direct : disk.links.is_link real ≡ false
  pub one : AreOne disk real name
  pub all : AreAllTaken real disk

-- the name is no link, leads to this, and is what the other name's links come to
pub record StandsFor (real : List ℕ) (found : Option FileId)
    (name : List ℕ) (disk : Disk) : Type 0 where
  pub direct : disk.links.is_link real ≡ false
  pub leads : id_at disk real ≡ found
  pub one : AreOne disk real name
  pub by_name : ¬ LeadsThroughOpen name disk

-- what a write by name comes to: what was done and kept in mind, each moment, and why it failed
pub record IsWrite {T : Type 0} (result : Result T WriteError) (failed_before failed : ℕ)
    (before kept : List FileId) (old new : Option DiskHistory) (name bytes : List ℕ) : Type 0 where
  pub ok : OnOk result ((failed ≡ failed_before) × KeepsAll before kept
      × RunsCalls old new (AtWrite name bytes before) (AfterWrite name bytes before kept))
  pub err : OnErr result ((kept ≡ before)
      × RunsCalls old new (AtWrite name bytes before) (AfterFailure name bytes))
  pub cause : IfErr result (IsCauseOf failed_before failed
      (HoldsNow new (WasKept name before)) (HoldsNow new (LeadsThroughOpen name))
      (HoldsNow new (IsDeep name)) (HoldsNow new (IsFull name)))

-- what a write of a file leaves, on a disk that is told so, with so many failed calls of the system
pub record IsDiskWrite {S File T E : Type 0} (told : S → Option DiskHistory) (failures : S → ℕ)
    (result : Result T E) (old new : DiskFiles S File) (name bytes : List ℕ) : Type 0 where
  -- at each moment between two calls of the system, and at the end
  pub ok : OnOk result (RunsCalls (told old.system) (told new.system)
      (AtWrite name bytes old.kept.items)
      (AfterWrite name bytes old.kept.items new.kept.items))
  pub err : OnErr result (RunsCalls (told old.system) (told new.system)
      (AtWrite name bytes old.kept.items) (AfterFailure name bytes))
  -- a file that was kept in mind still is, and a write that fails adds none
  pub kept : KeepsAll old.kept.items new.kept.items
  pub err_kept : OnErr result (new.kept.items ≡ old.kept.items)
  -- where it is done no call of the system failed, so none was tried again
  pub ok_failures : OnOk result (failures new.system ≡ failures old.system)
  -- a write that fails is one fault, and no other write is one
  pub one_fault : OnErr result (all_faults new ≡ next_count (all_faults old))
  pub ok_faults : OnOk result (all_faults new ≡ all_faults old)
