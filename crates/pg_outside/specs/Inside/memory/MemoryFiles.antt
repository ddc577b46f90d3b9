-- What `MemoryFiles` shows: its files, its counts of faults, and its calls.
use Rattle.std.specs.Prelude.{◌≡◌, ℕ, ◌+◌, ◌≤◌, List, take, length, min, Option, Some, None, IsSome, ◌⊎◌}
use Rattle.std.specs.FinMap as fin
use Rattle.pg_outside.specs.Inside.calls.ListedCalls.{ListedCalls, listed_calls}
use Rattle.pg_outside.specs.Content.{FileMap, FilesShown}
use Rattle.pg_outside.specs.Inside.ToldFiles.{file_at}
use Rattle.pg_outside.specs.Faults.{next_count}
use Rattle.pg_outside.specs.Inside.NameFaults.{EachRose, RoseByOneAtMost, SameCounts}
use Rattle.pg_outside.specs.FilesCalls.{FilesCall}
use Rattle.pg_outside.specs.Inside.memory.MissingNames.{times_in}
use Rattle.pg_outside.specs.Inside.memory.StoredFile.{file_map, room_in}
use Rattle.pg_outside.specs.declared.memory.files.MemoryFiles.{MemoryFiles}

-- the files
abbrev pub files_of : MemoryFiles → FileMap
files_of memory = file_map memory.files.items

-- the read faults of this name: those of every name, and the reads of this name that found no file
abbrev pub reads_failed_of : MemoryFiles → List ℕ → ℕ
reads_failed_of memory name = memory.reads_failed + times_in memory.missing.items name

-- the write faults, which are those of every name
abbrev pub writes_failed_of : MemoryFiles → List ℕ → ℕ
writes_failed_of memory name = memory.writes_failed

-- how many reads and writes there were; it stands still at the last value of u64
abbrev pub calls_of : MemoryFiles → ℕ
calls_of memory = memory.plans.calls

-- the reads and writes that there were, in their order
abbrev pub made_of : MemoryFiles → List FilesCall
made_of memory = memory.log.made

-- what it shows: it always tells its files
abbrev pub memory_shown : MemoryFiles → FilesShown
memory_shown memory = record {
  held = Some (files_of memory);
  read_faults = reads_failed_of memory;
  write_faults = writes_failed_of memory;
  calls = made_of memory;
}

-- the calls that are to fail
abbrev pub listed_of : MemoryFiles → ListedCalls
listed_of memory = listed_calls memory.plans.listed.items

-- what the next call is to keep, where it is listed
abbrev pub next_listed : MemoryFiles → Option (Option ℕ)
next_listed memory = fin.get (listed_of memory) (next_count (calls_of memory))

-- the next call is to fail
abbrev pub IsListed : MemoryFiles → Type 0
IsListed memory = IsSome (next_listed memory)

-- the next call is not to fail
abbrev pub IsUnlisted : MemoryFiles → Type 0
IsUnlisted memory = next_listed memory ≡ None

-- there is a file of this name
abbrev pub HasFile : MemoryFiles → List ℕ → Type 0
HasFile memory name = IsSome (file_at (files_of memory) name)

-- the files are as before
abbrev pub SameFiles : MemoryFiles → MemoryFiles → Type 0
SameFiles old new = files_of new ≡ files_of old

-- the file of this name was set to these bytes, and every other file is as before
abbrev pub WasSet : MemoryFiles → MemoryFiles → List ℕ → List ℕ → Type 0
WasSet old new name bytes = files_of new ≡ fin.insert (files_of old) name bytes

-- the read faults of every name are as before
abbrev pub SameReads : MemoryFiles → MemoryFiles → Type 0
SameReads old new = SameCounts (reads_failed_of old) (reads_failed_of new)

-- the write faults of every name are as before
abbrev pub SameWrites : MemoryFiles → MemoryFiles → Type 0
SameWrites old new = SameCounts (writes_failed_of old) (writes_failed_of new)

-- the read faults of every name rose
abbrev pub ReadsRose : MemoryFiles → MemoryFiles → Type 0
ReadsRose old new = EachRose (reads_failed_of old) (reads_failed_of new)

-- the write faults of every name rose
abbrev pub WritesRose : MemoryFiles → MemoryFiles → Type 0
WritesRose old new = EachRose (writes_failed_of old) (writes_failed_of new)

-- the read faults of no name rose by more than one
abbrev pub ReadsByOne : MemoryFiles → MemoryFiles → Type 0
ReadsByOne old new = RoseByOneAtMost (reads_failed_of old) (reads_failed_of new)

-- the write faults of no name rose by more than one
abbrev pub WritesByOne : MemoryFiles → MemoryFiles → Type 0
WritesByOne old new = RoseByOneAtMost (writes_failed_of old) (writes_failed_of new)

-- a listed write that keeps some first bytes sets the file to these, or leaves it as before
abbrev pub KeepsFront : MemoryFiles → MemoryFiles → List ℕ → List ℕ → Type 0
KeepsFront old new name bytes = (keep : ℕ) → next_listed old ≡ Some (Some keep)
    → SameFiles old new ⊎ WasSet old new name (take keep bytes)

-- a listed write that keeps first bytes sets a file that is there to them, where it has room
abbrev pub KeepsFrontWithin : MemoryFiles → MemoryFiles → List ℕ → List ℕ → Type 0
KeepsFrontWithin old new name bytes = (keep : ℕ) → next_listed old ≡ Some (Some keep)
    → HasFile old name
    → min keep (length bytes) ≤ room_in old.files.items name → WasSet old new name (take keep bytes)
