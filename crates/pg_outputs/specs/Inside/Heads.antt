-- What heads keep as records are added, and which records are there.
use Rattle.std.specs.Prelude.{◌≡◌, ◌≢◌, ℕ, ◌+◌, ◌≤◌, List, length, slice_get, Some}
use Rattle.pg_outputs.specs.declared.records.Record.{Record}
use Rattle.pg_outputs.specs.Lists.{list_of}

-- each head of the old records is there, and stands for the same list
pub record Grows (old new : List Record) : Type 0 where
  pub longer : length old ≤ length new
  pub same : (h : ℕ) → h ≤ length old → list_of new h ≡ list_of old h

-- equal lists have equal heads
abbrev pub OneHeadEach : List Record → Type 0
OneHeadEach records = (h k : ℕ) → h ≤ length records → k ≤ length records
    → list_of records h ≡ list_of records k → h ≡ k

-- the record r has the head h
abbrev pub IsRecordOf : List Record → ℕ → Record → Type 0
IsRecordOf records h r = (i : ℕ) × (h ≡ i + 1) × (slice_get records i ≡ Some r)

-- the record r is not there
abbrev pub Lacks : List Record → Record → Type 0
Lacks records r = (i : ℕ) → slice_get records i ≢ Some r
