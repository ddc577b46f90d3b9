-- What the records keep.
use Rattle.std.specs.Prelude.{◌≡◌, ℕ, ◌≤◌, List, slice_get, Some}
use Rattle.pg_outputs.specs.declared.records.Record.{Record}

-- no two records are equal, and each leads back: its next is 0 or the head of an earlier record
pub record AreShared (records : List Record) : Type 0 where
  pub apart : (i j : ℕ) (r : Record) → slice_get records i ≡ Some r
      → slice_get records j ≡ Some r → i ≡ j
  pub back : (i : ℕ) (r : Record) → slice_get records i ≡ Some r → r.next ≤ i
