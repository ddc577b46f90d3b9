-- What the cells and the records of a pattern trie keep.
use Rattle.std.specs.Prelude.{◌≡◌, ℕ, ◌≤◌, List, length, Some}
use Rattle.std.specs.Ordering.{nat_cmp}
use Rattle.std.specs.Cmp.Lexicographic.{slice_cmp}
use Rattle.std.specs.FinMap.{find}
use Rattle.pg_types.specs.declared.limits.TheConstants.{PATTERN_SIGNS_MAX, SIGNS_MAX}
use Rattle.pg_outputs.specs.declared.records.Record.{Record}
use Rattle.pg_outputs.specs.Lists.{list_of}
use Rattle.pg_cells.specs.Inside.linked.ValuedFamilies.{ValuedFamilies}
use Rattle.pg_cells.specs.Inside.linked.AreValuedFamilies.{AreValuedFamilies}
use Rattle.pg_trie.specs.Inside.Lists.{Rises, DotsUpTo}

-- the head of a string: it has a list, which rises, and its dots are in the string
pub record IsListHead (records : List Record) (q : List ℕ) (head : ℕ) : Type 0 where
  pub inside : head ≤ length records
  pub short : length q ≤ PATTERN_SIGNS_MAX
  pub rises : Rises 0 (list_of records head)
  pub dots : DotsUpTo (length q) (list_of records head)

-- what is always true of the cells and the records of a pattern trie
pub record IsPatternTrie (cells : ValuedFamilies ℕ) (records : List Record) : Type 0 where
  pub signs : cells.signs ≤ SIGNS_MAX
  pub held : AreValuedFamilies cells
  pub heads : (q : List ℕ) (head : ℕ) → find (slice_cmp nat_cmp) q cells.values ≡ Some head
      → IsListHead records q head
