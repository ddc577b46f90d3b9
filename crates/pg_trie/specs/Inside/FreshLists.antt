-- New records of the lists without their hopeless entries, and what the cells make of them.
use Rattle.std.specs.Prelude.{◌≡◌, ◌≢◌, ℕ, ◌+◌, ◌<◌, ◌≤◌, nat_lt, if◌then◌else◌, List, ◌++◌, filter, length, get_or, Some}
use Rattle.std.specs.Ordering.{nat_cmp}
use Rattle.std.specs.Cmp.Lexicographic.{slice_cmp}
use Rattle.std.specs.FinMap.{find}
use Rattle.pg_types.specs.Inside.Placing.{cell_of}
use Rattle.pg_outputs.specs.declared.records.Record.{Record}
use Rattle.pg_outputs.specs.Lists.{list_of}
use Rattle.pg_outputs.specs.Inside.Heads.{OneHeadEach}
use Rattle.pg_cells.specs.Inside.linked.ValuedFamilies.{ValuedFamilies}
use Rattle.pg_cells.specs.Inside.linked.AreValuedFamilies.{AreValuedFamilies}
use Rattle.pg_trie.specs.declared.deleting.renew.TheConstants.{UNKNOWN}
use Rattle.pg_trie.specs.declared.hopeless.TheConstants.{HOPELESS}

-- the list without its hopeless entries
abbrev pub values_in : List (ℕ × ℕ) → List (ℕ × ℕ)
values_in l = filter (λ x. nat_lt x.0 HOPELESS) l

-- l is an end of the list
abbrev pub IsEnd : List (ℕ × ℕ) → List (ℕ × ℕ) → Type 0
IsEnd l list = (front : List (ℕ × ℕ)) × (list ≡ front ++ l)

-- a head among the new records whose list is that of an old head without its hopeless entries
pub record IsFreshHead (records : List Record) (old : ℕ)
    (fresh : List Record) (head : ℕ) : Type 0 where
  pub inside : head ≤ length fresh
  pub list : list_of fresh head ≡ values_in (list_of records old)

-- each head that is new is that of an end of the list
abbrev pub AreNeeded : List Record → List Record → List (ℕ × ℕ) → Type 0
AreNeeded old new list = (h : ℕ) → length old < h → h ≤ length new → IsEnd (list_of new h) list

-- no new head is known
abbrev pub AreUnknown : List ℕ → Type 0
AreUnknown heads = (u : ℕ) → u < length heads → get_or heads u 0 ≡ UNKNOWN

-- beside each head of a string with a cell below n stands that of its values in the new records
pub record AreFreshTo (cells : ValuedFamilies ℕ) (records : List Record)
    (n : ℕ) (fresh : List Record) (heads : List ℕ) : Type 0 where
  pub size : length heads ≡ length records + 1
  pub one_head : OneHeadEach fresh
  pub lists : (q : List ℕ) (cell u : ℕ) → cell_of cells.families q ≡ Some cell
      → cell < n → find (slice_cmp nat_cmp) q cells.values ≡ Some u
      → IsFreshHead records u fresh (get_or heads u 0)
  pub known : (u : ℕ) → u < length heads → get_or heads u 0 ≢ UNKNOWN
      → IsFreshHead records u fresh (get_or heads u 0)
  pub needed : (h : ℕ) → 0 < h → h ≤ length fresh
      → (q : List ℕ) × (old : ℕ) × (find (slice_cmp nat_cmp) q cells.values ≡ Some old)
      × IsEnd (list_of fresh h) (values_in (list_of records old))

-- beside each head of a string stands that of its values in the new records, and no other
abbrev pub AreFresh : ValuedFamilies ℕ → List Record → List Record → List ℕ → Type 0
AreFresh cells records fresh heads = (n : ℕ) × AreFreshTo cells records n fresh heads
    × ((q : List ℕ) (cell : ℕ) → cell_of cells.families q ≡ Some cell → cell < n)

-- strings with cells below n have the heads beside their old ones, and the others their old heads
pub record RenewsTo (old : ValuedFamilies ℕ) (n : ℕ)
    (heads : List ℕ) (new : ValuedFamilies ℕ) : Type 0 where
  pub held : AreValuedFamilies new
  pub signs : new.signs ≡ old.signs
  pub families : new.families ≡ old.families
  pub given : (q : List ℕ) (cell u : ℕ) → cell_of old.families q ≡ Some cell
      → find (slice_cmp nat_cmp) q old.values ≡ Some u
      → find (slice_cmp nat_cmp) q new.values ≡ Some (if nat_lt cell n then get_or heads u 0 else u)

-- each string has the head that stands beside its old one
pub record Renews (old : ValuedFamilies ℕ) (heads : List ℕ) (new : ValuedFamilies ℕ) : Type 0 where
  pub held : AreValuedFamilies new
  pub signs : new.signs ≡ old.signs
  pub families : new.families ≡ old.families
  pub given : (q : List ℕ) (u : ℕ) → find (slice_cmp nat_cmp) q old.values ≡ Some u
      → find (slice_cmp nat_cmp) q new.values ≡ Some (get_or heads u 0)
