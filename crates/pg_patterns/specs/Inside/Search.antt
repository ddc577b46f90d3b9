-- The search for a dotted string in a list of entries that are in order.
use Rattle.std.specs.Prelude.{◌≡◌, ℕ, ◌<◌, ◌≤◌, Bool, true, false, if◌then◌else◌, List, [], ◌∷◌, length, slice_index_or, Option, None, Some}
use Rattle.std.specs.declared.cmp.Ordering.{Ordering}
use Rattle.std.specs.Ordering.{is_gt, nat_cmp, ordering_then}
use Rattle.pg_patterns.specs.Values.{Patterns}
use Rattle.pg_patterns.specs.DottedSigns.{dotted_cmp}
use Rattle.pg_patterns.specs.Inside.DottedOrder.{same_dotted}

-- the dotted string k comes after that of the entry
abbrev pub is_after : List ℕ × ℕ → (List ℕ × ℕ) × ℕ → Bool
is_after k e = is_gt (dotted_cmp k e.0)

-- the first entry is that of k
abbrev pub begins_with : List ℕ × ℕ → Patterns → Bool
begins_with k [] = false
begins_with k (e ∷ es) = same_dotted k e.0

-- entries stand in the order of their dotted strings, and those of one by falling value
abbrev pub entry_cmp : (List ℕ × ℕ) × ℕ → (List ℕ × ℕ) × ℕ → Ordering
entry_cmp e f = ordering_then (dotted_cmp e.0 f.0) (nat_cmp f.1 e.1)

-- i entries come before the dotted string k
pub record HasRank (P : Patterns) (k : List ℕ × ℕ) (i : ℕ) : Type 0 where
  pub within : i ≤ length P
  pub before : (j : ℕ) (d : (List ℕ × ℕ) × ℕ) → j < i → is_after k (slice_index_or P j d) ≡ true
  pub behind : (j : ℕ) (d : (List ℕ × ℕ) × ℕ) → i ≤ j
      → j < length P → is_after k (slice_index_or P j d) ≡ false

-- the value of the first entry, where it is that of k
abbrev pub first_value : List ℕ × ℕ → Patterns → Option ℕ
first_value k [] = None
first_value k (e ∷ es) = if same_dotted k e.0 then Some e.1 else None
