-- Signs that are at most the greatest.
use Rattle.std.proofs.Common.{◌≡◌, ℕ, ◌≤◌, nat_le, nat_eq, true, ◌&&◌, List, [], ◌∷◌, length, ◌⊎◌, inl, inr, refl}
use Rattle.std.proofs.lemmas.Bool.{leb-true, le-leb, and_from}
use Rattle.std.proofs.lemmas.List.Elements.{All-nil, All-cons, All-head, All-tail}
use Rattle.std.specs.List.{All, list_all}
use Rattle.pg_types.specs.Inside.counting.Counts.{Counts, is_counted}
use Rattle.pg_types.specs.Inside.Signs.{SignsWithin, is_sign}
use Rattle.pg_patterns.specs.Inside.PatternMaps.{SignsUpTo, is_entry}
use Rattle.pg_plain.specs.Inside.Strings.{has_signs_up_to}
use Rattle.pg_plain.proofs.Counted.{counted_good, counted_len}
use Rattle.pg_types.proofs.BoolFacts.{and_first, and_second}
use Rattle.pg_patterns.specs.Values.{Patterns}

-- the test and the fact
pub up_to_told : (n : ℕ) (q : List ℕ) → SignsWithin n q → has_signs_up_to n q ≡ true
up_to_told n [] h = refl
up_to_told n (s ∷ q) h =
    let here = All-head (λ s. (1 ≤ s) × (s ≤ n)) s q h in
    and_from (nat_le 1 s && nat_le s n) (has_signs_up_to n q) (and_from (nat_le 1 s) (nat_le s n) (le-leb 1 s here.0) (le-leb s n here.1)) (up_to_told n q (All-tail (λ s. (1 ≤ s) × (s ≤ n)) s q h))

pub within_told : (n : ℕ) (q : List ℕ) → has_signs_up_to n q ≡ true → SignsWithin n q
within_told n [] h = All-nil (λ s. (1 ≤ s) × (s ≤ n))
within_told n (s ∷ q) h =
    let here = and_first (nat_le 1 s && nat_le s n) (has_signs_up_to n q) h in
    All-cons (λ s. (1 ≤ s) × (s ≤ n)) s q (leb-true 1 s (and_first (nat_le 1 s) (nat_le s n) here), leb-true s n (and_second (nat_le 1 s) (nat_le s n) here))
    (within_told n q (and_second (nat_le 1 s && nat_le s n) (has_signs_up_to n q) h))

least_told : (n : ℕ) (q : List ℕ) → has_signs_up_to n q ≡ true → All (λ s. s ≤ n) q
least_told n [] h = All-nil (λ s. s ≤ n)
least_told n (s ∷ q) h = All-cons (λ s. s ≤ n) s q (leb-true s n (and_second (nat_le 1 s) (nat_le s n) (and_first (nat_le 1 s && nat_le s n) (has_signs_up_to n q) h)))
    (least_told n q (and_second (nat_le 1 s && nat_le s n) (has_signs_up_to n q) h))

both_told : (n : ℕ) (q : List ℕ) → list_all is_sign q ≡ true → All (λ s. s ≤ n) q → has_signs_up_to n q ≡ true
both_told n [] signs upto = refl
both_told n (s ∷ q) signs upto =
    and_from (nat_le 1 s && nat_le s n) (has_signs_up_to n q) (and_from (nat_le 1 s) (nat_le s n) (and_first (is_sign s) (list_all is_sign q) signs) (le-leb s n (All-head (λ s. s ≤ n) s q upto)))
    (both_told n q (and_second (is_sign s) (list_all is_sign q) signs) (All-tail (λ s. s ≤ n) s q upto))

entry_signs : (e : (List ℕ × ℕ) × ℕ) → is_entry e ≡ true → list_all is_sign e.0.0 ≡ true
entry_signs e h = and_second _ _ (and_first _ _ (and_first _ _ (and_first _ _ h)))

-- the signs of patterns
pub patterns_told : (n : ℕ) (P : Patterns) → list_all is_entry P ≡ true → SignsUpTo n P → list_all (λ e. has_signs_up_to n e.0.0) P ≡ true
patterns_told n [] sound upto = refl
patterns_told n (e ∷ es) sound upto =
    and_from (has_signs_up_to n e.0.0) (list_all (λ (x : (List ℕ × ℕ) × ℕ). has_signs_up_to n x.0.0) es)
    (both_told n e.0.0 (entry_signs e (and_first (is_entry e) (list_all is_entry es) sound)) (All-head (λ (e : (List ℕ × ℕ) × ℕ). All (λ s. s ≤ n) e.0.0) e es upto))
    (patterns_told n es (and_second (is_entry e) (list_all is_entry es) sound) (All-tail (λ (e : (List ℕ × ℕ) × ℕ). All (λ s. s ≤ n) e.0.0) e es upto))

pub patterns_up_to : (n : ℕ) (P : Patterns) → list_all (λ e. has_signs_up_to n e.0.0) P ≡ true → SignsUpTo n P
patterns_up_to n [] h = All-nil (λ (e : (List ℕ × ℕ) × ℕ). All (λ s. s ≤ n) e.0.0)
patterns_up_to n (e ∷ es) h =
    All-cons (λ (e : (List ℕ × ℕ) × ℕ). All (λ s. s ≤ n) e.0.0) e es (least_told n e.0.0 (and_first (has_signs_up_to n e.0.0) (list_all (λ (x : (List ℕ × ℕ) × ℕ). has_signs_up_to n x.0.0) es) h))
    (patterns_up_to n es (and_second (has_signs_up_to n e.0.0) (list_all (λ (x : (List ℕ × ℕ) × ℕ). has_signs_up_to n x.0.0) es) h))

-- those of hopeless dotted strings, and of counted windows
pub places_within : (n : ℕ) (H : List ((List ℕ × ℕ) × Unit {0})) → list_all (λ e. has_signs_up_to n e.0.0) H ≡ true → All (λ e. SignsWithin n e.0.0) H
places_within n [] h = All-nil (λ (e : (List ℕ × ℕ) × Unit {0}). SignsWithin n e.0.0)
places_within n (e ∷ es) h =
    All-cons (λ (e : (List ℕ × ℕ) × Unit {0}). SignsWithin n e.0.0) e es
    (within_told n e.0.0 (and_first (has_signs_up_to n e.0.0) (list_all (λ (x : (List ℕ × ℕ) × Unit {0}). has_signs_up_to n x.0.0) es) h))
    (places_within n es (and_second (has_signs_up_to n e.0.0) (list_all (λ (x : (List ℕ × ℕ) × Unit {0}). has_signs_up_to n x.0.0) es) h))

pub counted_within : (n : ℕ) (C : Counts) → list_all (λ e. has_signs_up_to n e.0) C ≡ true → (u : List ℕ) → is_counted C u ≡ true → SignsWithin n u
counted_within n C all u there = within_told n u (counted_good (has_signs_up_to n) C u there all)

-- a window that can be entered has the length of the pass
pub enters_len : (C : Counts) (n : ℕ) (u : List ℕ) (len : ℕ) → (is_counted C u ≡ true) ⊎ ((length u ≡ len) × SignsWithin n u) → list_all (λ e. nat_eq (length e.0) len) C ≡ true → length u ≡ len
enters_len C n u len can all = elim can [
  | inl counted ↦ counted_len C u len counted all
  | inr it ↦ it.0
]

-- and signs of the table
pub enters_signs : (C : Counts) (n : ℕ) (u : List ℕ) (len : ℕ) → (is_counted C u ≡ true) ⊎ ((length u ≡ len) × SignsWithin n u) → list_all (λ e. has_signs_up_to n e.0) C ≡ true
    → has_signs_up_to n u ≡ true
enters_signs C n u len can all = elim can [
  | inl counted ↦ counted_good (has_signs_up_to n) C u counted all
  | inr it ↦ up_to_told n u it.1
]
