-- The positions that are open where a level begins, and those with care, one after the other.
use Rattle.std.proofs.Common.{◌≡◌, ℕ, ◌+◌, ◌-◌, ◌≤◌, ◌<◌, nat_lt, nat_le, nat_eq, Bool, true, false, cond, not, ◌&&◌, [], length, slice_index_or, is_some, Some, None, inl, inr, refl, sym, ap, ◌∙◌, arith}
use Rattle.std.specs.List.{list_any, range_with_len}
use Rattle.std.specs.Option.{option_map_or}
use Rattle.std.proofs.lemmas.Bool.{cases_eq, cases_lt, eq-eqb, ne_eqb, lt-ltb, le-ltb, leb-true}
use Rattle.pg_types.specs.declared.marks.Mark.TheVariants.{Nothing, Error, Missed, Found, DontCare}
use Rattle.pg_translate.specs.Alphabets.{Alphabet}
use Rattle.pg_translate.specs.Reach.{positions}
use Rattle.pg_dict.specs.Word.{Word}
use Rattle.pg_patterns.specs.Values.{Patterns, value_at}
use Rattle.pg_select.specs.CountedPositions.{counts_as}
use Rattle.pg_select.specs.Statuses.{is_odd, status_at}
use Rattle.pg_driver.specs.Inside.counting.OpenSigns.{has_care, is_in_reach}
use Rattle.pg_driver.proofs.OpenCounted.{any_above, any_below, any_inside}

-- the first place of a word is out of reach
zero_out : (left right size : ℕ) → list_any (nat_eq 0) (positions left right size) ≡ false
zero_out left right size = by (nat_le (left + right + 2) size)
  where
    by : (b : Bool) → list_any (nat_eq 0) (option_map_or (λ (ends : ℕ × ℕ). range_with_len ends.0 (ends.1 + 1 - ends.0)) (cond b (Some (left + 1, size - right - 1)) None) []) ≡ false
    by true = any_below 0 (left + 1) (size - right - 1 + 1 - (left + 1)) (omega arith)
    by false = refl

-- a position is in reach and passes a test, as whether it counts by its status or has care
abbrev pub passes : Alphabet → Word → (ℕ → Bool) → ℕ → Bool
passes m w test q = is_in_reach m w q && test q

module _ (m : Alphabet) (w : Word) (test : ℕ → Bool) (first end : ℕ) (is : positions m.left m.right (length w.signs) ≡ range_with_len first (end - first)) where
  reach_is : (q : ℕ) → is_in_reach m w q ≡ list_any (nat_eq q) (range_with_len first (end - first))
  reach_is q = ap (list_any (nat_eq q)) is

  not_open : (q : ℕ) → is_in_reach m w q ≡ false → passes m w test q ≡ false
  not_open q out = ap (λ b. b && test q) out

  -- before the first position in reach, and behind the last one, nothing opens
  first_before : (start s : ℕ) → s < start + first → passes m w test (s - start) ≡ false
  first_before start s low = not_open (s - start) (elim (cases_lt s start) [
    | inl before ↦ (let none : s - start ≡ 0 = omega arith in ap (λ q. list_any (nat_eq q) (positions m.left m.right (length w.signs))) none ∙ zero_out m.left m.right (length w.signs))
    | inr behind ↦ reach_is (s - start) ∙ any_below (s - start) first (end - first) (omega arith)
  ])

  last_behind : (start p s : ℕ) → first ≤ p → end ≤ p → start + p ≤ s → passes m w test (s - start) ≡ false
  last_behind start p s some past high = not_open (s - start) (reach_is (s - start) ∙ any_above (s - start) first (end - first) (omega arith))

  pub opens_first : (start s : ℕ) (old : Bool) → old ≡ (not (nat_lt s (start + first) && passes m w test (s - start)) && old)
  opens_first start s old = elim (cases_lt s (start + first)) [
    | inl low ↦ sym (ap (λ b. not (nat_lt s (start + first) && b) && old) (first_before start s low) ∙ ap (λ b. not b && old) (none (nat_lt s (start + first))))
    | inr high ↦ sym (ap (λ b. not (b && passes m w test (s - start)) && old) (le-ltb s (start + first) high))
  ]
    where
      none : (b : Bool) → (b && false) ≡ false
      none true = refl
      none false = refl

  pub opens_last : (start p s : ℕ) (old : Bool) → first ≤ p → end ≤ p → (not (nat_lt s (start + p) && passes m w test (s - start)) && old) ≡ (not (passes m w test (s - start)) && old)
  opens_last start p s old some past = elim (cases_lt s (start + p)) [
    | inl low ↦ ap (λ b. not (b && passes m w test (s - start)) && old) (lt-ltb s (start + p) low)
    | inr high ↦ ap (λ b. not (nat_lt s (start + p) && b) && old) (last_behind start p s some past high) ∙ ap (λ b. not b && old) (none (nat_lt s (start + p)))
        ∙ sym (ap (λ b. not b && old) (last_behind start p s some past high))
  ]
    where
      none : (b : Bool) → (b && false) ≡ false
      none true = refl
      none false = refl

  -- a position more
  pub opens_next : (start p s : ℕ) (counts old : Bool) → first ≤ p → p < end → counts ≡ test p
      → (not (nat_eq s (start + p) && counts) && (not (nat_lt s (start + p) && passes m w test (s - start)) && old)) ≡ (not (nat_lt s (start + (p + 1)) && passes m w test (s - start)) && old)
  opens_next start p s counts old some less same = elim (cases_eq s (start + p)) [
    | inl here ↦
        let place : s - start ≡ p = omega arith in
        let opens : passes m w test (s - start) ≡ counts = ap (passes m w test) place ∙ ap (λ b. b && test p) (reach_is p ∙ any_inside p first (end - first) some (omega arith)) ∙ sym same in
        (λ i. not (eq-eqb s (start + p) here i && counts) && (not (le-ltb s (start + p) (omega arith) i && passes m w test (s - start)) && old))
        ∙ (λ i. not (sym (lt-ltb s (start + (p + 1)) (omega arith)) i && sym opens i) && old)
    | inr other ↦ elim (cases_lt s (start + p)) [
      | inl low ↦
          (λ i. not (ne_eqb s (start + p) other i && counts) && (not (lt-ltb s (start + p) low i && passes m w test (s - start)) && old))
          ∙ (λ i. not (sym (lt-ltb s (start + (p + 1)) (omega arith)) i && passes m w test (s - start)) && old)
      | inr high ↦
          (λ i. not (ne_eqb s (start + p) other i && counts) && (not (le-ltb s (start + p) high i && passes m w test (s - start)) && old))
          ∙ (λ i. not (sym (le-ltb s (start + (p + 1)) (omega arith)) i && passes m w test (s - start)) && old)
    ]
  ]

-- behind a word nothing opens
pub opens_behind : (m : Alphabet) (w : Word) (test : ℕ → Bool) (q : ℕ) (old : Bool) → length w.signs ≤ q → (not (passes m w test q) && old) ≡ old
opens_behind m w test q old past = ap (λ b. not (b && test q) && old) (by (nat_le (m.left + m.right + 2) (length w.signs)) (leb-true (m.left + m.right + 2) (length w.signs)))
  where
    by : (b : Bool) → (b ≡ true → m.left + m.right + 2 ≤ length w.signs)
        → list_any (nat_eq q) (option_map_or (λ (ends : ℕ × ℕ). range_with_len ends.0 (ends.1 + 1 - ends.0)) (cond b (Some (m.left + 1, length w.signs - m.right - 1)) None) []) ≡ false
    by true enough = let long : m.left + m.right + 2 ≤ length w.signs = enough refl in any_above q (m.left + 1) (length w.signs - m.right - 1 + 1 - (m.left + 1)) (omega arith)
    by false enough = refl

-- signs before a word stay as they are
pub opens_before : (m : Alphabet) (w : Word) (test : ℕ → Bool) (start s : ℕ) (old : Bool) → s < start → (not (passes m w test (s - start)) && old) ≡ old
opens_before m w test start s old before =
    let none : s - start ≡ 0 = omega arith in
    ap (λ q. not (is_in_reach m w q && test q) && old) none
    ∙ ap (λ b. not (b && test 0) && old) (zero_out m.left m.right (length w.signs))

-- whether a position counts at a level by its status, and whether it has care
abbrev pub counts_in : ℕ → Patterns → Word → ℕ → Bool
counts_in level P w q = is_some (counts_as level (status_at P w q))

abbrev pub cares_in : Word → ℕ → Bool
cares_in w q = slice_index_or w.cares q true

-- a status tells the care
pub care_is : (P : Patterns) (w : Word) (p : ℕ) → has_care (status_at P w p) ≡ cares_in w p
care_is P w p = by (slice_index_or w.cares p true) (slice_index_or w.hyphens p false) (is_odd (value_at P w.signs p))
  where
    by : (care hyphen odd : Bool) → has_care (cond care (cond hyphen (cond odd Found Missed) (cond odd Error Nothing)) DontCare) ≡ care
    by false hyphen odd = refl
    by true true true = refl
    by true true false = refl
    by true false true = refl
    by true false false = refl
