-- The bits of a row after a change of one of its numbers, and 64 of them as a number.
use Rattle.std.proofs.Common.{◌≡◌, ◌≢◌, ℕ, zero, suc, ◌+◌, ◌-◌, ◌*◌, ◌/◌, ◌%◌, ◌^◌, ◌<◌, ◌≤◌, max, nat_eq, Bool, true, false, not, ◌&&◌, ◌||◌, List, length, set, get_or, inl, inr, refl, sym, ap, ◌∙◌, arith, bit_or, bit_and, w64}
use Rattle.std.specs.Int.{bit_at, bit_not}
use Rattle.std.proofs.lemmas.Bool.{eq-eqb, ne_eqb, cases_eq, cases_lt}
use Rattle.std.proofs.lemmas.List.{get_or-set_same, get_or-set_other}
use Rattle.std.proofs.lemmas.Nat.{pow_pos, shr-shr}
use Rattle.std.proofs.lemmas.Nat.Bits.{bit_at_or, bit_at-zero, bit_at_above, bit_at_cat_low, bit_at_cat_high, bit_at_set_same, bit_at_set_other, bit_at_clear_same, bit_at_clear_other}
use Rattle.pg_types.specs.Inside.Bits.{has_bit}

-- whether one of two bits is set
pub either : (a b : ℕ) → a < 2 → b < 2 → nat_eq (max a b) 1 ≡ (nat_eq a 1 || nat_eq b 1)
either zero zero x y = refl
either zero (suc zero) x y = refl
either (suc zero) zero x y = refl
either (suc zero) (suc zero) x y = refl
either (suc (suc a)) b x y = absurd (omega arith)
either a (suc (suc b)) x y = absurd (omega arith)

pub or_true : (a b : Bool) → a ≡ true → (a || b) ≡ true
or_true true b is = refl
or_true false b is = absurd (let wrong : false ≡ true = is in cc)

pub or_false : (a b : Bool) → a ≡ false → (a || b) ≡ b
or_false false b is = refl
or_false true b is = absurd (let wrong : true ≡ false = is in cc)

pub and_not_true : (a b : Bool) → a ≡ true → (not a && b) ≡ false
and_not_true true b is = refl
and_not_true false b is = absurd (let wrong : false ≡ true = is in cc)

pub and_not_false : (a b : Bool) → a ≡ false → (not a && b) ≡ b
and_not_false false b is = refl
and_not_false true b is = absurd (let wrong : true ≡ false = is in cc)

-- a bit of a row after one of its numbers changed: in another number it stays, and in that one it is a bit of the new one
changed_same : (row : List ℕ) (i j x : ℕ) → i < 64 * length row → j / 64 ≡ i / 64 → has_bit (set row (i / 64) x) j ≡ nat_eq (bit_at x (j % 64)) 1
unfolding has_bit
changed_same row i j x within same =
    let low : i / 64 < length row = omega arith in
    ap (λ v. nat_eq (bit_at v (j % 64)) 1) (ap (λ k. get_or (set row (i / 64) x) k 0) same ∙ get_or-set_same row (i / 64) x 0 low)

changed_other : (row : List ℕ) (i j x : ℕ) → j / 64 ≢ i / 64 → has_bit (set row (i / 64) x) j ≡ has_bit row j
unfolding has_bit
changed_other row i j x other = ap (λ v. nat_eq (bit_at v (j % 64)) 1) (get_or-set_other row (i / 64) (j / 64) x 0 other)

-- a bit more
pub set_bit : (row : List ℕ) (i j : ℕ) → i < 64 * length row → has_bit (set row (i / 64) (bit_or (get_or row (i / 64) 0) (1 * 2 ^ (i % 64) % 2 ^ 64))) j ≡ (nat_eq j i || has_bit row j)
unfolding has_bit
set_bit row i j within = elim (cases_eq (j / 64) (i / 64)) [
  | inl same ↦ elim (cases_eq (j % 64) (i % 64)) [
    | inl low ↦ here same low
    | inr other ↦ near same other
  ]
  | inr apart ↦ far apart
]
  where
    small : i % 64 < 64
    small = omega arith

    here : j / 64 ≡ i / 64 → j % 64 ≡ i % 64 → has_bit (set row (i / 64) (bit_or (get_or row (i / 64) 0) (1 * 2 ^ (i % 64) % 2 ^ 64))) j ≡ (nat_eq j i || has_bit row j)
    here same low =
        let is : j ≡ i = omega arith in
        changed_same row i j (bit_or (get_or row (i / 64) 0) (1 * 2 ^ (i % 64) % 2 ^ 64)) within same
        ∙ ap (λ k. nat_eq (bit_at (bit_or (get_or row (i / 64) 0) (1 * 2 ^ (i % 64) % 2 ^ 64)) k) 1) low
        ∙ ap (λ b. nat_eq b 1) (bit_at_set_same w64 (get_or row (i / 64) 0) (i % 64) small)
        ∙ sym (or_true (nat_eq j i) (has_bit row j) (eq-eqb j i is))

    near : j / 64 ≡ i / 64 → j % 64 ≢ i % 64 → has_bit (set row (i / 64) (bit_or (get_or row (i / 64) 0) (1 * 2 ^ (i % 64) % 2 ^ 64))) j ≡ (nat_eq j i || has_bit row j)
    near same other =
        let apart : j ≢ i = λ is. other (ap (λ k. k % 64) is) in
        changed_same row i j (bit_or (get_or row (i / 64) 0) (1 * 2 ^ (i % 64) % 2 ^ 64)) within same
        ∙ ap (λ b. nat_eq b 1) (bit_at_set_other w64 (get_or row (i / 64) 0) (i % 64) small (j % 64) other)
        ∙ ap (λ k. nat_eq (bit_at (get_or row k 0) (j % 64)) 1) (sym same)
        ∙ sym (or_false (nat_eq j i) (has_bit row j) (ne_eqb j i apart))

    far : j / 64 ≢ i / 64 → has_bit (set row (i / 64) (bit_or (get_or row (i / 64) 0) (1 * 2 ^ (i % 64) % 2 ^ 64))) j ≡ (nat_eq j i || has_bit row j)
    far other =
        let apart : j ≢ i = λ is. other (ap (λ k. k / 64) is) in
        changed_other row i j (bit_or (get_or row (i / 64) 0) (1 * 2 ^ (i % 64) % 2 ^ 64)) other
        ∙ sym (or_false (nat_eq j i) (has_bit row j) (ne_eqb j i apart))

-- a bit less
pub clear_bit : (row : List ℕ) (i j : ℕ) → i < 64 * length row → has_bit (set row (i / 64) (bit_and (get_or row (i / 64) 0) (bit_not w64 (1 * 2 ^ (i % 64) % 2 ^ 64)))) j
    ≡ (not (nat_eq j i) && has_bit row j)
unfolding has_bit
clear_bit row i j within = elim (cases_eq (j / 64) (i / 64)) [
  | inl same ↦ elim (cases_eq (j % 64) (i % 64)) [
    | inl low ↦ here same low
    | inr other ↦ near same other
  ]
  | inr apart ↦ far apart
]
  where
    small : i % 64 < 64
    small = omega arith

    place : j % 64 < 64
    place = omega arith

    here : j / 64 ≡ i / 64 → j % 64 ≡ i % 64 → has_bit (set row (i / 64) (bit_and (get_or row (i / 64) 0) (bit_not w64 (1 * 2 ^ (i % 64) % 2 ^ 64)))) j ≡ (not (nat_eq j i) && has_bit row j)
    here same low =
        let is : j ≡ i = omega arith in
        changed_same row i j (bit_and (get_or row (i / 64) 0) (bit_not w64 (1 * 2 ^ (i % 64) % 2 ^ 64))) within same
        ∙ ap (λ k. nat_eq (bit_at (bit_and (get_or row (i / 64) 0) (bit_not w64 (1 * 2 ^ (i % 64) % 2 ^ 64))) k) 1) low
        ∙ ap (λ b. nat_eq b 1) (bit_at_clear_same w64 (get_or row (i / 64) 0) (i % 64) small)
        ∙ sym (and_not_true (nat_eq j i) (has_bit row j) (eq-eqb j i is))

    near : j / 64 ≡ i / 64 → j % 64 ≢ i % 64 → has_bit (set row (i / 64) (bit_and (get_or row (i / 64) 0) (bit_not w64 (1 * 2 ^ (i % 64) % 2 ^ 64)))) j ≡ (not (nat_eq j i) && has_bit row j)
    near same other =
        let apart : j ≢ i = λ is. other (ap (λ k. k % 64) is) in
        changed_same row i j (bit_and (get_or row (i / 64) 0) (bit_not w64 (1 * 2 ^ (i % 64) % 2 ^ 64))) within same
        ∙ ap (λ b. nat_eq b 1) (bit_at_clear_other w64 (get_or row (i / 64) 0) (i % 64) small (j % 64) place other)
        ∙ ap (λ k. nat_eq (bit_at (get_or row k 0) (j % 64)) 1) (sym same)
        ∙ sym (and_not_false (nat_eq j i) (has_bit row j) (ne_eqb j i apart))

    far : j / 64 ≢ i / 64 → has_bit (set row (i / 64) (bit_and (get_or row (i / 64) 0) (bit_not w64 (1 * 2 ^ (i % 64) % 2 ^ 64)))) j ≡ (not (nat_eq j i) && has_bit row j)
    far other =
        let apart : j ≢ i = λ is. other (ap (λ k. k / 64) is) in
        changed_other row i j (bit_and (get_or row (i / 64) 0) (bit_not w64 (1 * 2 ^ (i % 64) % 2 ^ 64))) other
        ∙ sym (and_not_false (nat_eq j i) (has_bit row j) (ne_eqb j i apart))

-- a bit of a number that is shifted to the left
cut_bit : (n j : ℕ) → j < 64 → bit_at (n % 2 ^ 64) j ≡ bit_at n j
cut_bit n j low =
    let parts : n / 2 ^ 64 * 2 ^ 64 + n % 2 ^ 64 ≡ n = omega arith in
    sym (bit_at_cat_low (n / 2 ^ 64) 64 (n % 2 ^ 64) j low) ∙ ap (λ m. bit_at m j) parts

shifted_low : (n s j : ℕ) → j < 64 → j < s → bit_at (n * 2 ^ s % 2 ^ 64) j ≡ 0
shifted_low n s j low under =
    let plus : n * 2 ^ s ≡ n * 2 ^ s + 0 = omega arith in
    cut_bit (n * 2 ^ s) j low ∙ ap (λ m. bit_at m j) plus ∙ bit_at_cat_low n s 0 j under ∙ bit_at-zero j

shifted_high : (n s j : ℕ) → j < 64 → s ≤ j → bit_at (n * 2 ^ s % 2 ^ 64) j ≡ bit_at n (j - s)
shifted_high n s j low from =
    let plus : n * 2 ^ s ≡ n * 2 ^ s + 0 = omega arith in
    cut_bit (n * 2 ^ s) j low ∙ ap (λ m. bit_at m j) plus ∙ bit_at_cat_high n s 0 j (pow_pos s) from

-- a number that is shifted to the left by 64 - k in two steps
next_low : (b k j : ℕ) → k < 64 → j + k < 64 → bit_at (b * 2 ^ 1 % 2 ^ 64 * 2 ^ (63 - k) % 2 ^ 64) j ≡ 0
next_low b k j within under = elim (cases_lt j (63 - k)) [
  | inl less ↦ shifted_low (b * 2 ^ 1 % 2 ^ 64) (63 - k) j (omega arith) less
  | inr more ↦ shifted_high (b * 2 ^ 1 % 2 ^ 64) (63 - k) j (omega arith) more ∙ shifted_low b 1 (j - (63 - k)) (omega arith) (omega arith)
]

next_high : (b k j : ℕ) → k < 64 → j < 64 → 64 ≤ j + k → bit_at (b * 2 ^ 1 % 2 ^ 64 * 2 ^ (63 - k) % 2 ^ 64) j ≡ bit_at b (j + k - 64)
next_high b k j within low over =
    let place : j - (63 - k) - 1 ≡ j + k - 64 = omega arith in
    shifted_high (b * 2 ^ 1 % 2 ^ 64) (63 - k) j low (omega arith)
    ∙ shifted_high b 1 (j - (63 - k)) (omega arith) (omega arith)
    ∙ ap (bit_at b) place

-- a bit of the 64 that begin with bit k of a number and go on in the next one
joined_bit : (a b k j : ℕ) → k < 64 → j + k < 64 → bit_at (bit_or (a / 2 ^ k) (b * 2 ^ 1 % 2 ^ 64 * 2 ^ (63 - k) % 2 ^ 64)) j ≡ bit_at a (j + k)
joined_bit a b k j within under =
    let order : k + j ≡ j + k = omega arith in
    bit_at_or (a / 2 ^ k) (b * 2 ^ 1 % 2 ^ 64 * 2 ^ (63 - k) % 2 ^ 64) j
    ∙ ap (λ x. max (bit_at (a / 2 ^ k) j) x) (next_low b k j within under)
    ∙ max_none (bit_at (a / 2 ^ k) j)
    ∙ ap (λ x. x % 2) (shr-shr a k j)
    ∙ ap (bit_at a) order
  where
    max_none : (x : ℕ) → max x 0 ≡ x
    max_none x = omega arith

joined_next : (a b k j : ℕ) → a < 2 ^ 64 → k < 64 → j < 64 → 64 ≤ j + k → bit_at (bit_or (a / 2 ^ k) (b * 2 ^ 1 % 2 ^ 64 * 2 ^ (63 - k) % 2 ^ 64)) j ≡ bit_at b (j + k - 64)
joined_next a b k j small within low over =
    let none : bit_at (a / 2 ^ k) j ≡ 0 = ap (λ x. x % 2) (shr-shr a k j) ∙ bit_at_above a 64 (k + j) small (omega arith) in
    bit_at_or (a / 2 ^ k) (b * 2 ^ 1 % 2 ^ 64 * 2 ^ (63 - k) % 2 ^ 64) j
    ∙ ap (λ x. max x (bit_at (b * 2 ^ 1 % 2 ^ 64 * 2 ^ (63 - k) % 2 ^ 64) j)) none
    ∙ none_max (bit_at (b * 2 ^ 1 % 2 ^ 64 * 2 ^ (63 - k) % 2 ^ 64) j)
    ∙ next_high b k j within low over
  where
    none_max : (x : ℕ) → max 0 x ≡ x
    none_max x = omega arith

-- the 64 bits of a row from one on
pub from_bit : (row : List ℕ) (i j a b : ℕ) → a ≡ get_or row (i / 64) 0 → b ≡ get_or row (i / 64 + 1) 0 → a < 2 ^ 64 → j < 64
    → nat_eq (bit_at (bit_or (a / 2 ^ (i % 64)) (b * 2 ^ 1 % 2 ^ 64 * 2 ^ (63 - i % 64) % 2 ^ 64)) j) 1 ≡ has_bit row (i + j)
unfolding has_bit
from_bit row i j a b first second small low = elim (cases_lt (j + i % 64) 64) [
  | inl under ↦
      let number : i / 64 ≡ (i + j) / 64 = omega arith in
      let bit : j + i % 64 ≡ (i + j) % 64 = omega arith in
      ap (λ x. nat_eq x 1) (joined_bit a b (i % 64) j (omega arith) under ∙ ap (bit_at a) bit)
      ∙ ap (λ x. nat_eq (bit_at x ((i + j) % 64)) 1) (first ∙ ap (λ n. get_or row n 0) number)
  | inr over ↦
      let number : i / 64 + 1 ≡ (i + j) / 64 = omega arith in
      let bit : j + i % 64 - 64 ≡ (i + j) % 64 = omega arith in
      ap (λ x. nat_eq x 1) (joined_next a b (i % 64) j small (omega arith) low over ∙ ap (bit_at b) bit)
      ∙ ap (λ x. nat_eq (bit_at x ((i + j) % 64)) 1) (second ∙ ap (λ n. get_or row n 0) number)
]
