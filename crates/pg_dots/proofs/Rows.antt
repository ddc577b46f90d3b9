-- The bits of rows, of parts of rows, and of rows of which each number was changed.
use Rattle.std.proofs.Common.{◌≡◌, ℕ, zero, suc, ◌+◌, ◌-◌, ◌*◌, ◌/◌, ◌%◌, ◌^◌, ◌<◌, ◌≤◌, nat_le, nat_eq, Bool, true, false, cond, not, ◌&&◌, ◌||◌, List, take, drop, get_or, inl, inr, refl, sym, ap, ◌∙◌, arith, bit_or, w64}
use Rattle.std.specs.Int.{bit_at, bit_not}
use Rattle.std.proofs.lemmas.Bool.{cases_lt, le-leb, lt-leb}
use Rattle.std.proofs.lemmas.List.{get_or-take, get_or-drop}
use Rattle.std.proofs.lemmas.Nat.Bits.{bit_at_or, bit_at-lt, bit_at_not}
use Rattle.pg_types.specs.Inside.Bits.{has_bit}
use Rattle.pg_types.proofs.BitRows.{either}

-- a bit of a part of a row
pub part_bit : (row : List ℕ) (start width i : ℕ) → i < 64 * width → has_bit (take width (drop start row)) i ≡ has_bit row (64 * start + i)
unfolding has_bit
part_bit row start width i within =
    let low : i / 64 < width = omega arith in
    let number : start + i / 64 ≡ (64 * start + i) / 64 = omega arith in
    let bit : i % 64 ≡ (64 * start + i) % 64 = omega arith in
    ap (λ v. nat_eq (bit_at v (i % 64)) 1) (get_or-take width (drop start row) (i / 64) 0 low ∙ get_or-drop start row (i / 64) 0 ∙ ap (λ k. get_or row k 0) number)
    ∙ ap (λ k. nat_eq (bit_at (get_or row ((64 * start + i) / 64) 0) k) 1) bit

-- the bits of a row of which each number from one on has taken in another one
pub taken_in : (old new : List ℕ) (width j : ℕ) → get_or new (j / 64) 0 ≡ cond (nat_le (2 * width) (j / 64)) (bit_or (get_or old (j / 64) 0) (get_or old (j / 64 - width) 0)) (get_or old (j / 64) 0)
    → has_bit new j ≡ (has_bit old j || (nat_le (128 * width) j && has_bit old (j - 64 * width)))
unfolding has_bit
taken_in old new width j is = elim (cases_lt (j / 64) (2 * width)) [
  | inl low ↦ before low
  | inr high ↦ from high
]
  where
    before : j / 64 < 2 * width → has_bit new j ≡ (has_bit old j || (nat_le (128 * width) j && has_bit old (j - 64 * width)))
    before low =
        let test : nat_le (2 * width) (j / 64) ≡ false = lt-leb (2 * width) (j / 64) low in
        let none : nat_le (128 * width) j ≡ false = lt-leb (128 * width) j (omega arith) in
        ap (λ v. nat_eq (bit_at v (j % 64)) 1) (is ∙ ap (λ b. cond b (bit_or (get_or old (j / 64) 0) (get_or old (j / 64 - width) 0)) (get_or old (j / 64) 0)) test)
        ∙ sym (ap (λ b. has_bit old j || (b && has_bit old (j - 64 * width))) none ∙ plain (has_bit old j))
      where
        plain : (b : Bool) → (b || false) ≡ b
        plain true = refl
        plain false = refl

    from : 2 * width ≤ j / 64 → has_bit new j ≡ (has_bit old j || (nat_le (128 * width) j && has_bit old (j - 64 * width)))
    from high =
        let test : nat_le (2 * width) (j / 64) ≡ true = le-leb (2 * width) (j / 64) high in
        let some : nat_le (128 * width) j ≡ true = le-leb (128 * width) j (omega arith) in
        let number : j / 64 - width ≡ (j - 64 * width) / 64 = omega arith in
        let bit : j % 64 ≡ (j - 64 * width) % 64 = omega arith in
        ap (λ v. nat_eq (bit_at v (j % 64)) 1) (is ∙ ap (λ b. cond b (bit_or (get_or old (j / 64) 0) (get_or old (j / 64 - width) 0)) (get_or old (j / 64) 0)) test)
        ∙ ap (λ b. nat_eq b 1) (bit_at_or (get_or old (j / 64) 0) (get_or old (j / 64 - width) 0) (j % 64))
        ∙ either (bit_at (get_or old (j / 64) 0) (j % 64)) (bit_at (get_or old (j / 64 - width) 0) (j % 64)) (bit_at-lt (get_or old (j / 64) 0) (j % 64))
        (bit_at-lt (get_or old (j / 64 - width) 0) (j % 64))
        ∙ ap (λ k. nat_eq (bit_at (get_or old (j / 64) 0) (j % 64)) 1 || nat_eq (bit_at (get_or old k 0) (j % 64)) 1) number
        ∙ ap (λ k. nat_eq (bit_at (get_or old (j / 64) 0) (j % 64)) 1 || nat_eq (bit_at (get_or old ((j - 64 * width) / 64) 0) k) 1) bit
        ∙ sym (ap (λ b. has_bit old j || (b && has_bit old (j - 64 * width))) some)

-- a bit of a number of a row
pub number_bit : (row : List ℕ) (k i : ℕ) → 64 * k ≤ i → i < 64 * k + 64 → has_bit row i ≡ nat_eq (bit_at (get_or row k 0) (i - 64 * k)) 1
unfolding has_bit
number_bit row k i low high =
    let number : i / 64 ≡ k = omega arith in
    let bit : i % 64 ≡ i - 64 * k = omega arith in
    ap (λ n. nat_eq (bit_at (get_or row n 0) (i % 64)) 1) number ∙ ap (λ b. nat_eq (bit_at (get_or row k 0) b) 1) bit

pub bit_set : (row : List ℕ) (k i : ℕ) → 64 * k ≤ i → i < 64 * k + 64 → bit_at (get_or row k 0) (i - 64 * k) ≡ 1 → has_bit row i ≡ true
bit_set row k i low high is = number_bit row k i low high ∙ ap (λ b. nat_eq b 1) is

pub bit_clear : (row : List ℕ) (k i : ℕ) → 64 * k ≤ i → i < 64 * k + 64 → bit_at (get_or row k 0) (i - 64 * k) ≡ 0 → has_bit row i ≡ false
bit_clear row k i low high is = number_bit row k i low high ∙ ap (λ b. nat_eq b 1) is

-- the first part of a row
pub first_bit : (row : List ℕ) (width i : ℕ) → i < 64 * width → has_bit (take width row) i ≡ has_bit row i
unfolding has_bit
first_bit row width i within =
    let low : i / 64 < width = omega arith in
    ap (λ v. nat_eq (bit_at v (i % 64)) 1) (get_or-take width row (i / 64) 0 low)

-- the bits of a row that was turned, but for some that are kept
pub turned : (old kept new : List ℕ) (j : ℕ) → get_or old (j / 64) 0 < 2 ^ 64 → get_or new (j / 64) 0 ≡ bit_or (bit_not w64 (get_or old (j / 64) 0)) (get_or kept (j / 64) 0)
    → has_bit new j ≡ (not (has_bit old j) || has_bit kept j)
unfolding has_bit
turned old kept new j small is =
    ap (λ v. nat_eq (bit_at v (j % 64)) 1) is
    ∙ ap (λ b. nat_eq b 1) (bit_at_or (bit_not w64 (get_or old (j / 64) 0)) (get_or kept (j / 64) 0) (j % 64))
    ∙ either (bit_at (bit_not w64 (get_or old (j / 64) 0)) (j % 64)) (bit_at (get_or kept (j / 64) 0) (j % 64)) (bit_at-lt (bit_not w64 (get_or old (j / 64) 0)) (j % 64))
    (bit_at-lt (get_or kept (j / 64) 0) (j % 64))
    ∙ ap (λ b. b || nat_eq (bit_at (get_or kept (j / 64) 0) (j % 64)) 1)
    (ap (λ b. nat_eq b 1) (bit_at_not w64 (get_or old (j / 64) 0) (j % 64) small (omega arith)) ∙ flipped (bit_at (get_or old (j / 64) 0) (j % 64)) (bit_at-lt (get_or old (j / 64) 0) (j % 64)))
  where
    flipped : (a : ℕ) → a < 2 → nat_eq (1 - a) 1 ≡ not (nat_eq a 1)
    flipped zero low = refl
    flipped (suc zero) low = refl
    flipped (suc (suc a)) low = absurd (omega arith)
