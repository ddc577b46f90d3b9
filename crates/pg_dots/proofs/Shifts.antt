-- Rows that lose bits, and rows of which each clear bit is clear in another.
use Rattle.std.proofs.Common.{◌≡◌, ℕ, zero, suc, ◌+◌, ◌-◌, ◌*◌, ◌/◌, ◌%◌, ◌^◌, ◌<◌, ◌≤◌, nat_eq, Bool, true, false, List, length, get_or, set, replicate, inl, inr, refl, sym, ap, ◌∙◌, arith, bit_and, min, w64}
use Rattle.std.specs.Int.{bit_at, bit_not}
use Rattle.std.proofs.lemmas.Bool.{cases_eq}
use Rattle.std.proofs.lemmas.List.{get_or-set_same, get_or-set_other, get_or-replicate, get_or_past, length-replicate}
use Rattle.std.proofs.lemmas.Bool.{cases_lt}
use Rattle.std.proofs.lemmas.Nat.Bits.{bit_at_and, bit_at-lt, bit_at_not, bit_at-zero}
use Rattle.pg_types.specs.Inside.Bits.{has_bit}

-- the lesser of two bits
no_first : (a b : ℕ) → a < 2 → b < 2 → nat_eq a 1 ≡ false → nat_eq (min a b) 1 ≡ false
no_first zero zero x y is = refl
no_first zero (suc zero) x y is = refl
no_first (suc zero) b x y is = absurd (let wrong : true ≡ false = is in cc)
no_first (suc (suc a)) b x y is = absurd (omega arith)
no_first zero (suc (suc b)) x y is = absurd (omega arith)

no_second : (a b : ℕ) → a < 2 → b < 2 → nat_eq b 1 ≡ false → nat_eq (min a b) 1 ≡ false
no_second zero zero x y is = refl
no_second (suc zero) zero x y is = refl
no_second zero (suc zero) x y is = absurd (let wrong : true ≡ false = is in cc)
no_second (suc zero) (suc zero) x y is = absurd (let wrong : true ≡ false = is in cc)
no_second (suc (suc a)) b x y is = absurd (omega arith)
no_second a (suc (suc b)) x y is = absurd (omega arith)

-- a number of a row loses bits
pub and_old : (row : List ℕ) (x b j : ℕ) → x < length row → has_bit row j ≡ false → has_bit (set row x (bit_and (get_or row x 0) b)) j ≡ false
unfolding has_bit
and_old row x b j inside is = elim (cases_eq (j / 64) x) [
  | inl same ↦
      ap (λ k. nat_eq (bit_at (get_or (set row x (bit_and (get_or row x 0) b)) k 0) (j % 64)) 1) same
      ∙ ap (λ v. nat_eq (bit_at v (j % 64)) 1) (get_or-set_same row x (bit_and (get_or row x 0) b) 0 inside)
      ∙ ap (λ v. nat_eq v 1) (bit_at_and (get_or row x 0) b (j % 64))
      ∙ no_first (bit_at (get_or row x 0) (j % 64)) (bit_at b (j % 64)) (bit_at-lt (get_or row x 0) (j % 64)) (bit_at-lt b (j % 64))
      (ap (λ k. nat_eq (bit_at (get_or row k 0) (j % 64)) 1) (sym same) ∙ is)
  | inr other ↦ ap (λ v. nat_eq (bit_at v (j % 64)) 1) (get_or-set_other row x (j / 64) (bit_and (get_or row x 0) b) 0 other) ∙ is
]

pub and_other : (row : List ℕ) (x b j : ℕ) → x < length row → j / 64 ≡ x → nat_eq (bit_at b (j % 64)) 1 ≡ false → has_bit (set row x (bit_and (get_or row x 0) b)) j ≡ false
unfolding has_bit
and_other row x b j inside same is =
    ap (λ k. nat_eq (bit_at (get_or (set row x (bit_and (get_or row x 0) b)) k 0) (j % 64)) 1) same
    ∙ ap (λ v. nat_eq (bit_at v (j % 64)) 1) (get_or-set_same row x (bit_and (get_or row x 0) b) 0 inside)
    ∙ ap (λ v. nat_eq v 1) (bit_at_and (get_or row x 0) b (j % 64))
    ∙ no_second (bit_at (get_or row x 0) (j % 64)) (bit_at b (j % 64)) (bit_at-lt (get_or row x 0) (j % 64)) (bit_at-lt b (j % 64)) is

-- the bits of the number with the index x, from those that were read
pub read_bit : (other : List ℕ) (by x b j : ℕ) → ((i : ℕ) → i < 64 → nat_eq (bit_at b i) 1 ≡ has_bit other (x * 64 + by + i)) → j / 64 ≡ x
    → has_bit other (j + by) ≡ false → nat_eq (bit_at b (j % 64)) 1 ≡ false
read_bit other by x b j read same is =
    let place : x * 64 + by + j % 64 ≡ j + by = omega arith in
    read (j % 64) (omega arith) ∙ ap (has_bit other) place ∙ is

-- a number that has no bit that another lacks
pub part_clear : (row whole : List ℕ) (x j : ℕ) → get_or row x 0 < 2 ^ 64 → bit_and (get_or whole x 0) (bit_not w64 (get_or row x 0)) ≡ 0 → j / 64 ≡ x
    → has_bit row j ≡ false → has_bit whole j ≡ false
unfolding has_bit
part_clear row whole x j small none same is =
    let here : nat_eq (bit_at (get_or row x 0) (j % 64)) 1 ≡ false = ap (λ k. nat_eq (bit_at (get_or row k 0) (j % 64)) 1) (sym same) ∙ is in
    let zero_bit : min (bit_at (get_or whole x 0) (j % 64)) (bit_at (bit_not w64 (get_or row x 0)) (j % 64)) ≡ 0 =
    sym (bit_at_and (get_or whole x 0) (bit_not w64 (get_or row x 0)) (j % 64)) ∙ ap (λ n. bit_at n (j % 64)) none ∙ bit_at-zero (j % 64) in
    let flipped = bit_at_not w64 (get_or row x 0) (j % 64) small (omega arith) in
    ap (λ k. nat_eq (bit_at (get_or whole k 0) (j % 64)) 1) same
    ∙ by (bit_at (get_or whole x 0) (j % 64)) (bit_at (get_or row x 0) (j % 64)) (bit_at (bit_not w64 (get_or row x 0)) (j % 64)) (bit_at-lt (get_or row x 0) (j % 64)) flipped zero_bit here
  where
    by : (w a n : ℕ) → a < 2 → n ≡ 1 - a → min w n ≡ 0 → nat_eq a 1 ≡ false → nat_eq w 1 ≡ false
    by zero a n low is none not_one = refl
    by (suc w) zero n low is none not_one = absurd (omega (arith, is, none))
    by (suc w) (suc zero) n low is none not_one = absurd (let wrong : true ≡ false = not_one in cc)
    by (suc w) (suc (suc a)) n low is none not_one = absurd (omega arith)

-- a row of zeros
pub zeros_clear : (n j : ℕ) → has_bit (replicate n 0) j ≡ false
unfolding has_bit
zeros_clear n j = elim (cases_lt (j / 64) n) [
  | inl low ↦ ap (λ v. nat_eq (bit_at v (j % 64)) 1) (get_or-replicate n (j / 64) 0 0 low) ∙ ap (λ b. nat_eq b 1) (bit_at-zero (j % 64))
  | inr past ↦ ap (λ v. nat_eq (bit_at v (j % 64)) 1) (get_or_past (replicate n 0) (j / 64) 0 (let size = length-replicate {A = ℕ} n 0 in omega (arith, size)))
      ∙ ap (λ b. nat_eq b 1) (bit_at-zero (j % 64))
]
