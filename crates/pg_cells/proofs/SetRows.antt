-- The bits of rows that are empty, clear, or longer by clear numbers.
use Rattle.std.proofs.Common.{◌≡◌, ℕ, ◌-◌, ◌/◌, ◌%◌, nat_eq, false, List, [], ◌++◌, length, get_or, replicate, inl, inr, refl, sym, ap, ◌∙◌, arith}
use Rattle.std.specs.Int.{bit_at}
use Rattle.std.proofs.lemmas.Bool.{cases_lt}
use Rattle.std.proofs.lemmas.List.{get_or-replicate, get_or_append_left, get_or-append_right, get_or_past, length-replicate}
use Rattle.std.proofs.lemmas.Nat.Bits.{bit_at-zero}
use Rattle.pg_types.specs.Inside.Bits.{has_bit}

zeros : (n k : ℕ) → get_or (replicate {A = ℕ} n 0) k 0 ≡ 0
zeros n k = elim (cases_lt k n) [
  | inl less ↦ get_or-replicate n k 0 0 less
  | inr more ↦ get_or_past (replicate n 0) k 0 (let size : length (replicate {A = ℕ} n 0) ≡ n = length-replicate n 0 in omega arith)
]

pub empty_bit : (i : ℕ) → has_bit [] i ≡ false
unfolding has_bit
empty_bit i = ap (λ b. nat_eq b 1) (bit_at-zero (i % 64))

pub clear_row : (n i : ℕ) → has_bit (replicate n 0) i ≡ false
unfolding has_bit
clear_row n i = ap (λ v. nat_eq (bit_at v (i % 64)) 1) (zeros n (i / 64)) ∙ ap (λ b. nat_eq b 1) (bit_at-zero (i % 64))

-- further numbers that are clear change no bit
pub longer_row : (row : List ℕ) (n i : ℕ) → has_bit (row ++ replicate n 0) i ≡ has_bit row i
unfolding has_bit
longer_row row n i = ap (λ v. nat_eq (bit_at v (i % 64)) 1) (elim (cases_lt (i / 64) (length row)) [
  | inl less ↦ get_or_append_left row (replicate n 0) 0 (i / 64) less
  | inr more ↦
      get_or-append_right row (replicate n 0) (length row) (i / 64) 0 refl more
      ∙ zeros n (i / 64 - length row)
      ∙ sym (get_or_past row (i / 64) 0 more)
])
