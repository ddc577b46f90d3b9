-- Tests over the numbers below n.
use Rattle.std.proofs.Common.{◌≡◌, ℕ, ◌+◌, ◌<◌, ◌≤◌, Bool, true, false, get_or, length, refl, sym, ◌∙◌, ap, arith, suc, zero, inl, inr}
use Rattle.std.specs.List.{list_all, range_with_len}
use Rattle.std.proofs.lemmas.Bool.{cases_Bool, and_from, false≢true}
use Rattle.std.proofs.lemmas.List.Folds.{list_all_at}
use Rattle.std.proofs.lemmas.List.FromFn.{length-range_with_len, get_or-range_with_len}

-- a test that each number from a on passes
pub range_passes : (test : ℕ → Bool) (a n : ℕ) → ((i : ℕ) → a ≤ i → i < a + n → test i ≡ true) → list_all test (range_with_len a n) ≡ true
range_passes test a zero each = refl
range_passes test a (suc n) each =
    and_from (test a) (list_all test (range_with_len (a + 1) n)) (each a (omega arith) (omega arith))
    (range_passes test (a + 1) n (λ i low high. each i (omega arith) (omega arith)))

-- a test that one number fails
pub range_fails : (test : ℕ → Bool) (n i : ℕ) → i < n → test i ≡ false → list_all test (range_with_len 0 n) ≡ false
range_fails test n i inside fails =
    let size : length (range_with_len 0 n) ≡ n = length-range_with_len 0 n in
    let at : get_or (range_with_len 0 n) i 0 ≡ i = omega (arith, get_or-range_with_len 0 n i 0 inside) in
    list_all_at test (range_with_len 0 n) i 0 (omega arith) (ap test at ∙ fails)

-- where all pass, each does
pub range_tells : (test : ℕ → Bool) (n i : ℕ) → list_all test (range_with_len 0 n) ≡ true → i < n → test i ≡ true
range_tells test n i all inside = elim (cases_Bool (test i)) [
  | inl passes ↦ passes
  | inr fails ↦ absurd (false≢true (sym (range_fails test n i inside fails) ∙ all))
]
