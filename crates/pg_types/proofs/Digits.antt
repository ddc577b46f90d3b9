-- A number that is cut at a bound as its digits are read is the whole number, cut.
use Rattle.std.proofs.Common.{◌≡◌, ℕ, ◌+◌, ◌-◌, ◌*◌, ◌<◌, inl, inr, true, List, [], ◌∷◌, length, drop, fold, get_or, min, Option, option_map, Some, refl, ap, sym, ◌∙◌, arith}
use Rattle.std.specs.List.{list_all}
use Rattle.std.specs.Char.{is_ascii_digit}
use Rattle.std.proofs.lemmas.List.{drop_more}
use Rattle.std.proofs.lemmas.Bool.{cases_Bool}
use Rattle.pg_types.specs.Numbers.{with_digit}
use Rattle.pg_types.specs.Inside.reading.Parts.{number_from}

min_fold : (t : ℕ) (digits : List ℕ) (n : ℕ) → min (fold with_digit (min n t) digits) t ≡ min (fold with_digit n digits) t
min_fold t [] n = omega arith
min_fold t (d ∷ ds) n =
    let same : min (with_digit (min n t) d) t ≡ min (with_digit n d) t = omega arith in
    sym (min_fold t ds (with_digit (min n t) d)) ∙ ap (λ (k : ℕ). min (fold with_digit k ds) t) same ∙ min_fold t ds (with_digit n d)

number_cut : (t : ℕ) (digits : List ℕ) (n : ℕ) → option_map (λ (k : ℕ). min k t) (number_from (min n t) digits) ≡ option_map (λ (k : ℕ). min k t) (number_from n digits)
number_cut t digits n =
    elim (cases_Bool (list_all is_ascii_digit digits)) [
      | inl all ↦ rw all (ap (λ (k : ℕ). Some k) (min_fold t digits n))
      | inr some ↦ rw some refl
    ]

-- one digit more
pub number_more : (t : ℕ) (item : List ℕ) (i n next : ℕ) (whole : Option ℕ) → i < length item → is_ascii_digit (get_or item i 0) ≡ true → next
    ≡ min (n * 10 + (get_or item i 0 - 48)) t → option_map (λ (k : ℕ). min k t) (number_from n (drop i item)) ≡ whole → option_map (λ (k : ℕ). min k t) (number_from next (drop (i + 1) item)) ≡ whole
number_more t item i n next whole inside digit is so_far =
    let at : drop i item ≡ get_or item i 0 ∷ drop (i + 1) item = drop_more item i 0 inside in
    rw (is, number_cut t (drop (i + 1) item) (n * 10 + (get_or item i 0 - 48))) (rw (at, digit) at so_far)
