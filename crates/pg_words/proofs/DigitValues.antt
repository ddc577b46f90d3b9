-- The value of digits, read one after the other.
use Rattle.std.proofs.Common.{◌≡◌, ℕ, ◌<◌, ◌≤◌, true, false, Bool, List, [], ◌∷◌, fold, None, Some, refl, arith}
use Rattle.std.specs.Char.{is_ascii_digit}
use Rattle.std.specs.List.{list_all}
use Rattle.std.specs.Prelude.{if◌then◌else◌}
use Rattle.std.proofs.lemmas.Bool.Decides.{nat_tests}
use Rattle.pg_types.specs.Numbers.{with_digit}
use Rattle.pg_types.specs.Inside.reading.Parts.{number_from}
use Rattle.pg_words.specs.Inside.Numbers.{at_most}

-- a digit more
pub digit_more : (n b : ℕ) (bs : List ℕ) → is_ascii_digit b ≡ true → number_from n (b ∷ bs) ≡ number_from (with_digit n b) bs
digit_more n b bs digit = rw digit refl

-- the value of more digits is no less
no_less : (n : ℕ) (bs : List ℕ) → n ≤ fold with_digit n bs
no_less n [] = omega arith
no_less n (b ∷ bs) = let more : with_digit n b ≤ fold with_digit (with_digit n b) bs = no_less (with_digit n b) bs in omega arith

-- so a value that is too great stays so
pub too_great : (most n : ℕ) (bs : List ℕ) → most < n → at_most most (number_from n bs) ≡ None
too_great most n bs great = by_digits (list_all is_ascii_digit bs)
  where
    by_digits : (digits : Bool) → at_most most (if digits then Some (fold with_digit n bs) else None) ≡ None
    by_digits true = let more : n ≤ fold with_digit n bs = no_less n bs in grind (arith, nat_tests)
    by_digits false = refl
