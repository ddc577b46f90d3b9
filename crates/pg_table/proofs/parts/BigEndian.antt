-- The bytes of a number, the greatest first.
use Rattle.std.proofs.Common.{◌≡◌, ℕ, ◌/◌, ◌%◌, [], ◌∷◌, w16, w32, refl, arith}
use Rattle.std.specs.Int.{to_be_bytes}
use Rattle.pg_table.specs.Numbers.{bytes_of_number}

pub two_bytes : (n : ℕ) → to_be_bytes w16 n ≡ bytes_of_number 2 n
unfolding bytes_of_number
two_bytes n = refl

pub four_bytes : (n : ℕ) → to_be_bytes w32 n ≡ bytes_of_number 4 n
unfolding bytes_of_number
four_bytes n =
    let first : n / 16777216 % 256 ≡ n / 256 / 256 / 256 % 256 = omega arith in
    let second : n / 65536 % 256 ≡ n / 256 / 256 % 256 = omega arith in
    λ i. first i ∷ second i ∷ n / 256 % 256 ∷ n % 256 ∷ []
