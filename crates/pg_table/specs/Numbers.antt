-- Numbers of several bytes, with the most significant byte first.
use Rattle.std.specs.Prelude.{ℕ, zero, suc, ◌+◌, ◌*◌, ◌/◌, ◌%◌, List, [], ◌∷◌, ◌++◌, slice_index}

-- the number of the n bytes from i on
unfoldable pub number_of_bytes : ℕ → List ℕ → ℕ → ℕ
number_of_bytes zero b i = 0
number_of_bytes (suc n) b i = 256 * number_of_bytes n b i + slice_index b (i + n)

-- a number as n bytes
unfoldable pub bytes_of_number : ℕ → ℕ → List ℕ
bytes_of_number zero x = []
bytes_of_number (suc n) x = bytes_of_number n (x / 256) ++ x % 256 ∷ []
