-- Rows of bits, 64 of them in a number.
use Rattle.std.specs.Prelude.{ℕ, ◌/◌, ◌%◌, ◌==◌, Bool, List, slice_index}
use Rattle.std.specs.Int.{bit_at}

-- a bit of a row is set
unfoldable pub has_bit : List ℕ → ℕ → Bool
has_bit row i = bit_at (slice_index row (i / 64)) (i % 64) == 1
