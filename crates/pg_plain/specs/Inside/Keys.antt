-- The first four signs of a string as one number, by which it is mostly told apart from others.
use Rattle.std.specs.Prelude.{◌≡◌, ℕ, ◌+◌, ◌*◌, ◌<◌, List, slice_index_or}

-- the first four signs as one number, with 0 where there is none
unfoldable pub four_packed : List ℕ → ℕ
four_packed u =
    ((slice_index_or u 0 0 * 65536 + slice_index_or u 1 0) * 65536 + slice_index_or u 2 0) * 65536
    + slice_index_or u 3 0

-- a number has the first four signs of a string
pub record HasFirstSigns (n : ℕ) (u : List ℕ) : Type 0 where
  pub is : n ≡ four_packed u
  pub small : (i : ℕ) → slice_index_or u i 0 < 65536
