-- The order of the dots of a length.
use Rattle.std.specs.Prelude.{ℕ, ◌+◌, ◌-◌, ◌/◌, ◌%◌, ◌==◌, if◌then◌else◌, List, map}
use Rattle.std.specs.List.{range_with_len}

-- the k-th dot in the order: from the middle outwards, to the left first where the length is even
abbrev pub dot_at : ℕ → ℕ → ℕ
dot_at len k = if (len + k) % 2 == 0 then len / 2 + (k + 1) / 2 else len / 2 - (k + 1) / 2

-- the dots of a length, in organ-pipe order
abbrev pub order : ℕ → List ℕ
order len = map (dot_at len) (range_with_len 0 (len + 1))
