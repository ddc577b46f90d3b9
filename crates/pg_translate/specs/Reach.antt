-- The positions of a word that are in reach. A word has an edge as its first sign and as its last
-- one, and position p is the place behind its first p signs.
use Rattle.std.specs.Prelude.{ℕ, ◌+◌, ◌-◌, nat_le, if◌then◌else◌, List, [], Option, None, Some}
use Rattle.std.specs.Option.{option_map_or}
use Rattle.std.specs.List.{range_with_len}

-- the first and last position in reach of a word of n signs, both edges among them; none where it
-- takes no part
abbrev pub reach : ℕ → ℕ → ℕ → Option (ℕ × ℕ)
reach left right n = if nat_le (left + right + 2) n then Some (left + 1, n - right - 1) else None

-- the positions in reach of a word of so many signs, in order
abbrev pub positions : ℕ → ℕ → ℕ → List ℕ
positions left right signs = option_map_or (λ ends. range_with_len ends.0 (ends.1 + 1 - ends.0))
    (reach left right signs) []
