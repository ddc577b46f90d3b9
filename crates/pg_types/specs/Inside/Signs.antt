-- Signs as numbers, and the signs of a table.
use Rattle.std.specs.Prelude.{ℕ, ◌≤◌, Bool, List, All, nat_le}
use Rattle.pg_types.specs.declared.limits.TheConstants.{SIGNS_MAX}

-- a sign is at least 1; 0 stands for no sign
abbrev pub is_sign : ℕ → Bool
is_sign s = nat_le 1 s

-- a table may have so many signs: that of the edge, and one for each letter
abbrev pub IsSignCount : ℕ → Type 0
IsSignCount n = (1 ≤ n) × (n ≤ SIGNS_MAX)

-- s is one of the signs of a table that has n
abbrev pub IsTableSign : ℕ → ℕ → Type 0
IsTableSign n s = (1 ≤ s) × (s ≤ n)

-- each is one of the signs of a table that has n
abbrev pub SignsWithin : ℕ → List ℕ → Type 0
SignsWithin n signs = All (IsTableSign n) signs
