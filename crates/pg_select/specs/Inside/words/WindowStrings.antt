-- Strings that stand in a window.
use Rattle.std.specs.Prelude.{ℕ, ◌+◌, nat_le, Bool, ◌&&◌}

-- a string of n signs stands in the window, where its dot d stands at the dot of the window
abbrev pub is_within : ℕ → ℕ → ℕ → ℕ → Bool
is_within len dot n d = nat_le d dot && nat_le (n + dot) (len + d)
