-- When the line is shown.
use Rattle.std.specs.Prelude.{ℕ, ◌+◌, ◌*◌, ◌≤◌, if◌then◌else◌, Bool, true, false, List, bytes_eq, codes, Option, Some, None}

-- a hundred milliseconds, in nanoseconds
abbrev pub tenth : ℕ
tenth = 100000000

-- a second has gone, and a tenth of one since the line was shown
abbrev pub IsDue : ℕ → Option ℕ → Type 0
IsDue now None = 10 * tenth ≤ now
IsDue now (Some shown) = (10 * tenth ≤ now) × (shown + tenth ≤ now)

-- the variable decides where it is `always` or `never`, and the terminal where it is neither
abbrev pub is_shown : Option (List ℕ) → Bool → Bool
is_shown None is_terminal = is_terminal
is_shown (Some choice) is_terminal =
    if bytes_eq choice (codes "always") then true
    else (if bytes_eq choice (codes "never") then false else is_terminal)
