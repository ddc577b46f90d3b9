-- The windows of a word, and which of them are covered.
use Rattle.std.specs.Prelude.{ℕ, ◌+◌, ◌-◌, nat_le, Bool, ◌&&◌, ◌||◌, List, length, take, drop}
use Rattle.std.specs.List.{list_any}
use Rattle.pg_patterns.specs.Values.{Patterns, applies}

-- a set of hopeless dotted strings, as a map in their order
abbrev pub Hopeless : Type 0
Hopeless = List ((List ℕ × ℕ) × Unit {0})

-- the window of so many signs of a word whose dot d is at position p
abbrev pub window : List ℕ → ℕ → ℕ → ℕ → List ℕ
window w p len d = take len (drop (p - d) w)

-- whether the window of so many signs of a word whose dot d is at position p fits in the word
abbrev pub fits : List ℕ → ℕ → ℕ → ℕ → Bool
fits w p len d = nat_le d p && nat_le (p - d + len) (length w)

-- a window with its dot is covered where a string in it is hopeless there or has at least the level
abbrev pub is_covered : ℕ → Patterns → Hopeless → List ℕ → ℕ → Bool
is_covered level P H u d = list_any (λ e. nat_le level e.1 && applies u d e.0) P
    || list_any (λ e. applies u d e.0) H
