-- Spellings among others.
use Rattle.std.specs.Prelude.{◌≡◌, ◌⊎◌, ℕ, List, [], ◌∷◌}

-- a spelling is among some
abbrev pub IsAmong : ℕ × List ℕ → List (ℕ × List ℕ) → Type 0
IsAmong s [] = ⊥
IsAmong s (x ∷ xs) = (s ≡ x) ⊎ IsAmong s xs
