-- The signs of a table are signs.
use Rattle.std.proofs.Common.{◌≡◌, ℕ, ◌≤◌, nat_le, true, List, [], ◌∷◌, refl}
use Rattle.std.proofs.lemmas.Bool.{and_from, le-leb}
use Rattle.std.proofs.lemmas.List.Elements.{All-head, All-tail}
use Rattle.std.specs.List.{list_all}
use Rattle.pg_types.specs.Inside.Signs.{SignsWithin, is_sign}

-- the signs of a window are signs, where each is one of a table
pub are_signs : (n : ℕ) (u : List ℕ) → SignsWithin n u → list_all is_sign u ≡ true
are_signs n [] h = refl
are_signs n (s ∷ u) h = and_from (nat_le 1 s) (list_all is_sign u) (le-leb 1 s (All-head (λ s. (1 ≤ s) × (s ≤ n)) s u h).0) (are_signs n u (All-tail (λ s. (1 ≤ s) × (s ≤ n)) s u h))
