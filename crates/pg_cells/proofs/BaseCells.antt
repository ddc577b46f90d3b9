-- A family has a sign.
use Rattle.std.proofs.Common.{◌≡◌, ◌≢◌, ℕ, true, nat_eq, List, [], ◌∷◌, refl, ◌∙◌, ap}
use Rattle.std.proofs.lemmas.Bool.{eq-eqb, or_left}
use Rattle.std.specs.List.{list_any}
use Rattle.pg_types.specs.Placement.{Family}

-- a family that is not empty has a sign
pub first_sign : (g : Family) (signs : List ℕ) → g.signs ≡ signs → signs ≢ [] → (y : ℕ) × (list_any (nat_eq y) g.signs ≡ true)
first_sign g [] e some = absurd (some refl)
first_sign g (y ∷ ys) e some = (y, ap (list_any (nat_eq y)) e ∙ or_left (nat_eq y y) (list_any (nat_eq y) ys) (eq-eqb y y refl))
