-- A string above which others are sought, read sign by sign.
use Rattle.std.specs.Prelude.{ℕ, max, Bool, true, nat_eq, nat_lt, if◌then◌else◌, List, [], ◌∷◌}
use Rattle.pg_types.specs.declared.limits.TheConstants.{EDGE}

-- the least sign with which a string above the floor may begin
abbrev pub first_sign : List ℕ → ℕ
first_sign [] = EDGE
first_sign (s ∷ q) = max EDGE s

-- the floor of what follows a sign that is not less
abbrev pub rest_after : List ℕ → ℕ → List ℕ
rest_after [] s = []
rest_after (x ∷ q) s = if nat_eq x s then q else []

-- the sign alone is above the floor
abbrev pub is_past : List ℕ → ℕ → Bool
is_past [] s = true
is_past (x ∷ q) s = nat_lt x s
