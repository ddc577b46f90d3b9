-- The arguments of `totals`.
use Rattle.std.specs.Prelude.{ℕ, List, [], ◌∷◌, Option, None}
use Rattle.pg_words.specs.AcceptedNames.{where_accepted}

-- the names of `totals` as bytes
pub record TotalsRequest : Type 0 where
  pub dict : List ℕ
  pub translate : List ℕ
  pub table : List ℕ

-- `totals DICT TRANSLATE TABLE`, whose names may be equal
abbrev pub totals_in : List (List ℕ) → Option TotalsRequest
totals_in (dict ∷ translate ∷ table ∷ []) = where_accepted (dict ∷ translate ∷ table ∷ []) []
    (record { dict = dict; translate = translate; table = table })
totals_in words = None
