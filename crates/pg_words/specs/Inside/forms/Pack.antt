-- The arguments of `pack`.
use Rattle.std.specs.Prelude.{ℕ, List, [], ◌∷◌, Option, None}
use Rattle.pg_words.specs.AcceptedNames.{where_accepted}

-- the names of `pack` as bytes
pub record PackRequest : Type 0 where
  pub patterns : List ℕ
  pub translate : List ℕ
  pub table : List ℕ

-- `pack PATTERNS TRANSLATE TABLE`, where the table is an output
abbrev pub pack_in : List (List ℕ) → Option PackRequest
pack_in (patterns ∷ translate ∷ table ∷ []) =
    where_accepted (patterns ∷ translate ∷ []) (table ∷ [])
    (record { patterns = patterns; translate = translate; table = table })
pack_in words = None
