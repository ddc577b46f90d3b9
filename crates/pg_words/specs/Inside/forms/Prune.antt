-- The arguments of `prune`.
use Rattle.std.specs.Prelude.{ℕ, List, [], ◌∷◌, Option, None}
use Rattle.pg_words.specs.AcceptedNames.{where_accepted}

-- the names of `prune` as bytes
pub record PruneRequest : Type 0 where
  pub dict : List ℕ
  pub patterns : List ℕ
  pub output : List ℕ
  pub translate : List ℕ
  pub report : List ℕ

-- `prune DICT PATTERNS OUT TRANSLATE REPORT`
abbrev pub prune_in : List (List ℕ) → Option PruneRequest
prune_in (d ∷ p ∷ o ∷ t ∷ r ∷ []) = where_accepted (d ∷ p ∷ t ∷ []) (o ∷ r ∷ [])
    (record { dict = d; patterns = p; output = o; translate = t; report = r })
prune_in words = None
