-- The arguments of `sample`.
use Rattle.std.specs.Prelude.{ℕ, List, [], ◌∷◌, Option, None}
use Rattle.std.specs.Option.{option_and_then, option_map}
use Rattle.pg_words.specs.NumbersWithin.{number_within}
use Rattle.pg_words.specs.declared.limits.TheConstants.{SEED_MAX, COUNT_MAX, SAMPLE_DIGITS}

-- `sample N COUNT`: the seed, and how many words it makes
abbrev pub sample_in : List (List ℕ) → Option (ℕ × ℕ)
sample_in (seed ∷ count ∷ []) = option_and_then (λ s. option_map (λ c. (s, c))
    (number_within SAMPLE_DIGITS 0 COUNT_MAX count)) (number_within SAMPLE_DIGITS 0 SEED_MAX seed)
sample_in words = None
