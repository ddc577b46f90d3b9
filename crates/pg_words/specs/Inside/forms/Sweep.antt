-- The arguments of `sweep`.
use Rattle.std.specs.Prelude.{ℕ, nat_lt, nat_le, ◌&&◌, if◌then◌else◌, List, [], ◌∷◌, length, Option, None}
use Rattle.std.specs.Option.{option_and_then}
use Rattle.pg_types.specs.declared.limits.TheConstants.{FOLDS_MAX, FOLDS_MIN, PRICE_MAX, SETS_MAX}
use Rattle.pg_words.specs.NumbersWithin.{number_within}
use Rattle.pg_words.specs.AcceptedNames.{where_accepted}
use Rattle.pg_words.specs.declared.limits.TheConstants.{FOLDS_DIGITS, PRICE_DIGITS}

-- what `sweep` is asked for: its files, the number of folds, two prices, and the parameter files
pub record SweepRequest : Type 0 where
  pub dict : List ℕ
  pub patterns : List ℕ
  pub output : List ℕ
  pub translate : List ℕ
  pub folds : ℕ
  pub bad : ℕ
  pub missed : ℕ
  pub params : List (List ℕ)

-- `sweep DICT PATTERNS OUT TRANSLATE K BAD MISSED`, then the names of 1 to 16 parameter files
abbrev pub sweep_in : List (List ℕ) → Option SweepRequest
sweep_in (dict ∷ patterns ∷ output ∷ translate ∷ k ∷ bad_argument ∷ missed_argument ∷ params) =
    option_and_then (λ folds. option_and_then (λ bad. option_and_then (λ missed.
    if nat_lt 0 (length params) && nat_le (length params) SETS_MAX
    then where_accepted (dict ∷ patterns ∷ translate ∷ params) (output ∷ []) (record {
      dict = dict;
      patterns = patterns;
      output = output;
      translate = translate;
      folds = folds;
      bad = bad;
      missed = missed;
      params = params;
    }) else None) (number_within PRICE_DIGITS 1 PRICE_MAX missed_argument))
    (number_within PRICE_DIGITS 1 PRICE_MAX bad_argument))
    (number_within FOLDS_DIGITS FOLDS_MIN FOLDS_MAX k)
sweep_in words = None
