-- What the arguments behind `sweep` ask for, one by one.
use Rattle.std.proofs.Common.{◌≡◌, ℕ, ◌<◌, ◌≤◌, nat_lt, nat_le, true, ◌&&◌, List, [], ◌∷◌, length, None, Some, refl, arith}
use Rattle.std.proofs.lemmas.Bool.Decides.{nat_tests}
use Rattle.std.specs.Option.{option_map}
use Rattle.pg_words.specs.Inside.Requests.{ToSweep}
use Rattle.pg_words.specs.NumbersWithin.{number_within}
use Rattle.pg_words.specs.AcceptedNames.{where_accepted}
use Rattle.pg_words.specs.Inside.forms.Sweep.{sweep_in}
use Rattle.pg_types.specs.declared.limits.TheConstants.{FOLDS_MAX, FOLDS_MIN, PRICE_MAX, SETS_MAX}
use Rattle.pg_words.specs.declared.limits.TheConstants.{FOLDS_DIGITS, PRICE_DIGITS}

-- too few arguments
pub too_few : (words : List (List ℕ)) → length words < 7 → None ≡ sweep_in words
too_few [] few = refl
too_few (a ∷ []) few = refl
too_few (a ∷ b ∷ []) few = refl
too_few (a ∷ b ∷ c ∷ []) few = refl
too_few (a ∷ b ∷ c ∷ d ∷ []) few = refl
too_few (a ∷ b ∷ c ∷ d ∷ e ∷ []) few = refl
too_few (a ∷ b ∷ c ∷ d ∷ e ∷ f ∷ []) few = refl
too_few (a ∷ b ∷ c ∷ d ∷ e ∷ f ∷ g ∷ words) few = absurd (omega arith)

-- parts whose first number is none
pub no_folds : (dict patterns output translate k bad_argument missed_argument : List ℕ) (params : List (List ℕ)) → number_within FOLDS_DIGITS FOLDS_MIN FOLDS_MAX k ≡ None
    → sweep_in (dict ∷ patterns ∷ output ∷ translate ∷ k ∷ bad_argument ∷ missed_argument ∷ params) ≡ None
no_folds dict patterns output translate k bad_argument missed_argument params one = rw one refl

-- parts whose second number is none
pub no_bad : (dict patterns output translate k bad_argument missed_argument : List ℕ) (params : List (List ℕ)) (folds : ℕ) → number_within FOLDS_DIGITS FOLDS_MIN FOLDS_MAX k
    ≡ Some folds → number_within PRICE_DIGITS 1 PRICE_MAX bad_argument ≡ None
    → sweep_in (dict ∷ patterns ∷ output ∷ translate ∷ k ∷ bad_argument ∷ missed_argument ∷ params) ≡ None
no_bad dict patterns output translate k bad_argument missed_argument params folds one two = rw (one, two) refl

-- parts whose third number is none
pub no_missed : (dict patterns output translate k bad_argument missed_argument : List ℕ) (params : List (List ℕ)) (folds bad : ℕ) → number_within FOLDS_DIGITS FOLDS_MIN FOLDS_MAX k
    ≡ Some folds → number_within PRICE_DIGITS 1 PRICE_MAX bad_argument ≡ Some bad
    → number_within PRICE_DIGITS 1 PRICE_MAX missed_argument ≡ None → sweep_in (dict ∷ patterns ∷ output ∷ translate ∷ k ∷ bad_argument ∷ missed_argument ∷ params) ≡ None
no_missed dict patterns output translate k bad_argument missed_argument params folds bad one two three = rw (one, two, three) refl

-- a number of parameter files that is within its bounds
pub is_count : (count : ℕ) → 1 ≤ count → count ≤ SETS_MAX → (nat_lt 0 count && nat_le count SETS_MAX) ≡ true
is_count count some few = grind (arith, nat_tests)

-- parts whose numbers are within their bounds
pub all_within : (dict patterns output translate k bad_argument missed_argument : List ℕ) (params : List (List ℕ)) (folds bad missed : ℕ) → number_within FOLDS_DIGITS FOLDS_MIN FOLDS_MAX k
    ≡ Some folds → number_within PRICE_DIGITS 1 PRICE_MAX bad_argument ≡ Some bad → number_within PRICE_DIGITS 1 PRICE_MAX missed_argument ≡ Some missed
    → (nat_lt 0 (length params) && nat_le (length params) SETS_MAX) ≡ true
    → option_map ToSweep (sweep_in (dict ∷ patterns ∷ output ∷ translate ∷ k ∷ bad_argument ∷ missed_argument ∷ params))
    ≡ option_map ToSweep (where_accepted (dict ∷ patterns ∷ translate ∷ params) (output ∷ []) (record {
      dict = dict;
      patterns = patterns;
      output = output;
      translate = translate;
      folds = folds;
      bad = bad;
      missed = missed;
      params = params;
    }))
all_within dict patterns output translate k bad_argument missed_argument params folds bad missed one two three count =
    rw (one, two, three, count) refl
