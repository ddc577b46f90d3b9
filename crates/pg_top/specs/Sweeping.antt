-- What `sweep` reads, writes and prints.
use Rattle.std.specs.Prelude.{ℕ, ◌+◌, ◌-◌, nat_lt, nat_le, ◌&&◌, if◌then◌else◌, List, [], ◌∷◌, ◌++◌, length, map, slice_index, codes, decimal, Option, None}
use Rattle.std.specs.Option.{option_and_then}
use Rattle.pg_types.specs.Parameters.{Parameters, parameters}
use Rattle.pg_types.specs.declared.limits.TheConstants.{FOLDS_MAX, FOLDS_MIN, PRICE_MAX, SETS_MAX}
use Rattle.pg_translate.specs.Tables.{table}
use Rattle.pg_dict.specs.DictionaryWords.{words}
use Rattle.pg_patterns.specs.Starts.{start}
use Rattle.pg_sweep.specs.Files.{sweep_file}
use Rattle.pg_sweep.specs.Sweeps.{set_row}
use Rattle.pg_sweep.specs.Winners.{winner_of}
use Rattle.pg_sweep.specs.declared.rows.SweepRow.{SweepRow}
use Rattle.pg_plans.specs.Plans.{Plan, Ending}
use Rattle.pg_plans.specs.declared.answers.Status.TheVariants.{Done}
use Rattle.pg_steps.specs.InputPlans.{input}
use Rattle.pg_steps.specs.declared.inputs.Input.TheVariants.{Translate, Patterns, Dictionary, Set}
use Rattle.pg_words.specs.AcceptedNames.{where_accepted}
use Rattle.pg_words.specs.NumbersWithin.{number_within}
use Rattle.pg_words.specs.declared.limits.TheConstants.{FOLDS_DIGITS, PRICE_DIGITS}

-- parameter files are read one after the other, the first of which has this number
abbrev pub sets_from : ℕ → List (List ℕ) → (List Parameters → Plan) → Plan
sets_from k [] next = next []
sets_from k (name ∷ names) next = input (Set k) name parameters (λ A.
    sets_from (k + 1) names (λ As. next (A ∷ As)))

-- the line where `sweep` is done: the number of the cheapest set of parameters, and what it costs
abbrev pub winner_line : ℕ → ℕ → List ℕ
winner_line winner cost = codes "winner: set " ++ decimal winner
    ++ codes ", cost " ++ decimal cost ++ codes "\n"

-- the end of `sweep` with these rows: its file, and which set wins
abbrev pub rows_ended : List ℕ → ℕ → List SweepRow → Plan
rows_ended output folds rows = let costs = map (λ (r : SweepRow). r.cost) rows in
    let winner = winner_of costs in Ending Done ((output, sweep_file folds rows winner) ∷ [])
    (winner_line winner (slice_index costs (winner - 1)))

-- the plan of `sweep`
abbrev pub swept : (d p o t : List ℕ) → (folds bad missed : ℕ) → List (List ℕ) → Plan
swept d p o t folds bad missed params = input Translate t table (λ T. sets_from 1 params (λ As.
    input Patterns p (start T) (λ S. input Dictionary d (words T) (λ W. rows_ended o folds (map
    (set_row (record { table = T; words = W; start = S; folds = folds }) bad missed) As)))))

-- `sweep DICT PATTERNS OUT TRANSLATE K BAD MISSED`, then the names of 1 to 16 parameter files
abbrev pub sweep : List (List ℕ) → Option Plan
sweep (d ∷ p ∷ o ∷ t ∷ k ∷ bad ∷ missed ∷ params) = option_and_then (λ folds.
    option_and_then (λ bad. option_and_then (λ missed.
    if nat_lt 0 (length params) && nat_le (length params) SETS_MAX
    then where_accepted (d ∷ p ∷ t ∷ params) (o ∷ []) (swept d p o t folds bad missed params)
    else None) (number_within PRICE_DIGITS 1 PRICE_MAX missed))
    (number_within PRICE_DIGITS 1 PRICE_MAX bad)) (number_within FOLDS_DIGITS FOLDS_MIN FOLDS_MAX k)
sweep arguments = None
