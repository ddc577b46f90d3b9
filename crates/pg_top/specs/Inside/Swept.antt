-- What `sweep` has read, and what a sweep writes and prints.
use Rattle.std.specs.Prelude.{ℕ, ◌+◌, ◌-◌, List, map, slice_index}
use Rattle.pg_types.specs.Parameters.{Parameters}
use Rattle.pg_translate.specs.Alphabets.{letters_of}
use Rattle.pg_translate.specs.Tables.{table}
use Rattle.pg_dict.specs.DictionaryWords.{words}
use Rattle.pg_dict.specs.Inside.SoundWords.{SignsAtMost}
use Rattle.pg_patterns.specs.Inside.PatternMaps.{SignsUpTo}
use Rattle.pg_patterns.specs.Starts.{start}
use Rattle.pg_outside.specs.Content.{FilesShown, SinkShown}
use Rattle.pg_plans.specs.Plans.{Moment, Plan, Follows}
use Rattle.pg_plans.specs.declared.answers.Status.{Status}
use Rattle.pg_steps.specs.InputPlans.{input as read}
use Rattle.pg_steps.specs.declared.inputs.Input.TheVariants as input
use Rattle.pg_sweep.specs.Sweeps.{Terms, set_row}
use Rattle.pg_sweep.specs.Promises.{costs_of}
use Rattle.pg_sweep.specs.Inside.RowsAndWinner.{RowsAndWinner}
use Rattle.pg_words.specs.Inside.forms.Sweep.{SweepRequest}
use Rattle.pg_top.specs.Sweeping.{sets_from, winner_line, rows_ended}
use Rattle.pg_top.specs.declared.sweep.inputs.SweepInputs.{SweepInputs}

-- what the runs of a sweep with so many folds share
abbrev pub terms_of : ℕ → SweepInputs → Terms
terms_of folds i = record { table = i.table; words = i.dictionary; start = i.start; folds = folds }

-- the words and the starting patterns have no greater sign than the table
pub record HasSweepSigns (i : SweepInputs) : Type 0 where
  pub words : SignsAtMost (letters_of i.table + 1) i.dictionary
  pub start : SignsUpTo (letters_of i.table + 1) i.start

-- the line of a sweep
abbrev pub line_of_sweep : RowsAndWinner → List ℕ
line_of_sweep found = winner_line found.winner
    (slice_index (costs_of found.rows) (found.winner - 1))

-- what a sweep is made of is read in this order
abbrev pub sweep_from : SweepRequest → (Terms → List Parameters → Plan) → Plan
sweep_from s next = read input.Translate s.translate table (λ T. sets_from 1 s.params (λ As.
    read input.Patterns s.patterns (start T) (λ S. read input.Dictionary s.dict (words T) (λ W.
    next (record { table = T; words = W; start = S; folds = s.folds }) As))))

-- the end of a sweep of these sets
abbrev pub sets_ended : SweepRequest → Terms → List Parameters → Plan
sets_ended s terms sets =
    rows_ended s.output s.folds (map (set_row terms s.bad s.missed) sets)

-- a call with this plan was begun: where it goes on by the rest, it follows the plan
abbrev pub Leads : Plan → Plan → FilesShown → FilesShown → Type 0
Leads whole rest old mid = (status : Status) (sink : SinkShown) (new : Moment)
    → Follows rest status (mid, sink) new → Follows whole status (old, sink) new
