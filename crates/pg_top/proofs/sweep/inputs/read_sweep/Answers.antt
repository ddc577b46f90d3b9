use Rattle.std.proofs.Common.{List, ◌≤◌, length, sym, subst}
use Rattle.pg_types.specs.declared.limits.TheConstants.{SETS_MAX}
use Rattle.pg_types.specs.Parameters.{Parameters, parameters}
use Rattle.pg_plans.specs.Plans.{Plan}
use Rattle.pg_dict.specs.DictionaryWords.{words}
use Rattle.pg_patterns.specs.Starts.{start}
use Rattle.pg_steps.specs.InputPlans.{input as read}
use Rattle.pg_steps.specs.declared.inputs.Input.TheVariants as input
use Rattle.pg_steps.proofs.Stopping.{stops}
use Rattle.pg_words.specs.Inside.CommandRequests.{sweep_of}
use Rattle.pg_translate.specs.Alphabets.{Alphabet}
use Rattle.pg_sweep.specs.Sweeps.{Terms}
use Rattle.pg_words.specs.Inside.forms.Sweep.{SweepRequest}
use Rattle.pg_top.proofs.sweep.inputs.read_sweep.Goals as goal

-- what is read behind the sets
abbrev behind : SweepRequest → Alphabet → (Terms → List Parameters → Plan) → List Parameters → Plan
behind s T next As = read input.Patterns s.patterns (start T) (λ S. read input.Dictionary s.dict (words T) (λ W.
    next (record { table = T; words = W; start = S; folds = s.folds }) As))

pub returns-in_err-table-clause-read : goal.returns-in_err-table-clause-read
returns-in_err-table-clause-read g c next status sink new h =
    c.in_err-table.ensures _ status sink new (stops c.from_residual.result _ _ status _ new c.from_residual.ensures.1 h)

pub returns-in_err-sets-clause-read : goal.returns-in_err-sets-clause-read
returns-in_err-sets-clause-read g c next status sink new h =
    c.in_ok-table.ensures _ status sink new (c.in_err-sets.ensures.read (behind (sweep_of c.args.words.now) c.in_ok-table.table next) status sink new
    (stops c.from_residual-in_err-sets.result _ _ status _ new c.from_residual-in_err-sets.ensures.1 h))

pub returns-in_err-start-clause-read : goal.returns-in_err-start-clause-read
returns-in_err-start-clause-read g c next status sink new h =
    c.in_ok-table.ensures _ status sink new (c.in_ok-sets.ensures.read (behind (sweep_of c.args.words.now) c.in_ok-table.table next) status sink new (c.in_err-start.ensures.read _ status sink new
    (stops c.from_residual-in_err-start.result _ _ status _ new c.from_residual-in_err-start.ensures.1 h)))

pub returns-in_err-dictionary-clause-read : goal.returns-in_err-dictionary-clause-read
returns-in_err-dictionary-clause-read g c next status sink new h =
    c.in_ok-table.ensures _ status sink new (c.in_ok-sets.ensures.read (behind (sweep_of c.args.words.now) c.in_ok-table.table next) status sink new (c.in_ok-start.ensures.read _ status sink new
    (c.in_err-dictionary.ensures.read _ status sink new (stops c.from_residual-in_err-dictionary.result _ _ status _ new c.from_residual-in_err-dictionary.ensures.1 h))))

pub returns-clause-read : goal.returns-clause-read
returns-clause-read g c next status sink new h =
    c.in_ok-table.ensures _ status sink new (c.in_ok-sets.ensures.read (behind (sweep_of c.args.words.now) c.in_ok-table.table next) status sink new (c.in_ok-start.ensures.read _ status sink new
    (c.in_ok-dictionary.ensures.read (λ W. next (record { table = c.in_ok-table.table; words = W; start = c.in_ok-start.start; folds = c.args.words.now.folds }) c.in_ok-sets.sets.items) status sink new h)))

pub returns-clause-count : goal.returns-clause-count
returns-clause-count g c = subst (λ n. (1 ≤ n) × (n ≤ SETS_MAX)) (sym c.in_ok-sets.ensures.count) c.requires.params
