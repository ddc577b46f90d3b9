-- The exit codes of the answers.
use Rattle.std.specs.Prelude.{ℕ}
use Rattle.pg_plans.specs.declared.answers.Status.{Status}
use Rattle.pg_plans.specs.declared.answers.Status.TheVariants.{Done, Yes, No, Usage, Refused, Fault, Memory}

-- 0 for what succeeded, and a code of its own for each other answer
abbrev pub code_of : Status → ℕ
code_of status =
    elim status [ Done ↦ 0 | Yes ↦ 0 | No ↦ 1 | Usage ↦ 2 | Refused ↦ 3 | Fault ↦ 4 | Memory ↦ 5 ]
