-- The plan of what the arguments of a call ask for, and the whole of a call.
use Rattle.std.specs.Prelude.{◌≡◌, ℕ, if◌then◌else◌, List, [], ◌∷◌, Option, None, Some, MatchOption, codes}
use Rattle.std.specs.Str.{bytes_eq}
use Rattle.pg_plans.specs.Plans.{Moment, Plan, Reading, Ending, Finishes, Follows}
use Rattle.pg_plans.specs.declared.answers.Status.{Status}
use Rattle.pg_plans.specs.declared.answers.Status.TheVariants.{Usage}
use Rattle.pg_top.specs.PrintedLines.{usage_line}
use Rattle.pg_top.specs.Generating.{generate}
use Rattle.pg_top.specs.Auditing.{audit}
use Rattle.pg_top.specs.Sampling.{sample}
use Rattle.pg_top.specs.Packing.{pack}
use Rattle.pg_top.specs.Totalling.{totals}
use Rattle.pg_top.specs.Pruning.{prune}
use Rattle.pg_top.specs.Sweeping.{sweep}

-- the plan of what the arguments ask for, none where they are no command
abbrev pub plan_of : List (List ℕ) → Option Plan
plan_of [] = None
plan_of (name ∷ rest) = if bytes_eq name (codes "generate") then generate rest
    else (if bytes_eq name (codes "audit") then audit rest
    else (if bytes_eq name (codes "sample") then sample rest
    else (if bytes_eq name (codes "pack") then pack rest
    else (if bytes_eq name (codes "totals") then totals rest
    else (if bytes_eq name (codes "prune") then prune rest
    else (if bytes_eq name (codes "sweep") then sweep rest else None))))))

-- the whole of a call: the usage line is put, with no memory taken, or the plan is followed
abbrev pub IsRun : List (List ℕ) → Status → Moment → Moment → Type 0
IsRun arguments status old new = MatchOption (plan_of arguments)
    (Finishes [] usage_line Usage status old new) (λ plan. Follows plan status old new)

-- no file is read or written, as where the arguments are no command
abbrev pub CallsNoFile : Option Plan → Type 0
CallsNoFile None = Unit {0}
CallsNoFile (Some (Ending answer [] lines)) = Unit {0}
CallsNoFile plan = ⊥
