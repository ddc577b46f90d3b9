-- Given files as they are compared, and what the comparison gives.
use Rattle.std.specs.Prelude.{ℕ, Option, List, [], ◌∷◌, codes}
use Rattle.std.specs.Option.{option_map_or}
use Rattle.pg_audit.specs.Differences.{first_false}
use Rattle.pg_plans.specs.Plans.{Plan, Reading, Ending}
use Rattle.pg_plans.specs.declared.answers.Status.TheVariants.{Yes, No}
use Rattle.pg_steps.specs.declared.inputs.Given.{Given}
use Rattle.pg_top.specs.Auditing.{no_line}
use Rattle.pg_top.specs.declared.audit.compare.Verdict.{Verdict}
use Rattle.pg_top.specs.declared.audit.compare.Verdict.TheVariants.{Equal, False}

-- the plan that goes on by the first false line of a file
abbrev pub judged : Given → Option (ℕ × List ℕ) → Plan → Plan
judged given difference rest =
    option_map_or (λ d. Ending No [] (no_line given d)) difference rest

-- a file, which it is, its name and its text, is read and compared
abbrev pub comparing_one : Given × List ℕ × List ℕ → Plan → Plan
comparing_one w rest = Reading w.1 (λ bytes. judged w.0 (first_false bytes w.2) rest)

-- the end where all files are right
abbrev pub right_end : Plan
right_end = Ending Yes [] (codes "yes\n")

-- the plan of comparing files
abbrev pub comparing : List (Given × List ℕ × List ℕ) → Plan
comparing [] = right_end
comparing (w ∷ ws) = comparing_one w (comparing ws)

-- the plan behind a file whose comparison gave this
abbrev pub after : Verdict → Plan → Plan
after Equal rest = rest
after (False line) rest = Ending No [] line.items

-- the end of the plan where the comparison gave this
abbrev pub end_of : Verdict → Plan
end_of verdict = after verdict right_end
