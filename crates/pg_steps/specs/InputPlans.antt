-- The plan of reading an input.
use Rattle.std.specs.Prelude.{ℕ, List, [], Result, Ok, Err}
use Rattle.pg_types.specs.declared.refusals.Refusal.{Refusal}
use Rattle.pg_plans.specs.Plans.{Plan, Reading, Ending}
use Rattle.pg_steps.specs.RefusedLines.{refused_line}
use Rattle.pg_plans.specs.declared.answers.Status.TheVariants.{Refused}
use Rattle.pg_steps.specs.declared.inputs.Input.{Input}

-- the plan where an input gave a value, or broke the rules of its kind
abbrev pub unless_refused : {Y : Type 0} → Input → Result Y Refusal → (Y → Plan) → Plan
unless_refused kind (Ok y) next = next y
unless_refused kind (Err refusal) next = Ending Refused [] (refused_line kind refusal)

-- the plan of reading an input and going on by its value
abbrev pub input : {Y : Type 0} → Input → List ℕ → (List ℕ → Result Y Refusal) → (Y → Plan) → Plan
input kind name parse next = Reading name (λ bytes. unless_refused kind (parse bytes) next)
