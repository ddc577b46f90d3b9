-- The texts that a command built, as the end of its plan.
use Rattle.std.specs.Prelude.{ℕ, List, map}
use Rattle.pg_plans.specs.Plans.{Plan, Ending}
use Rattle.pg_plans.specs.declared.answers.Status.TheVariants.{Done}
use Rattle.pg_steps.specs.declared.ends.OutputFile.{OutputFile}
use Rattle.pg_steps.specs.declared.ends.BuiltTexts.{BuiltTexts}

-- files that are to be written, each as its name and its text
abbrev pub writing_of : List OutputFile → List (List ℕ × List ℕ)
writing_of outputs = map (λ o. (o.name.now, o.text.items)) outputs

-- the end of the plan where these texts are built
abbrev pub ending_of : BuiltTexts → Plan
ending_of built = Ending Done (writing_of built.files.items) built.lines.items
