-- The end of `totals`.
use Rattle.std.specs.Prelude.{ℕ, List, []}
use Rattle.pg_translate.specs.Alphabets.{Alphabet}
use Rattle.pg_dict.specs.Word.{Word}
use Rattle.pg_plans.specs.Plans.{Plan, Ending}
use Rattle.pg_plans.specs.declared.answers.Status.TheVariants.{Done}
use Rattle.pg_table.specs.Lookups.{table_totals}
use Rattle.pg_texts.specs.ReportTexts.{ending_text}

-- the totals of these words by a packed table are put, and the rates
abbrev pub totals_end : Alphabet → List Word → List ℕ → Plan
totals_end t ws b = Ending Done [] (ending_text (table_totals t ws b))
