-- What `pack` writes and prints.
use Rattle.std.specs.Prelude.{ℕ, ◌+◌, nat_lt, if◌then◌else◌, List, [], ◌∷◌, ◌++◌, length, codes, decimal, Option, None}
use Rattle.pg_types.specs.Lines.{lines}
use Rattle.pg_types.specs.ValuesOrRefusals.{refusal_at}
use Rattle.pg_types.specs.declared.packed_table.TheConstants.{TABLE_MAX}
use Rattle.pg_types.specs.declared.refusals.Kind.TheVariants.{TableTooLong}
use Rattle.pg_translate.specs.Alphabets.{letters_of}
use Rattle.pg_translate.specs.Tables.{table}
use Rattle.pg_patterns.specs.Starts.{start}
use Rattle.pg_patterns.specs.Texts.{pattern_text}
use Rattle.pg_table.specs.Texts.{table_text}
use Rattle.pg_plans.specs.Plans.{Plan, Ending}
use Rattle.pg_plans.specs.declared.answers.Status.TheVariants.{Done, Refused}
use Rattle.pg_steps.specs.InputPlans.{input}
use Rattle.pg_steps.specs.RefusedLines.{refused_line}
use Rattle.pg_steps.specs.declared.inputs.Input.TheVariants.{Translate, Patterns, Table}
use Rattle.pg_words.specs.AcceptedNames.{where_accepted}

-- the line where `pack` is done: how many lines the pattern file has, and how many bytes the table
abbrev pub packed_line : List ℕ → List ℕ → List ℕ
packed_line patterns table = codes "packed: " ++ decimal (length (lines patterns))
    ++ codes " patterns, " ++ decimal (length table) ++ codes " bytes\n"

-- `pack PATTERNS TRANSLATE TABLE`: the packed table is written, unless it is too long
abbrev pub pack : List (List ℕ) → Option Plan
pack (p ∷ t ∷ o ∷ []) = where_accepted (p ∷ t ∷ []) (o ∷ []) (input Translate t table (λ T.
    input Patterns p (start T) (λ P. let text = table_text (letters_of T + 1) P in
    if nat_lt TABLE_MAX (length text)
    then Ending Refused [] (refused_line Table (refusal_at 0 TableTooLong 0))
    else Ending Done ((o, text) ∷ []) (packed_line (pattern_text T P) text))))
pack arguments = None
