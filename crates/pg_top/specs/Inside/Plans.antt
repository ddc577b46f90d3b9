-- The plan of each command by its names, and the ends of plans.
use Rattle.std.specs.Prelude.{ℕ, ◌+◌, nat_lt, if◌then◌else◌, List, [], ◌∷◌, length, map}
use Rattle.pg_types.specs.ValuesOrRefusals.{refusal_at}
use Rattle.pg_types.specs.declared.packed_table.TheConstants.{TABLE_MAX}
use Rattle.pg_types.specs.declared.refusals.Kind.TheVariants.{TableTooLong}
use Rattle.pg_translate.specs.Alphabets.{Alphabet, letters_of}
use Rattle.pg_translate.specs.Tables.{table}
use Rattle.pg_dict.specs.DictionaryWords.{words}
use Rattle.pg_patterns.specs.Starts.{start}
use Rattle.pg_patterns.specs.Texts.{pattern_text}
use Rattle.pg_patterns.specs.Values as patterns
use Rattle.pg_prune.specs.Prunes.{Pruning, pruning_of}
use Rattle.pg_prune.specs.Reports.{prune_report}
use Rattle.pg_table.specs.Lookups.{table_totals}
use Rattle.pg_table.specs.Texts.{table_text}
use Rattle.pg_texts.specs.ReportTexts.{ending_text}
use Rattle.pg_plans.specs.Plans.{Plan, Ending}
use Rattle.pg_plans.specs.declared.answers.Status.TheVariants.{Done, Refused}
use Rattle.pg_steps.specs.InputPlans.{input}
use Rattle.pg_steps.specs.RefusedLines.{refused_line}
use Rattle.pg_steps.specs.declared.inputs.Given.{Given}
use Rattle.pg_steps.specs.declared.inputs.Input.TheVariants.{Translate, Patterns, Dictionary, Table}
use Rattle.pg_top.specs.Auditing.{comparison}
use Rattle.pg_top.specs.Generating.{selection_from, selected_lines}
use Rattle.pg_top.specs.Packing.{packed_line}
use Rattle.pg_top.specs.Pruning.{rounds_line}
use Rattle.pg_top.specs.Selection.{selected_file}
use Rattle.pg_top.specs.Totalling.{packed_table}

-- `generate` writes these files
abbrev pub plan_of_generate : (d p t a : List ℕ) → List (Given × List ℕ) → Plan
plan_of_generate d p t a files = selection_from d p t a (λ i.
    Ending Done (map (λ g. (g.1, selected_file i g.0)) files) (selected_lines i))

-- `audit` compares these files
abbrev pub plan_of_audit : (d p t a : List ℕ) → List (Given × List ℕ) → Plan
plan_of_audit d p t a files = selection_from d p t a (λ i. comparison i files)

-- the packed table of patterns is written under this name, unless it is too long
abbrev pub end_of_pack : List ℕ → Alphabet → patterns.Patterns → Plan
end_of_pack name T P = let text = table_text (letters_of T + 1) P in
    if nat_lt TABLE_MAX (length text)
    then Ending Refused [] (refused_line Table (refusal_at 0 TableTooLong 0))
    else Ending Done ((name, text) ∷ []) (packed_line (pattern_text T P) text)

abbrev pub plan_of_pack : (p t o : List ℕ) → Plan
plan_of_pack p t o = input Translate t table (λ T. input Patterns p (start T) (end_of_pack o T))

abbrev pub plan_of_totals : (d t b : List ℕ) → Plan
plan_of_totals d t b = input Translate t table (λ T. input Dictionary d (words T) (λ W.
    input Table b (packed_table T) (λ B.
    Ending Done [] (ending_text (table_totals T W B)))))

-- the patterns that stay and a report are written, where pruning finds this
abbrev pub end_of_prune : (o r : List ℕ) → Alphabet → Pruning → Plan
end_of_prune o r T found = Ending Done
    ((o, pattern_text T found.patterns) ∷ (r, prune_report T found) ∷ [])
    (rounds_line found.rounds found.removed (length found.patterns))

abbrev pub plan_of_prune : (d p o t r : List ℕ) → Plan
plan_of_prune d p o t r = input Translate t table (λ T. input Patterns p (start T) (λ P.
    input Dictionary d (words T) (λ W. end_of_prune o r T (pruning_of T W P))))
