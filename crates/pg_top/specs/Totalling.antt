-- What `totals` reads of a packed table, and what it prints.
use Rattle.std.specs.Prelude.{ℕ, ◌+◌, not, nat_eq, nat_lt, if◌then◌else◌, List, [], ◌∷◌, length, Option, None, Result, Ok, Err}
use Rattle.pg_types.specs.ValuesOrRefusals.{refusal_at}
use Rattle.pg_types.specs.declared.packed_table.TheConstants.{TABLE_MAX}
use Rattle.pg_types.specs.declared.refusals.Kind.TheVariants.{TableTooLong, BadTable, OtherTable}
use Rattle.pg_types.specs.declared.refusals.Refusal.{Refusal}
use Rattle.pg_translate.specs.Alphabets.{Alphabet, letters_of}
use Rattle.pg_translate.specs.Tables.{table}
use Rattle.pg_dict.specs.DictionaryWords.{words}
use Rattle.pg_table.specs.Forms.{sizes_of, is_well_formed}
use Rattle.pg_table.specs.Lookups.{table_totals}
use Rattle.pg_texts.specs.ReportTexts.{ending_text}
use Rattle.pg_plans.specs.Plans.{Plan, Ending}
use Rattle.pg_plans.specs.declared.answers.Status.TheVariants.{Done}
use Rattle.pg_steps.specs.InputPlans.{input}
use Rattle.pg_steps.specs.declared.inputs.Input.TheVariants.{Translate, Dictionary, Table}
use Rattle.pg_words.specs.AcceptedNames.{where_accepted}

-- the bytes of a packed table for the letters of a table, or why they are refused
abbrev pub packed_table : Alphabet → List ℕ → Result (List ℕ) Refusal
packed_table t b = if nat_lt TABLE_MAX (length b) then Err (refusal_at 0 TableTooLong 0)
    else (if not (is_well_formed b) then Err (refusal_at 0 BadTable 0)
    else (if nat_eq (sizes_of b).signs (letters_of t + 1) then Ok b
    else Err (refusal_at 0 OtherTable 0)))

-- `totals DICT TRANSLATE TABLE`, where names may be equal. It writes no file
abbrev pub totals : List (List ℕ) → Option Plan
totals (d ∷ t ∷ b ∷ []) = where_accepted (d ∷ t ∷ b ∷ []) [] (input Translate t table (λ T.
    input Dictionary d (words T) (λ W. input Table b (packed_table T) (λ B.
    Ending Done [] (ending_text (table_totals T W B))))))
totals arguments = None
