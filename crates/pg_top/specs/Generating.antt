-- What `generate` reads, writes and prints.
use Rattle.std.specs.Prelude.{ℕ, ◌+◌, ◌&&◌, if◌then◌else◌, List, [], ◌∷◌, ◌++◌, map, codes, decimal, Option, None, Some}
use Rattle.std.specs.Option.{option_and_then, option_map}
use Rattle.std.specs.Str.{bytes_eq}
use Rattle.pg_types.specs.Parameters.{parameters}
use Rattle.pg_translate.specs.Alphabets.{letters_of}
use Rattle.pg_translate.specs.Tables.{table}
use Rattle.pg_dict.specs.DictionaryWords.{words}
use Rattle.pg_patterns.specs.Starts.{start}
use Rattle.pg_driver.specs.Accounts.{begun_count}
use Rattle.pg_texts.specs.CellsTexts.{families_at_end, layout_text}
use Rattle.pg_plans.specs.Plans.{Plan, Ending}
use Rattle.pg_plans.specs.declared.answers.Status.TheVariants.{Done}
use Rattle.pg_steps.specs.InputPlans.{input}
use Rattle.pg_steps.specs.declared.inputs.Given.{Given}
use Rattle.pg_steps.specs.declared.inputs.Given.TheVariants as given
use Rattle.pg_steps.specs.declared.inputs.Input.TheVariants.{Translate, Parameters, Patterns, Dictionary}
use Rattle.pg_words.specs.AcceptedNames.{where_accepted}
use Rattle.pg_top.specs.PrintedLines.{done_line}
use Rattle.pg_top.specs.Selection.{selection, selected_patterns, selected_file}
use Rattle.pg_top.specs.declared.selection.Inputs.{Inputs}

-- what a selection is made of is read in this order
abbrev pub selection_from : (d p t a : List ℕ) → (Inputs → Plan) → Plan
selection_from d p t a next = input Translate t table (λ T. input Parameters a parameters (λ A.
    input Patterns p (start T) (λ S. input Dictionary d (words T) (λ W.
    next (record { table = T; params = A; start = S; dictionary = W })))))

-- the lines that are put: the `done:` line, and one with the passes begun and the last layout
abbrev pub selected_lines : Inputs → List ℕ
selected_lines i = done_line i ++ codes "work: " ++ decimal (begun_count (selection i))
    ++ codes " passes, " ++ layout_text
    (families_at_end (letters_of i.table + 1) i.start (selection i)) (selected_patterns i)

-- the file that an option asks for
abbrev pub option_asked : List ℕ → List ℕ → Option (Given × List ℕ)
option_asked option name = if bytes_eq option (codes "--pattmp") then Some (given.Pattmp, name)
    else (if bytes_eq option (codes "--cells") then Some (given.Cells, name) else None)

-- the files that options ask for, in the order in which they are written. Each option may stand
-- once
abbrev pub files_asked : List (List ℕ) → Option (List (Given × List ℕ))
files_asked [] = Some []
files_asked (option ∷ name ∷ []) = option_map (λ g. g ∷ []) (option_asked option name)
files_asked (first ∷ one ∷ second ∷ two ∷ []) =
    if bytes_eq first (codes "--pattmp") && bytes_eq second (codes "--cells")
    then Some ((given.Pattmp, one) ∷ (given.Cells, two) ∷ [])
    else (if bytes_eq first (codes "--cells") && bytes_eq second (codes "--pattmp")
    then Some ((given.Pattmp, two) ∷ (given.Cells, one) ∷ []) else None)
files_asked arguments = None

-- the files of a selection in their order: the patterns, those asked for, and the report
abbrev pub files_of : List ℕ → List (Given × List ℕ) → List ℕ → List (Given × List ℕ)
files_of output asked report = (given.Patterns, output) ∷ asked ++ (given.Report, report) ∷ []

-- `generate DICT PATTERNS OUT TRANSLATE PARAMS REPORT`, then `--pattmp FILE` and `--cells FILE`
abbrev pub generate : List (List ℕ) → Option Plan
generate (d ∷ p ∷ o ∷ t ∷ a ∷ r ∷ options) = option_and_then (λ asked.
    let files = files_of o asked r in
    where_accepted (d ∷ p ∷ t ∷ a ∷ []) (map (λ g. g.1) files) (selection_from d p t a
    (λ i. Ending Done (map (λ g. (g.1, selected_file i g.0)) files) (selected_lines i))))
    (files_asked options)
generate arguments = None
