-- What `audit` compares, and what it says.
use Rattle.std.specs.Prelude.{ℕ, true, false, not, ◌&&◌, if◌then◌else◌, List, [], ◌∷◌, ◌++◌, map, codes, decimal, Option, None, Some}
use Rattle.std.specs.List.{list_all, list_any}
use Rattle.std.specs.Option.{option_and_then, option_map_or}
use Rattle.pg_audit.specs.Differences.{first_false}
use Rattle.pg_audit.specs.FoundLines.{found_text}
use Rattle.pg_plans.specs.Plans.{Plan, Reading, Ending}
use Rattle.pg_plans.specs.declared.answers.Status.TheVariants.{Yes, No}
use Rattle.pg_steps.specs.RefusedLines.{label_of}
use Rattle.pg_steps.specs.declared.inputs.Given.{Given}
use Rattle.pg_steps.specs.declared.inputs.Given.TheVariants as given
use Rattle.pg_steps.specs.declared.inputs.Input.TheVariants as input
use Rattle.pg_words.specs.AcceptedNames.{is_name}
use Rattle.pg_top.specs.Generating.{selection_from, files_asked, files_of}
use Rattle.pg_top.specs.Selection.{selected_file}
use Rattle.pg_top.specs.declared.selection.Inputs.{Inputs}

-- the line where a line of a given file is false: its number, and what stands there
abbrev pub no_line : Given → ℕ × List ℕ → List ℕ
no_line g d = codes "no: " ++ label_of (input.Given g) ++ codes " line "
    ++ decimal d.0 ++ found_text d.1 ++ codes "\n"

-- the given files are read and compared one after the other, up to the first that is false
abbrev pub comparison : Inputs → List (Given × List ℕ) → Plan
comparison i [] = Ending Yes [] (codes "yes\n")
comparison i (g ∷ gs) = Reading g.1 (λ bytes. option_map_or (λ d. Ending No [] (no_line g.0 d))
    (first_false bytes (selected_file i g.0)) (comparison i gs))

-- `audit` with the names of `generate`, of which some may be the same, and then `--pattmp FILE`,
-- but not `--cells FILE`, since patterns of another program have no cells. It reads what
-- `generate` reads, and compares the files that `generate` writes
abbrev pub audit : List (List ℕ) → Option Plan
audit (d ∷ p ∷ o ∷ t ∷ a ∷ r ∷ options) = option_and_then (λ asked.
    let files = files_of o asked r in if list_all is_name (d ∷ p ∷ t ∷ a ∷ map (λ g. g.1) files)
    && not (list_any (λ g. elim g.0 [ given.Cells ↦ true | other ↦ false ]) asked)
    then Some (selection_from d p t a (λ i. comparison i files)) else None) (files_asked options)
audit arguments = None
