-- The files of a selection in their order, as they are made and written.
use Rattle.std.proofs.Common.{◌≡◌, ℕ, List, [], ◌∷◌, ◌++◌, map, Option, None, Some, refl, sym, ap, ◌∙◌}
use Rattle.std.proofs.lemmas.List.{map-append}
use Rattle.std.proofs.lemmas.Simd.{map-map}
use Rattle.pg_steps.specs.declared.inputs.Given.{Given}
use Rattle.pg_steps.specs.declared.inputs.Given.TheVariants as given
use Rattle.pg_words.specs.Inside.forms.Generate.{FileNames, if_asked}
use Rattle.pg_top.specs.Selection.{selected_file}
use Rattle.pg_top.specs.Inside.Requests.{selected_names}
use Rattle.pg_top.specs.Inside.selection.SelectedFiles.{made_file, made_files, written_file, due_files, selected_files}
use Rattle.pg_top.specs.declared.selected_files.SelectedFile.{SelectedFile}
use Rattle.pg_top.specs.declared.selection.Inputs.{Inputs}

pub one_made : (fs : List SelectedFile) (f : SelectedFile) → made_files (fs ++ f ∷ []) ≡ made_files fs ++ made_file f ∷ []
one_made fs f = map-append made_file fs (f ∷ [])

-- the files as they are added one after the other
abbrev pub added_files : FileNames → Inputs → List (Given × List ℕ × List ℕ)
added_files n i =
    let first : List (Given × List ℕ × List ℕ) = (given.Patterns, n.output, selected_file i given.Patterns) ∷ [] in
    let list : List (Given × List ℕ × List ℕ) = if_asked n.pattmp (λ name. (given.Pattmp, name, selected_file i given.Pattmp)) in
    let cells : List (Given × List ℕ × List ℕ) = if_asked n.cells (λ name. (given.Cells, name, selected_file i given.Cells)) in
    let last : List (Given × List ℕ × List ℕ) = (given.Report, n.report, selected_file i given.Report) ∷ [] in
    ((first ++ list) ++ cells) ++ last

-- with the hyphenated list and the cells file, and without them
by_options : (n : FileNames) (i : Inputs) (pattmp cells : Option (List ℕ)) → added_files (record n { pattmp = pattmp; cells = cells }) i ≡ due_files (record n { pattmp = pattmp; cells = cells }) i
by_options n i None None = refl
by_options n i None (Some cells) = refl
by_options n i (Some pattmp) None = refl
by_options n i (Some pattmp) (Some cells) = refl

pub in_order : (n : FileNames) (i : Inputs) → added_files n i ≡ due_files n i
in_order n i = by_options n i n.pattmp n.cells

module _ (fs : List SelectedFile) (n : FileNames) (i : Inputs) (is : made_files fs ≡ due_files n i) where
  -- they are written
  pub written_made : map written_file fs ≡ selected_files n i
  written_made = sym (map-map named made_file fs) ∙ ap (map named) is ∙ map-map named (λ g. (g.0, g.1, selected_file i g.0)) (selected_names n)
    where
      named : Given × List ℕ × List ℕ → List ℕ × List ℕ
      named f = (f.1, f.2)
