-- The files of a selection, as they are made.
use Rattle.std.specs.Prelude.{ℕ, List, map}
use Rattle.pg_steps.specs.declared.inputs.Given.{Given}
use Rattle.pg_words.specs.Inside.forms.Generate.{FileNames}
use Rattle.pg_top.specs.Selection.{selected_file}
use Rattle.pg_top.specs.Inside.Requests.{selected_names}
use Rattle.pg_top.specs.declared.selected_files.SelectedFile.{SelectedFile}
use Rattle.pg_top.specs.declared.selection.Inputs.{Inputs}

-- a file that was made: which it is, its name and its text
abbrev pub made_file : SelectedFile → Given × List ℕ × List ℕ
made_file f = (f.given, f.name.now, f.text.items)

-- a file that was made, as it is written
abbrev pub written_file : SelectedFile → List ℕ × List ℕ
written_file f = (f.name.now, f.text.items)

-- files that were made
abbrev pub made_files : List SelectedFile → List (Given × List ℕ × List ℕ)
made_files fs = map made_file fs

-- the files that are to be made
abbrev pub due_files : FileNames → Inputs → List (Given × List ℕ × List ℕ)
due_files n i = map (λ g. (g.0, g.1, selected_file i g.0)) (selected_names n)

-- the files that are written
abbrev pub selected_files : FileNames → Inputs → List (List ℕ × List ℕ)
selected_files n i = map (λ g. (g.1, selected_file i g.0)) (selected_names n)
