use Rattle.std.proofs.Common.{◌≡◌, ◌∙◌, ◌++◌, ◌∷◌, [], List, ℕ, Vec, Some, sym, ap}
use Rattle.std.specs.declared.alloc.Global.{Global}
use Rattle.std.proofs.lemmas.List.{append-nil}
use Rattle.pg_driver.specs.Inside.records.RunAccounts.{TellsCells}
use Rattle.pg_texts.proofs.Layouts.{layouts_there}
use Rattle.pg_steps.specs.declared.inputs.Given.{Given}
use Rattle.pg_steps.specs.declared.inputs.Given.TheVariants as given
use Rattle.pg_words.specs.Inside.CommandRequests.{name_now, texts_of}
use Rattle.pg_words.specs.Inside.forms.Generate.{if_asked}
use Rattle.pg_top.specs.Selection.{selected_file}
use Rattle.pg_top.specs.Inside.selection.SelectedFiles.{made_files}
use Rattle.pg_top.specs.Inside.selection.SelectionAccounts.{selected_cells}
use Rattle.pg_top.specs.declared.selected_files.SelectedFile.{SelectedFile}
use Rattle.pg_top.proofs.SelectedLists.{in_order}
use Rattle.pg_top.proofs.Selections.{cells_text_selected}
use Rattle.pg_top.proofs.selected_files.make_selected.Goals as goal
use Rattle.pg_top.proofs.selected_files.make_selected.Goals.{in-Some+in_ok-list+in_ok-push_selected-2, in_default, in-Some-cells+in_ok-cells+in_ok-push_selected-3, in_default-cells}

-- files, each by which it is, its name and its text
abbrev Files : Type 0
Files = List (Given × List ℕ × List ℕ)

abbrev made_of : Vec SelectedFile Global → Files
made_of files = made_files files.items

pub cells_text-requires : goal.cells_text-requires
cells_text-requires g c =
    let told : TellsCells (Some (selected_cells c.args.inputs.now)) c.args.run.now = rw c.in-Some-cells.is at c.requires.cells in
    layouts_there (selected_cells c.args.inputs.now) c.args.run.now told

pub returns : goal.returns
returns g c =
    let i = c.args.inputs.now in
    let n = c.args.names.now in
    let list : Files = if_asked (name_now n.pattmp) (λ name. (given.Pattmp, name, selected_file i given.Pattmp)) in
    let cells : Files = if_asked (name_now n.cells) (λ name. (given.Cells, name, selected_file i given.Cells)) in
    let first = c.in_ok-push_selected.ensures ∙ ap (λ (fs : List SelectedFile). made_files fs ++ (given.Patterns, n.output.now, c.in_ok-text.text.items) ∷ []) c.new-files.ensures.items
    ∙ ap (λ (t : List ℕ). (given.Patterns, n.output.now, t) ∷ []) c.in_ok-text.ensures.text in
    let second : made_of c.match-names.files ≡ made_of c.push_selected.new.files ++ if_asked (name_now n.pattmp) (λ name. (given.Pattmp, name, selected_file i given.Pattmp)) = elim c.match-names.branch [
      | in-Some+in_ok-list+in_ok-push_selected-2 w ↦ ap made_of w.files-is ∙ rw w.in-Some.is (w.in_ok-push_selected-2.ensures
          ∙ ap (λ (t : List ℕ). made_of c.push_selected.new.files ++ (given.Pattmp, w.in-Some.name.now, t) ∷ []) w.in_ok-list.ensures)
      | in_default w ↦ ap made_of w.files-is ∙ rw w.in_default.is (sym (append-nil (made_of c.push_selected.new.files)))
    ] in
    let third : made_of c.match-names-2.files ≡ made_of c.match-names.files ++ if_asked (name_now n.cells) (λ name. (given.Cells, name, selected_file i given.Cells)) = elim c.match-names-2.branch [
      | in-Some-cells+in_ok-cells+in_ok-push_selected-3 w ↦
          let told : TellsCells (Some (selected_cells i)) c.args.run.now = rw w.in-Some-cells.is at c.requires.cells in
          ap made_of w.files-is ∙ rw w.in-Some-cells.is (w.in_ok-push_selected-3.ensures
          ∙ ap (λ (t : List ℕ). made_of c.match-names.files ++ (given.Cells, w.in-Some-cells.name.now, t) ∷ []) (w.in_ok-cells.ensures.text (selected_cells i) told ∙ cells_text_selected i))
      | in_default-cells w ↦ ap made_of w.files-is ∙ rw w.in_default-cells.is (sym (append-nil (made_of c.match-names.files)))
    ] in
    let all = third ∙ ap (λ (fs : Files). fs ++ cells) (second ∙ ap (λ (fs : Files). fs ++ list) first) in
    record {
      files = c.in_ok-push_selected-4.ensures ∙ ap (λ (fs : Files). fs ++ (given.Report, n.report.now, c.in_ok-report.report.items) ∷ []) all
          ∙ ap (λ (t : List ℕ). (((given.Patterns, n.output.now, selected_file i given.Patterns) ∷ [] ++ list) ++ cells) ++ (given.Report, n.report.now, t) ∷ []) c.in_ok-report.ensures
          ∙ in_order (texts_of n) i;
      reads_back = c.in_ok-text.ensures.reads_back;
    }
