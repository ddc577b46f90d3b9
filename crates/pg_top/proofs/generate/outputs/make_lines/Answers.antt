use Rattle.std.proofs.Common.{◌≡◌, ◌∙◌, ◌++◌, ap}
use Rattle.pg_driver.specs.Inside.records.AccountLines.{Account}
use Rattle.pg_top.specs.PrintedLines.{done_line}
use Rattle.pg_top.specs.Inside.Printed.{done_text}
use Rattle.pg_top.specs.Inside.selection.SelectionAccounts.{work_line, selected_cells, passes_begun, last_layout}
use Rattle.pg_top.proofs.Selections.{totals_selected, end_selected}
use Rattle.pg_top.proofs.generate.outputs.make_lines.Goals as goal

pub returns : goal.returns
returns c =
    let i = c.args.inputs.now in
    let totals = c.totals.ensures.value ∙ ap (λ (a : Account). a.totals) c.requires.told.account ∙ totals_selected i in
    let done : c.in_ok-lines.lines.items ≡ done_line i = c.in_ok-lines.ensures ∙ (λ k. done_text (c.requires.text k) (totals k)) in
    c.in_ok-push_end.ensures
    ∙ ap (λ line. line ++ work_line (passes_begun i) (last_layout (selected_cells i))) done
    ∙ end_selected i (done_line i)
