use Rattle.std.proofs.Common.{◌≡◌, ◌∙◌, ◌++◌, List, ℕ, ap}
use Rattle.pg_driver.specs.Inside.records.AccountLines.{Account}
use Rattle.pg_top.specs.PrintedLines.{done_line}
use Rattle.pg_top.specs.Inside.Printed.{done_text}
use Rattle.pg_top.specs.Inside.Sampled.{printed_part}
use Rattle.pg_steps.specs.declared.inputs.Given.TheVariants as given
use Rattle.pg_top.specs.Selection.{selected_file}
use Rattle.pg_top.proofs.Selections.{totals_selected}
use Rattle.pg_top.proofs.sample.lines_after.Goals as goal

pub returns : goal.returns
returns c =
    let i = c.args.inputs.now in
    let text : c.in_ok-patterns.patterns.items ≡ selected_file i given.Patterns = c.in_ok-patterns.ensures.text in
    let report : c.in_ok-report.report.items ≡ selected_file i given.Report = c.in_ok-report.ensures in
    let totals = c.totals.ensures.value ∙ ap (λ (a : Account). a.totals) c.requires.told.account ∙ totals_selected i in
    let done : c.in_ok-done.done.items ≡ done_line i = c.in_ok-done.ensures ∙ (λ k. done_text ((c.deref.ensures.value ∙ text) k) (totals k)) in
    let printed : c.push_printed.new.lines.items ≡ printed_part (selected_file i given.Report) = c.in_ok-push_printed.ensures
    ∙ ap (λ (xs : List ℕ). xs ++ printed_part c.deref-2.result.now) c.new-lines.ensures.items ∙ ap printed_part (c.deref-2.ensures.value ∙ report) in
    c.in_ok-extend_from_slice.ensures.items ∙ (λ k. printed k ++ (c.deref-3.ensures.value ∙ done) k)
