use Rattle.std.proofs.Common.{◌∙◌, ◌++◌, codes, decimal, length, ap}
use Rattle.std.proofs.lemmas.Result.{IfOk-from_err, on_ok_weaker}
use Rattle.pg_types.specs.Lines.{lines}
use Rattle.pg_texts.specs.ReportTexts.{totals_text}
use Rattle.pg_texts.proofs.Joins.{appended}
use Rattle.pg_top.proofs.PrintedPieces.{done_pieces}
use Rattle.pg_top.proofs.printed.begin_done.Goals as goal

pub returns : goal.returns
returns c =
    let line = c.args.line.now.items in
    let three = c.push_totals.new.text.items in
    let all = c.extend_from_slice-2.new.self.items in
    on_ok_weaker c.extend_from_slice-2.result
    (done_pieces (codes "done: ") (decimal (length (lines c.args.patterns.now))) (codes " patterns, ") (totals_text c.args.totals.now) (codes "\n") line c.push_number.new.text.items
    c.extend_from_slice.new.self.items three all c.requires (c.in_ok-push_number.ensures ∙ ap (λ n. line ++ codes "done: " ++ decimal n) c.count_lines.ensures)
    c.in_ok-extend_from_slice.ensures.items c.in_ok-push_totals.ensures)
    (appended c.extend_from_slice-2.result all (three ++ codes "\n") three c.extend_from_slice-2.ensures.items)

pub returns-in_err-push_number : goal.returns-in_err-push_number
returns-in_err-push_number c = IfOk-from_err c.from_residual.result _ c.from_residual.ensures.0

pub returns-in_err-extend_from_slice : goal.returns-in_err-extend_from_slice
returns-in_err-extend_from_slice c = IfOk-from_err c.from_residual-in_err-extend_from_slice.result _ c.from_residual-in_err-extend_from_slice.ensures.0

pub returns-in_err-push_totals : goal.returns-in_err-push_totals
returns-in_err-push_totals c = IfOk-from_err c.from_residual-in_err-push_totals.result _ c.from_residual-in_err-push_totals.ensures.0
