use Rattle.std.proofs.Common.{◌++◌, codes, decimal}
use Rattle.std.proofs.lemmas.Result.{IfOk-from_err, on_ok_weaker}
use Rattle.pg_texts.specs.Inside.CellsLines.{taken_text}
use Rattle.pg_texts.proofs.Joins.{appended, then_a_number}
use Rattle.pg_texts.proofs.cells.push_layout.Goals as goal

pub returns : goal.returns
returns c =
    let l = c.args.layout.now in
    let two = c.push_number.new.text.items in
    let all = c.extend_from_slice.new.self.items in
    on_ok_weaker c.extend_from_slice.result
    (then_a_number c.args.text.now.items (taken_text l.taken l.top) (codes ", ") (decimal l.tails) (codes " tails\n") c.push_used.new.text.items two all
    c.in_ok-push_used.ensures c.in_ok-push_number.ensures)
    (appended c.extend_from_slice.result all (two ++ codes " tails\n") two c.extend_from_slice.ensures.items)

pub returns-in_err-push_used : goal.returns-in_err-push_used
returns-in_err-push_used c = IfOk-from_err c.from_residual.result _ c.from_residual.ensures.0

pub returns-in_err-push_number : goal.returns-in_err-push_number
returns-in_err-push_number c = IfOk-from_err c.from_residual-in_err-push_number.result _ c.from_residual-in_err-push_number.ensures.0
