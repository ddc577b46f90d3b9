use Rattle.std.proofs.Common.{codes, decimal}
use Rattle.std.proofs.lemmas.Result.{IfOk-from_err, on_ok_weaker}
use Rattle.pg_texts.specs.Inside.CellsLines.{layout_line_text}
use Rattle.pg_top.proofs.PrintedPieces.{work_pieces}
use Rattle.pg_top.proofs.generate.outputs.push_work.Goals as goal

pub returns : goal.returns
returns c =
    on_ok_weaker c.push_layout.result
    (work_pieces c.args.lines.now.items (codes "work: ") (decimal c.args.passes) (codes " passes, ") (layout_line_text c.args.layout.now) c.push_number.new.text.items
    c.extend_from_slice.new.self.items c.push_layout.new.text.items c.in_ok-push_number.ensures c.in_ok-extend_from_slice.ensures.items)
    c.push_layout.ensures

pub returns-in_err-push_number : goal.returns-in_err-push_number
returns-in_err-push_number c = IfOk-from_err c.from_residual.result _ c.from_residual.ensures.0

pub returns-in_err-extend_from_slice : goal.returns-in_err-extend_from_slice
returns-in_err-extend_from_slice c = IfOk-from_err c.from_residual-in_err-extend_from_slice.result _ c.from_residual-in_err-extend_from_slice.ensures.0
