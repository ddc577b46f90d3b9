use Rattle.std.proofs.Common.{◌-◌, ◌++◌, codes, decimal, ap, ◌∙◌}
use Rattle.std.proofs.lemmas.List.{append-nil}
use Rattle.std.proofs.lemmas.Result.{IfOk-from_err}
use Rattle.pg_texts.proofs.Joins.{four_numbers}
use Rattle.pg_texts.proofs.report.push_counts.Goals as goal

pub returns : goal.returns
returns c =
    four_numbers c.args.text.now.items (decimal c.args.pass.now.candidates) (codes " candidates, ") (decimal c.args.pass.now.chosen) (codes " chosen, ")
    (decimal c.args.pass.now.hopeless) (codes " hopeless, ") (decimal (c.args.pass.now.candidates - c.args.pass.now.chosen - c.args.pass.now.hopeless))
    (codes " left; ")
    c.push_number.new.text.items c.push_number-2.new.text.items c.push_number-3.new.text.items c.push_number-4.new.text.items c.extend_from_slice.new.self.items
    (c.in_ok-push_number.ensures ∙ ap (λ t. t ++ decimal c.args.pass.now.candidates) (append-nil c.args.text.now.items)) c.in_ok-push_number-2.ensures
    c.in_ok-push_number-3.ensures c.in_ok-push_number-4.ensures c.in_ok-extend_from_slice.ensures.items

pub returns-in_err-push_number : goal.returns-in_err-push_number
returns-in_err-push_number c = IfOk-from_err c.from_residual.result _ c.from_residual.ensures.0

pub returns-in_err-push_number-2 : goal.returns-in_err-push_number-2
returns-in_err-push_number-2 c = IfOk-from_err c.from_residual-in_err-push_number-2.result _ c.from_residual-in_err-push_number-2.ensures.0

pub returns-in_err-push_number-3 : goal.returns-in_err-push_number-3
returns-in_err-push_number-3 c = IfOk-from_err c.from_residual-in_err-push_number-3.result _ c.from_residual-in_err-push_number-3.ensures.0

pub returns-in_err-push_number-4 : goal.returns-in_err-push_number-4
returns-in_err-push_number-4 c = IfOk-from_err c.from_residual-in_err-push_number-4.result _ c.from_residual-in_err-push_number-4.ensures.0

pub returns-in_err-extend_from_slice : goal.returns-in_err-extend_from_slice
returns-in_err-extend_from_slice c = IfOk-from_err c.from_residual-in_err-extend_from_slice.result _ c.from_residual-in_err-extend_from_slice.ensures.0
