use Rattle.std.proofs.Common.{◌++◌, codes, decimal, ap, ◌∙◌}
use Rattle.std.proofs.lemmas.Result.{IfOk-from_err}
use Rattle.pg_texts.proofs.Joins.{two_numbers}
use Rattle.pg_texts.proofs.report.push_warning_line.Goals as goal

pub returns : goal.returns
returns c =
    two_numbers c.args.text.now.items (codes "warning: starting value ") (decimal c.args.value) (codes " is not below level ") (decimal c.args.level) (codes
    "\n") c.push_number.new.text.items c.push_number-2.new.text.items c.extend_from_slice.new.self.items
    (c.in_ok-push_number.ensures ∙ ap (λ n. c.args.text.now.items ++ codes "warning: starting value " ++ decimal n) c.from.ensures)
    (c.in_ok-push_number-2.ensures ∙ ap (λ n. c.push_number.new.text.items ++ codes " is not below level " ++ decimal n) c.from-2.ensures)
    c.in_ok-extend_from_slice.ensures.items

pub returns-in_err-push_number : goal.returns-in_err-push_number
returns-in_err-push_number c = IfOk-from_err c.from_residual.result _ c.from_residual.ensures.0

pub returns-in_err-push_number-2 : goal.returns-in_err-push_number-2
returns-in_err-push_number-2 c = IfOk-from_err c.from_residual-in_err-push_number-2.result _ c.from_residual-in_err-push_number-2.ensures.0

pub returns-in_err-extend_from_slice : goal.returns-in_err-extend_from_slice
returns-in_err-extend_from_slice c = IfOk-from_err c.from_residual-in_err-extend_from_slice.result _ c.from_residual-in_err-extend_from_slice.ensures.0
