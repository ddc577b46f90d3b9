use Rattle.std.proofs.Common.{◌++◌, codes, decimal, ap, ◌∙◌}
use Rattle.std.proofs.lemmas.List.{append-nil}
use Rattle.std.proofs.lemmas.Result.{IfOk-from_err, on_ok_weaker}
use Rattle.pg_texts.proofs.Joins.{appended, three_numbers}
use Rattle.pg_texts.proofs.rates.push_totals.Goals as goal

pub returns : goal.returns
returns c =
    let t = c.args.totals.now in
    let three = c.push_number-3.new.text.items in
    let all = c.extend_from_slice.new.self.items in
    on_ok_weaker c.extend_from_slice.result
    (three_numbers c.args.text.now.items (decimal t.good) (codes " good, ") (decimal t.bad) (codes " bad, ") (decimal t.missed) (codes " missed")
    c.push_number.new.text.items c.push_number-2.new.text.items three all
    (c.in_ok-push_number.ensures ∙ ap (λ xs. xs ++ decimal t.good) (append-nil c.args.text.now.items)) c.in_ok-push_number-2.ensures c.in_ok-push_number-3.ensures)
    (appended c.extend_from_slice.result all (three ++ codes " missed") three c.extend_from_slice.ensures.items)

pub returns-in_err-push_number : goal.returns-in_err-push_number
returns-in_err-push_number c = IfOk-from_err c.from_residual.result _ c.from_residual.ensures.0

pub returns-in_err-push_number-2 : goal.returns-in_err-push_number-2
returns-in_err-push_number-2 c = IfOk-from_err c.from_residual-in_err-push_number-2.result _ c.from_residual-in_err-push_number-2.ensures.0

pub returns-in_err-push_number-3 : goal.returns-in_err-push_number-3
returns-in_err-push_number-3 c = IfOk-from_err c.from_residual-in_err-push_number-3.result _ c.from_residual-in_err-push_number-3.ensures.0
