use Rattle.std.proofs.Common.{codes}
use Rattle.std.proofs.lemmas.Result.{IfOk-from_err, on_ok_weaker}
use Rattle.pg_texts.specs.ReportTexts.{totals_text, rate_text}
use Rattle.pg_texts.proofs.Joins.{two_texts}
use Rattle.pg_texts.proofs.rates.push_ending.Goals as goal

pub returns : goal.returns
returns c =
    let totals = c.args.totals.now in
    on_ok_weaker c.push_rates.result
    (two_texts c.args.text.now.items (codes "total: ") (totals_text totals) (codes "\n") (rate_text totals) c.extend_from_slice.new.self.items
    c.push_totals.new.text.items c.extend_from_slice-2.new.self.items c.push_rates.new.text.items c.in_ok-extend_from_slice.ensures.items
    c.in_ok-push_totals.ensures c.in_ok-extend_from_slice-2.ensures.items)
    c.push_rates.ensures

pub returns-in_err-extend_from_slice : goal.returns-in_err-extend_from_slice
returns-in_err-extend_from_slice c = IfOk-from_err c.from_residual.result _ c.from_residual.ensures.0

pub returns-in_err-push_totals : goal.returns-in_err-push_totals
returns-in_err-push_totals c = IfOk-from_err c.from_residual-in_err-push_totals.result _ c.from_residual-in_err-push_totals.ensures.0

pub returns-in_err-extend_from_slice-2 : goal.returns-in_err-extend_from_slice-2
returns-in_err-extend_from_slice-2 c = IfOk-from_err c.from_residual-in_err-extend_from_slice-2.result _ c.from_residual-in_err-extend_from_slice-2.ensures.0
