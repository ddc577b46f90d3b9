use Rattle.std.proofs.Common.{◌-◌, ◌++◌, length, ap, ◌∙◌}
use Rattle.std.proofs.lemmas.Result.{IfOk-from_err}
use Rattle.pg_dict.specs.Inside.LentWords.{lent_word}
use Rattle.pg_texts.specs.PattmpTexts.{position_text}
use Rattle.pg_texts.specs.Inside.FoundStatuses.{status_found}
use Rattle.pg_texts.proofs.WordSteps.{range_step}
use Rattle.pg_texts.proofs.word.push_word.Goals as goal

pub positions-preserved : goal.positions-preserved
positions-preserved c =
    range_step (position_text c.args.table.now (status_found c.args.found.now.values c.args.reach (lent_word c.args.word)) (lent_word c.args.word)) c.positions.p
    (length c.args.word.signs.now - 1) c.positions.text.items c.push_position.new.text.items _ c.positions-test.true
    (c.in_ok-push_position.ensures ∙ ap (λ mark. c.positions.text.items ++ position_text c.args.table.now (λ _. mark) (lent_word c.args.word) c.positions.p) c.status_at.ensures)
    c.positions.invariant

pub returns-in_err-extend_from_slice : goal.returns-in_err-extend_from_slice
returns-in_err-extend_from_slice c = IfOk-from_err c.from_residual.result _ c.from_residual.ensures.0

pub returns-in_err-push_position : goal.returns-in_err-push_position
returns-in_err-push_position c = IfOk-from_err c.from_residual-in_err-push_position.result _ c.from_residual-in_err-push_position.ensures.0
