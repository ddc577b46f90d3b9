use Rattle.std.proofs.Common.{◌≡◌, ap, ◌∙◌, rules}
use Rattle.std.proofs.lemmas.Result.{IfOk-from_err}
use Rattle.pg_texts.specs.Inside.CellsLines.{account_cells_text}
use Rattle.pg_texts.specs.Inside.CellsRecords.{run_cells}
use Rattle.pg_texts.proofs.Layouts.{account_told}
use Rattle.pg_texts.proofs.cells.cells_text.Goals as goal

pub returns-clause-text : goal.returns-clause-text
returns-clause-text c = λ a tells.
    let told : c.push_levels.new.text.items ≡ account_cells_text (run_cells c.args.run.now) = search rules in
    told ∙ ap account_cells_text (account_told a c.args.run.now tells)

pub returns-in_err-text-clause-told : goal.returns-in_err-text-clause-told
returns-in_err-text-clause-told c = IfOk-from_err c.from_residual.result _ c.from_residual.ensures.0

pub returns-in_err-text-clause-text : goal.returns-in_err-text-clause-text
returns-in_err-text-clause-text c = IfOk-from_err c.from_residual.result _ c.from_residual.ensures.0

pub returns-in_err-push_layout-clause-told : goal.returns-in_err-push_layout-clause-told
returns-in_err-push_layout-clause-told c = IfOk-from_err c.from_residual-in_err-push_layout.result _ c.from_residual-in_err-push_layout.ensures.0

pub returns-in_err-push_layout-clause-text : goal.returns-in_err-push_layout-clause-text
returns-in_err-push_layout-clause-text c = IfOk-from_err c.from_residual-in_err-push_layout.result _ c.from_residual-in_err-push_layout.ensures.0

pub returns-in_err-push_levels-clause-told : goal.returns-in_err-push_levels-clause-told
returns-in_err-push_levels-clause-told c = IfOk-from_err c.from_residual-in_err-push_levels.result _ c.from_residual-in_err-push_levels.ensures.0

pub returns-in_err-push_levels-clause-text : goal.returns-in_err-push_levels-clause-text
returns-in_err-push_levels-clause-text c = IfOk-from_err c.from_residual-in_err-push_levels.result _ c.from_residual-in_err-push_levels.ensures.0
