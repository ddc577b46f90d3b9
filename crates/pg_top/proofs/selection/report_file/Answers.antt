use Rattle.std.proofs.Common.{◌∙◌}
use Rattle.std.proofs.lemmas.Result.{IfOk-weaker}
use Rattle.pg_driver.specs.Inside.records.RunAccounts.{account_of}
use Rattle.pg_top.proofs.Selections.{report_selected}
use Rattle.pg_top.proofs.selection.report_file.Goals as goal

pub returns : goal.returns
returns c =
    IfOk-weaker c.report_text.result _ _ (λ text is. is ∙ report_selected c.args.inputs.now c.largest.result (account_of c.args.run.now) c.largest.ensures.value c.requires.account)
    c.report_text.ensures
