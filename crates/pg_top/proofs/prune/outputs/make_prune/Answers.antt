use Rattle.std.proofs.Common.{◌∙◌, ap, subst}
use Rattle.std.proofs.lemmas.Result.{IfOk-weaker}
use Rattle.pg_prune.specs.Prunes.{Pruning}
use Rattle.pg_top.specs.ReadingBack.{ReadsBackPatterns}
use Rattle.pg_top.specs.Inside.Plans.{end_of_prune}
use Rattle.pg_top.proofs.prune.outputs.make_prune.Goals as goal

pub returns-clause-made : goal.returns-clause-made
returns-clause-made g c =
    let n = c.args.names.now in
    IfOk-weaker c.write_pruned.result _ _ (λ made is. is ∙ ap (end_of_prune n.output.now n.report.now c.args.table.now) c.in_ok-pruned.ensures.pruned) c.write_pruned.ensures.made

pub returns-clause-reads_back : goal.returns-clause-reads_back
returns-clause-reads_back g c =
    IfOk-weaker c.write_pruned.result _ _ (λ made back. subst (λ (found : Pruning). ReadsBackPatterns c.args.table.now found.patterns) c.in_ok-pruned.ensures.pruned back) c.write_pruned.ensures.reads_back
