use Rattle.std.proofs.Common.{ℕ, List, [], ◌∷◌, ◌++◌, length, ◌∙◌, ap}
use Rattle.pg_patterns.specs.Texts.{pattern_text}
use Rattle.pg_plans.specs.Plans.{Ending}
use Rattle.pg_plans.specs.declared.answers.Status.TheVariants.{Done}
use Rattle.pg_prune.specs.Reports.{prune_report}
use Rattle.pg_steps.specs.Inside.Texts.{writing_of}
use Rattle.pg_steps.specs.declared.ends.OutputFile.{OutputFile}
use Rattle.pg_top.specs.Pruning.{rounds_line}
use Rattle.pg_top.proofs.prune.outputs.write_pruned.Goals as goal

pub returns : goal.returns
returns c =
    let t = c.args.table.now in
    let found = c.args.pruned.now in
    let first = c.in_ok-push_kept.ensures.file ∙ ap (λ (xs : List OutputFile). writing_of xs ++ (c.args.names.now.output.now, pattern_text t found.patterns) ∷ []) c.new-files.ensures.items in
    let files = c.in_ok-push_needs.ensures ∙ ap (λ (ws : List (List ℕ × List ℕ)). ws ++ (c.args.names.now.report.now, prune_report t found) ∷ []) first in
    let kept = c.len.ensures.value ∙ ap length c.patterns-kept.ensures in
    let lines = c.in_ok-lines.ensures ∙ (λ k. rounds_line (c.rounds.ensures k) (c.removed.ensures k) (kept k)) in
    record { made = λ k. Ending Done (files k) (lines k); reads_back = c.in_ok-push_kept.ensures.reads_back }
