use Rattle.std.proofs.Common.{◌∙◌, ◌++◌, ◌∷◌, [], List, ℕ, ap}
use Rattle.std.proofs.lemmas.Result.{on_ok_weaker}
use Rattle.pg_steps.specs.Inside.Texts.{writing_of}
use Rattle.pg_top.proofs.prune.outputs.push_needs.Goals as goal

pub returns : goal.returns
returns c =
    on_ok_weaker c.push_file.result (λ is. is ∙ ap (λ (t : List ℕ). writing_of c.args.files.now.items ++ (c.args.name.now, t) ∷ []) c.in_ok-report.ensures) c.push_file.ensures
