use Rattle.std.proofs.Common.{◌≤◌, ℕ, List, [], ◌∷◌, ◌++◌, length, Ok, ◌∙◌, sym, ap, subst}
use Rattle.std.proofs.lemmas.Result.{on_ok_weaker}
use Rattle.pg_types.specs.declared.limits.TheConstants.{FILE_MAX}
use Rattle.pg_patterns.specs.Starts.{start}
use Rattle.pg_patterns.specs.Texts.{pattern_text}
use Rattle.pg_steps.specs.Inside.Texts.{writing_of}
use Rattle.pg_top.proofs.prune.outputs.push_kept.Goals as goal

pub returns-clause-file : goal.returns-clause-file
returns-clause-file c =
    let text = c.in_ok-text.ensures.text ∙ ap (pattern_text c.args.table.now) c.patterns.ensures in
    on_ok_weaker c.push_file.result (λ is. is ∙ ap (λ (t : List ℕ). writing_of c.args.files.now.items ++ (c.args.name.now, t) ∷ []) text) c.push_file.ensures

pub returns-clause-reads_back : goal.returns-clause-reads_back
returns-clause-reads_back c =
    let text = c.in_ok-text.ensures.text ∙ ap (pattern_text c.args.table.now) c.patterns.ensures in
    on_ok_weaker c.push_file.result (λ is short. ap (start c.args.table.now) (sym text) ∙ c.in_ok-text.ensures.read_back (subst (λ (b : List ℕ). length b ≤ FILE_MAX) (sym text) short)
    ∙ ap Ok c.patterns.ensures) c.push_file.ensures
