use Rattle.std.proofs.Common.{ℕ, ap, sym, ◌∙◌, ◌+◌, subst}
use Rattle.pg_dict.specs.Inside.SoundWords.{SignsAtMost}
use Rattle.pg_select.specs.Inside.engine.Meanings.{Meaning}
use Rattle.pg_runs.proofs.runs.plain_run.Goals as goal

pub generate-requires-clause-signs : goal.generate-requires-clause-signs
generate-requires-clause-signs c =
    let signs = ap (λ (m : Meaning). m.signs) c.in_ok-engine.ensures ∙ ap (λ (n : ℕ). n + 1) c.letters-signs.ensures.value in
    subst (λ (n : ℕ). SignsAtMost n c.args.inputs.now.dictionary) (sym signs) c.requires
