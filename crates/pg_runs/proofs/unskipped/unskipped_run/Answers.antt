use Rattle.std.proofs.Common.{ℕ, ap, sym, ◌∙◌, ◌+◌, subst}
use Rattle.pg_dict.specs.Inside.SoundWords.{SignsAtMost}
use Rattle.pg_select.specs.Inside.engine.Meanings.{Meaning}
use Rattle.pg_runs.proofs.unskipped.unskipped_run.Goals as goal

pub run_plainly-requires-clause-signs : goal.run_plainly-requires-clause-signs
run_plainly-requires-clause-signs c =
    let signs = ap (λ (m : Meaning). m.signs) c.in_ok-engine.ensures ∙ ap (λ (n : ℕ). n + 1) c.letters-signs.ensures.value in
    subst (λ (n : ℕ). SignsAtMost n c.args.inputs.now.dictionary) (sym signs) c.requires
