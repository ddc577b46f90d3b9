use Rattle.std.proofs.Common.{ℕ, ap, sym, ◌∙◌, ◌+◌, subst}
use Rattle.pg_dict.specs.Inside.SoundWords.{SignsAtMost}
use Rattle.pg_select.specs.Inside.engine.Meanings.{Meaning}
use Rattle.pg_runs.proofs.counts.windows_from.Goals as goal

pub count_pass-requires-clause-signs : goal.count_pass-requires-clause-signs
count_pass-requires-clause-signs c =
    let signs = ap (λ (m : Meaning). m.signs) c.in_ok-engine.ensures ∙ ap (λ (n : ℕ). n + 1) c.letters.ensures.value in
    subst (λ (n : ℕ). SignsAtMost n c.args.dictionary.now) (sym signs) c.requires.words
