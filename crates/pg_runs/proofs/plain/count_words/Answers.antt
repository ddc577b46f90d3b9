use Rattle.std.proofs.Common.{ℕ, sym, subst}
use Rattle.pg_types.specs.Inside.Signs.{SignsWithin}
use Rattle.pg_dict.specs.Inside.LentWords.{lent_word}
use Rattle.pg_driver.proofs.WordSteps.{signs_within}
use Rattle.pg_runs.proofs.plain.count_words.Goals as goal

pub count_word-requires-clause-signs : goal.count_word-requires-clause-signs
count_word-requires-clause-signs g c =
    let P : ℕ → Type 0 = λ n. SignsWithin n c.word.result.signs.now in
    subst P (sym c.words.invariant.kept.signs) (signs_within _ c.args.dictionary.now c.words.i (lent_word c.word.result) c.word.ensures.lent c.requires.signs c.word.ensures.word)
