use Rattle.std.proofs.Common.{sym, subst, ap, Some, ◌∙◌}
use Rattle.std.specs.List.{All}
use Rattle.pg_dict.specs.Word.{Word}
use Rattle.pg_dict.specs.Inside.SoundWords.{IsWord}
use Rattle.pg_dict.specs.Inside.Store.{columns_of, word_at}
use Rattle.pg_dict.proofs.WordStore.Told.{word_in, word_stored, word_within}
use Rattle.pg_dict.proofs.dictionary.Dictionary.word.Goals as goal

pub lend-requires-clause-begins : goal.lend-requires-clause-begins
lend-requires-clause-begins c = (word_within c.self.inside.store c.args.self.now c.args.i c.index-word.result.now c.self.invariant.sound c.self.view_is c.requires c.index-word.ensures).0

pub lend-requires-clause-ends : goal.lend-requires-clause-ends
lend-requires-clause-ends c = (word_within c.self.inside.store c.args.self.now c.args.i c.index-word.result.now c.self.invariant.sound c.self.view_is c.requires c.index-word.ensures).1

pub returns-clause-lent : goal.returns-clause-lent
returns-clause-lent c = word_stored c.self.inside.store c.args.self.now c.args.i c.index-word.result.now c.self.view_is c.requires c.index-word.ensures ∙ ap (λ (w : Word). Some w) (sym c.lend.ensures)

pub returns-clause-word : goal.returns-clause-word
returns-clause-word c =
    subst IsWord (sym c.lend.ensures) (word_in c.args.self.now c.args.i (word_at (columns_of c.self.inside.store) c.index-word.result.now)
    (subst (All IsWord) c.self.view_is c.self.invariant.sound.words)
    (word_stored c.self.inside.store c.args.self.now c.args.i c.index-word.result.now c.self.view_is c.requires c.index-word.ensures))
