use Rattle.pg_dict.proofs.WordStore.Told.{few_letters}
use Rattle.pg_dict.proofs.dictionary.Dictionary.len.Goals as goal

pub returns-clause-words : goal.returns-clause-words
returns-clause-words c = rw (← c.self.view_is) c.self.invariant.sound.words

pub returns-clause-letters : goal.returns-clause-letters
returns-clause-letters c = rw (← c.self.view_is) (few_letters _ _ c.self.invariant)
