use Rattle.std.proofs.Common.{◌≡◌, ◌++◌, ◌∷◌, [], ℕ, List, length, ap, length-append, ◌∙◌}
use Rattle.std.proofs.lemmas.List.{length_push}
use Rattle.pg_dict.specs.declared.store.StoredWord.{StoredWord}
use Rattle.pg_dict.specs.declared.store.Store.{Store}
use Rattle.pg_dict.specs.Inside.Store.{stored_words, IsSound}
use Rattle.pg_dict.specs.Inside.LentWords.{lent_word}
use Rattle.pg_dict.proofs.WordStore.Parts.{word_pushed}
use Rattle.pg_dict.proofs.store.Store.push_word.Goals as goal

-- the store at the return
abbrev after : goal.In_ok-push → Store
after c = record {
  signs = c.extend_from_slice.new.self;
  hyphens = c.extend_from_slice-2.new.self;
  weights = c.extend_from_slice-3.new.self;
  cares =
      c.extend_from_slice-4.new.self;
  words = c.push.new.self;
}

-- the words of the store are those before, and this one
stored : (c : goal.In_ok-push) → c.push.new.self.items
    ≡ c.args.self.now.words.items ++ record { start = c.len-start.result; end = c.len-end.result; weight = c.args.word.now.weight } ∷ []
stored c = c.in_ok-push.ensures.items ∙ ap (λ (w : StoredWord). c.args.self.now.words.items ++ w ∷ []) c.new.ensures

-- the word is there, and the store stays sound
pushed : (c : goal.In_ok-push) → (stored_words (after c) ≡ stored_words c.args.self.now ++ lent_word c.args.word.now ∷ []) × IsSound (after c)
pushed c =
    word_pushed c.args.self.now (after c) (lent_word c.args.word.now) c.len-start.result c.len-end.result c.requires.sound c.requires.word
    c.in_ok-extend_from_slice.ensures.items
    c.in_ok-extend_from_slice-2.ensures.items
    c.in_ok-extend_from_slice-3.ensures.items
    c.in_ok-extend_from_slice-4.ensures.items
    (stored c)
    (c.len-start.ensures ∙ c.args.self.now.signs.ok.0)
    (c.len-end.ensures ∙ c.extend_from_slice.new.self.ok.0)

pub returns-clause-words : goal.returns-clause-words
returns-clause-words c = (pushed c).0

pub returns-clause-sound : goal.returns-clause-sound
returns-clause-sound c = (pushed c).1

pub returns-clause-signs : goal.returns-clause-signs
returns-clause-signs c = ap (λ (xs : List ℕ). length xs) c.in_ok-extend_from_slice.ensures.items ∙ length-append c.args.self.now.signs.items c.args.word.now.signs.now

pub returns-clause-count : goal.returns-clause-count
returns-clause-count c =
    ap (λ (ws : List StoredWord). length ws) (stored c) ∙ length_push c.args.self.now.words.items
    (record { start = c.len-start.result; end = c.len-end.result; weight = c.args.word.now.weight })
