use Rattle.std.proofs.Common.{◌≡◌, ◌++◌, IfOk, List, [], map, drop, length, ap, sym, subst, ◌∙◌, arith}
use Rattle.std.proofs.lemmas.List.{append-nil, drop_all}
use Rattle.pg_dict.specs.declared.store.StoredWord.{StoredWord}
use Rattle.pg_dict.specs.Word.{Word}
use Rattle.pg_dict.specs.Parts.{part_of}
use Rattle.pg_dict.specs.Inside.Parts.{part_from}
use Rattle.pg_dict.specs.Inside.Lines.PositionedSigns.{Columns}
use Rattle.pg_dict.proofs.LineReading.Lines.{starts_sound}
use Rattle.pg_dict.specs.Inside.LentWords.{lent_word}
use Rattle.pg_dict.specs.Inside.Store.{columns_of, stored_words, word_at}
use Rattle.pg_dict.proofs.WordStore.Parts.{part_taken, part_passed, letters_from, whole_part}
use Rattle.pg_dict.proofs.WordStore.Told.{few_words}
use Rattle.pg_dict.proofs.dictionary.Dictionary.part.Goals as goal
use Rattle.pg_dict.proofs.dictionary.Dictionary.part.Goals.{then-belongs+in_ok-push_word, else-belongs}

pub push_word-requires-clause-few : goal.push_word-requires-clause-few
push_word-requires-clause-few c = omega (arith, few_words c.words.store c.words.invariant.sound, c.words.invariant.few, c.len-i-end.ensures.letters)

pub words-preserved : goal.words-preserved
words-preserved c = elim c.if-belongs.branch [
  | then-belongs+in_ok-push_word w ↦ record {
    words = rw (w.store-is, w.in_ok-push_word.ensures.words) (part_taken c.args.folds c.args.fold c.args.inside c.words.i (stored_words c.words.store) c.args.self.now _
        (lent_word c.word-word.result) c.word-word.ensures.lent (sym c.belongs.ensures ∙ w.if-belongs.true) c.words.invariant.words);
    sound = rw (w.store-is) w.in_ok-push_word.ensures.sound;
    few = rw (w.store-is) (omega (
      arith,
      letters_from c.args.self.now c.words.i (lent_word c.word-word.result) c.word-word.ensures.lent,
      c.words.invariant.few,
      w.in_ok-push_word.ensures.signs,
      w.in_ok-push_word.ensures.count,
      c.word-word.ensures.word.long,
    ));
  }
  | else-belongs w ↦ record {
    words = rw (w.store-is) (part_passed c.args.folds c.args.fold c.args.inside c.words.i (stored_words c.words.store) c.args.self.now _
        (lent_word c.word-word.result) c.word-word.ensures.lent (sym c.belongs.ensures ∙ w.if-belongs.false) c.words.invariant.words);
    sound = rw (w.store-is) c.words.invariant.sound;
    few = rw (w.store-is) (omega (arith, letters_from c.args.self.now c.words.i (lent_word c.word-word.result) c.word-word.ensures.lent, c.words.invariant.few));
  }
]

pub word-word-requires : goal.word-word-requires
word-word-requires c = omega (arith, c.len-i-end.ensures.len)

pub push_word-requires-clause-word : goal.push_word-requires-clause-word
push_word-requires-clause-word c = c.word-word.ensures.word

pub push_word-requires-clause-sound : goal.push_word-requires-clause-sound
push_word-requires-clause-sound c = c.words.invariant.sound

pub belongs-requires : goal.belongs-requires
belongs-requires c = c.requires

pub with_sites-requires-clause-sound : goal.with_sites-requires-clause-sound
with_sites-requires-clause-sound c = c.words.invariant.sound

pub with_sites-requires-clause-few : goal.with_sites-requires-clause-few
with_sites-requires-clause-few c = omega (arith, c.words.invariant.few, c.len-i-end.ensures.letters)

pub words-init : goal.words-init
words-init c =
    let signs : length c.new-store.result.signs.items ≡ 0 = ap (λ (c : Columns). length c.signs) c.new-store.ensures.columns in
    record {
      words =
          ap (λ (ws : List StoredWord). map (word_at (columns_of c.new-store.result)) ws ++ part_from c.args.folds c.args.fold c.args.inside 0 c.args.self.now) c.new-store.ensures.words
          ∙ whole_part c.args.folds c.args.fold c.args.inside c.args.self.now;
      sound = starts_sound c.new-store.result c.new-store.ensures.columns c.new-store.ensures.words;
      few = omega arith;
    }

pub returns : goal.returns
returns c =
    let store = c.words.store in
    let none : drop c.words.i c.args.self.now ≡ [] = drop_all c.words.i c.args.self.now (omega (arith, c.words-test.false, c.len-i-end.ensures.len)) in
    let all : stored_words store ≡ part_of c.args.folds c.args.fold c.args.inside c.args.self.now =
    sym (append-nil (stored_words store))
    ∙ ap (λ (ws : List Word). stored_words store ++ part_from c.args.folds c.args.fold c.args.inside c.words.i ws) (sym none)
    ∙ c.words.invariant.words in
    record { words = subst (λ (ws : List Word). IfOk c.with_sites.result (λ part. part ≡ ws)) all c.with_sites.ensures }
