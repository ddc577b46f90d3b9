use Rattle.std.proofs.Common.{◌≡◌, ◌+◌, ◌++◌, ◌∷◌, [], List, length, Ok, ◌∙◌, ap, arith}
use Rattle.std.proofs.lemmas.List.{length_push}
use Rattle.pg_types.specs.declared.limits.TheConstants.{EDGE}
use Rattle.pg_translate.specs.Alphabets.{letters_of}
use Rattle.pg_dict.specs.declared.store.Store.{Store}
use Rattle.pg_dict.specs.declared.store.StoredWord.{StoredWord}
use Rattle.pg_dict.specs.Inside.Lines.LineStarts.{word_reading}
use Rattle.pg_dict.specs.Inside.Lines.Entries.{with_word}
use Rattle.pg_dict.specs.Inside.Store.{stored_words, IsSound}
use Rattle.pg_dict.proofs.WordStore.Enters.{enters}
use Rattle.pg_dict.proofs.WordStore.Good.{pushed_fit, pushed_length}
use Rattle.pg_dict.proofs.entries.line.Line.read_word.Goals as goal

-- the store at the return
abbrev after : goal.In_ok-push-3 → Store
after c = record { signs = c.fill.new.store.signs; hyphens = c.fill.new.store.hyphens; weights = c.fill.new.store.weights; cares = c.fill.new.store.cares; words = c.push-3.new.self }

-- the words of the store are those before, and this one
stored : (c : goal.In_ok-push-3) → c.push-3.new.self.items
    ≡ c.fill.new.store.words.items ++ record { start = c.len-start.result; end = c.len-end.result; weight = c.args.self.now.weight } ∷ []
stored c = c.in_ok-push-3.ensures.items ∙ ap (λ (w : StoredWord). c.fill.new.store.words.items ++ w ∷ []) c.new.ensures

-- the word is entered, and the store stays sound
entered : (c : goal.In_ok-push-3) → (with_word (stored_words c.args.store.now)
    (word_reading c.args.self.now.table.now c.args.self.now.number c.args.self.now.size c.args.self.now.weight c.args.sign c.args.rest.now)
    ≡ Ok (record { words = stored_words (after c); weight = c.args.self.now.weight })) × IsSound (after c)
entered c =
    enters c.args.self.now.table.now c.requires.rules c.args.self.now.weight c.args.self.now.number c.args.self.now.size c.args.sign
    (letters_of c.args.self.now.table.now + 1) c.args.rest.now c.args.store.now c.push.new.self c.push-2.new.self (after c) c.len-start.result c.len-end.result c.requires.sound
    (rw (c.plain.ensures.mark, c.plain.ensures.weight) at c.in_ok-push.ensures.ok)
    (rw (c.plain-2.ensures.mark, c.plain-2.ensures.weight) at c.in_ok-push-2.ensures.ok)
    c.in_ok-fill.ensures.fills
    (stored c ∙ ap (λ (words : List StoredWord). words ++ record { start = c.len-start.result; end = c.len-end.result; weight = c.args.self.now.weight } ∷ [])
    (c.fill.ensures.words ∙ c.push-2.ensures.words ∙ c.push.ensures.words))
    (c.len-start.ensures ∙ c.args.store.now.signs.ok.0)
    (c.len-end.ensures ∙ c.fill.new.store.signs.ok.0)
    (record { signs = c.in_ok-fill.ensures.fit.signs; weights = c.in_ok-fill.ensures.fit.weights })
    c.in_ok-fill.ensures.counted.0
    c.args.self.now.small
    c.requires.letter.0

pub returns-clause-word : goal.returns-clause-word
returns-clause-word c = (entered c).0

pub returns-clause-sound : goal.returns-clause-sound
returns-clause-sound c = (entered c).1

pub fill-requires-clause-fit : goal.fill-requires-clause-fit
fill-requires-clause-fit c =
    let n = letters_of c.args.self.now.table.now + 1 in
    let first = pushed_fit n c.args.store.now c.push.new.self c.plain.result.mark c.plain.result.weight EDGE c.requires.fit c.plain.result.small (omega arith) (omega arith) c.in_ok-push.ensures.ok in
    pushed_fit n c.push.new.self c.push-2.new.self c.plain-2.result.mark c.plain-2.result.weight c.args.sign first c.plain-2.result.small
    (omega (arith, c.requires.letter.0)) c.requires.letter.1 c.in_ok-push-2.ensures.ok

pub returns-clause-fit : goal.returns-clause-fit
returns-clause-fit c = record { signs = c.in_ok-fill.ensures.fit.signs; weights = c.in_ok-fill.ensures.fit.weights }

pub returns-clause-counted : goal.returns-clause-counted
returns-clause-counted c =
    let first = pushed_length c.args.store.now c.push.new.self c.plain.result.mark c.plain.result.weight EDGE c.in_ok-push.ensures.ok in
    let second = pushed_length c.push.new.self c.push-2.new.self c.plain-2.result.mark c.plain-2.result.weight c.args.sign c.in_ok-push-2.ensures.ok in
    let kept = ap (λ (ws : List StoredWord). length ws) (c.fill.ensures.words ∙ c.push-2.ensures.words ∙ c.push.ensures.words) in
    let more = ap (λ (ws : List StoredWord). length ws) (stored c)
    ∙ length_push c.fill.new.store.words.items (record { start = c.len-start.result; end = c.len-end.result; weight = c.args.self.now.weight }) in
    omega (arith, c.in_ok-fill.ensures.counted.1)

pub plain-requires : goal.plain-requires
plain-requires c = c.args.self.now.small

pub fill-requires-clause-within : goal.fill-requires-clause-within
fill-requires-clause-within c = c.requires.within
