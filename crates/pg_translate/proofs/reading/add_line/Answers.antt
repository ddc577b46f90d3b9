use Rattle.std.proofs.Common.{◌≡◌, ◌+◌, ◌++◌, List, map, sym, ap, subst, ◌∙◌}
use Rattle.std.proofs.lemmas.List.{append-nil}
use Rattle.std.specs.Result.{OnOk}
use Rattle.pg_types.specs.Inside.reading.Answers.{Gives}
use Rattle.pg_translate.specs.Inside.spellings.FirstSpellings.{letters_in}
use Rattle.pg_translate.specs.Inside.spellings.Fronts.{pairs}
use Rattle.pg_translate.specs.Tables.{ListedSpelling}
use Rattle.pg_translate.specs.Inside.tables.Checks.{spelling_with_sign, spellings_outcome}
use Rattle.pg_translate.proofs.LetterLines.{no_spelling, spellings_of_rest}
use Rattle.pg_translate.proofs.reading.add_line.Goals as goal

pub returns-then-is_empty-clause-answer : goal.returns-then-is_empty-clause-answer
returns-then-is_empty-clause-answer c =
    let letter = letters_in (pairs c.args.index.now) + 1 in
    let none = no_spelling c.args.line letter c.args.text.now c.without_blanks-text.result.now c.without_blanks-text.ensures.value (sym c.is_empty.ensures ∙ c.if-is_empty.true) in
    ap (λ (ss : List ListedSpelling). spellings_outcome c.args.marks.now (pairs c.args.index.now) ss) none

pub returns-then-is_empty-clause-spellings : goal.returns-then-is_empty-clause-spellings
returns-then-is_empty-clause-spellings c =
    let letter = letters_in (pairs c.args.index.now) + 1 in
    let none = no_spelling c.args.line letter c.args.text.now c.without_blanks-text.result.now c.without_blanks-text.ensures.value (sym c.is_empty.ensures ∙ c.if-is_empty.true) in
    sym (append-nil (pairs c.args.index.now)) ∙ ap (λ (ss : List ListedSpelling). pairs c.args.index.now ++ map spelling_with_sign ss) (sym none)

pub returns-then-is_empty-clause-letters : goal.returns-then-is_empty-clause-letters
returns-then-is_empty-clause-letters c = c.requires.letters

pub add_pieces-requires-clause-letter : goal.add_pieces-requires-clause-letter
add_pieces-requires-clause-letter c = ap (λ n. n + 1) (c.letters.ensures ∙ c.requires.sound.letters)

pub returns-clause-answer : goal.returns-clause-answer
returns-clause-answer c =
    let text = c.without_blanks-text.result.now in
    let same = spellings_of_rest c.args.line c.letters.result (letters_in (pairs c.args.index.now)) c.args.text.now text c.without_blanks-text.ensures.value
    (sym c.is_empty.ensures ∙ c.if-is_empty.false) (c.letters.ensures ∙ c.requires.sound.letters) in
    subst (λ (ss : List ListedSpelling). Gives {X = Unit {0}} {Y = Unit {0}} (λ _. tt) c.add_pieces.result (spellings_outcome c.args.marks.now (pairs c.args.index.now) ss))
    same c.add_pieces.ensures.answer

pub returns-clause-spellings : goal.returns-clause-spellings
returns-clause-spellings c =
    let text = c.without_blanks-text.result.now in
    let same = spellings_of_rest c.args.line c.letters.result (letters_in (pairs c.args.index.now)) c.args.text.now text c.without_blanks-text.ensures.value
    (sym c.is_empty.ensures ∙ c.if-is_empty.false) (c.letters.ensures ∙ c.requires.sound.letters) in
    subst (λ (ss : List ListedSpelling). OnOk c.add_pieces.result (pairs c.add_pieces.new.index ≡ pairs c.args.index.now ++ map spelling_with_sign ss)) same c.add_pieces.ensures.spellings
