use Rattle.std.proofs.Common.{◌+◌, ap, sym, ◌∙◌, arith}
use Rattle.std.proofs.lemmas.Bool.{lt-ltb, le-ltb}
use Rattle.pg_translate.specs.Inside.spellings.FirstSpellings.{letters_in}
use Rattle.pg_translate.specs.Inside.spellings.Fronts.{pairs}
use Rattle.pg_translate.specs.Tables.{ListedSpelling}
use Rattle.pg_translate.proofs.Additions.{letters_in-push}
use Rattle.pg_translate.proofs.SpellingChecks.{many_letters, bad_spelling, clashing, passing, spelling_few, spelling_some}
use Rattle.pg_translate.proofs.reading.add_spelling.Goals as goal

pub returns-then-letter-clause-answer : goal.returns-then-letter-clause-answer
returns-then-letter-clause-answer c =
    let s : ListedSpelling = record { line = c.args.line; column = c.args.column; spelling = (c.args.letter + 1, c.args.text.now) } in
    rw c.refusal.ensures (many_letters c.args.marks.now (pairs c.args.index.now) s (lt-ltb _ _ (omega (arith, c.if-letter.true))))

pub returns-then-not-is_spelling-clause-answer : goal.returns-then-not-is_spelling-clause-answer
returns-then-not-is_spelling-clause-answer c =
    let s : ListedSpelling = record { line = c.args.line; column = c.args.column; spelling = (c.args.letter + 1, c.args.text.now) } in
    rw c.refusal-then-not-is_spelling.ensures
    (bad_spelling c.args.marks.now (pairs c.args.index.now) s (le-ltb _ _ (omega (arith, c.if-letter.false))) (sym c.is_spelling.ensures ∙ c.if-not-is_spelling.true))

pub clashes-requires-clause-some : goal.clashes-requires-clause-some
clashes-requires-clause-some c = spelling_some c.args.marks.now c.args.text.now (sym c.is_spelling.ensures ∙ c.if-not-is_spelling.false)

pub clashes-requires-clause-few : goal.clashes-requires-clause-few
clashes-requires-clause-few c = spelling_few c.args.marks.now c.args.text.now (sym c.is_spelling.ensures ∙ c.if-not-is_spelling.false)

pub returns-then-clashes-clause-answer : goal.returns-then-clashes-clause-answer
returns-then-clashes-clause-answer c =
    let s : ListedSpelling = record { line = c.args.line; column = c.args.column; spelling = (c.args.letter + 1, c.args.text.now) } in
    rw c.refusal-then-clashes.ensures
    (clashing c.args.marks.now (pairs c.args.index.now) s (le-ltb _ _ (omega (arith, c.if-letter.false))) (sym c.is_spelling.ensures ∙ c.if-not-is_spelling.false) (sym c.clashes.ensures ∙ c.if-clashes.true))

pub add-requires-clause-some : goal.add-requires-clause-some
add-requires-clause-some c = spelling_some c.args.marks.now c.args.text.now (sym c.is_spelling.ensures ∙ c.if-not-is_spelling.false)

pub add-requires-clause-few : goal.add-requires-clause-few
add-requires-clause-few c = spelling_few c.args.marks.now c.args.text.now (sym c.is_spelling.ensures ∙ c.if-not-is_spelling.false)

pub add-requires-clause-apart : goal.add-requires-clause-apart
add-requires-clause-apart c = sym c.clashes.ensures ∙ c.if-clashes.false

pub returns-clause-answer : goal.returns-clause-answer
returns-clause-answer c =
    let s : ListedSpelling = record { line = c.args.line; column = c.args.column; spelling = (c.args.letter + 1, c.args.text.now) } in
    passing c.args.marks.now (pairs c.args.index.now) s (le-ltb _ _ (omega (arith, c.if-letter.false))) (sym c.is_spelling.ensures ∙ c.if-not-is_spelling.false) (sym c.clashes.ensures ∙ c.if-clashes.false)

pub returns-clause-letters : goal.returns-clause-letters
returns-clause-letters c =
    let more = ap letters_in c.in_ok-add.ensures.spellings ∙ letters_in-push (pairs c.args.index.now) (c.args.letter + 1, c.args.text.now) in
    (omega (arith, more), omega arith)
