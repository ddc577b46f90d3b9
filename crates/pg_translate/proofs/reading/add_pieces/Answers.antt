use Rattle.std.proofs.Common.{refl, arith}
use Rattle.std.proofs.lemmas.Result.{err_from_is_err_and}
use Rattle.pg_translate.proofs.Readings.{pieces_done, pieces_more, pieces_fail}
use Rattle.pg_translate.proofs.reading.add_pieces.Goals as goal

pub pieces-init : goal.pieces-init
pieces-init c = record {
  answer = refl;
  spellings = refl;
  sound = c.requires.sound;
  low = omega arith;
  high = omega arith;
  few = omega arith;
  room = omega arith;
}

pub returns-in_err-add_spelling-clause-answer : goal.returns-in_err-add_spelling-clause-answer
returns-in_err-add_spelling-clause-answer c =
    let p = err_from_is_err_and c.from_residual.result c.from_residual.ensures.1 in
    rw (p.1, p.2) (pieces_fail c.args.index.now c.pieces.index c.args.marks.now c.args.line c.args.letter c.pieces.column c.args.delimiter c.args.text.now
    c.pieces.rest.now c.in-Some.piece.now c.in-Some.after.now _ c.pieces.invariant c.in-Some.ensures.pieces c.in_err-add_spelling.ensures.answer)

pub pieces-preserved : goal.pieces-preserved
pieces-preserved c = pieces_more c.args.index.now c.pieces.index c.add_spelling.new.index c.args.marks.now c.args.line c.args.letter c.pieces.column
    c.args.delimiter c.args.text.now c.pieces.rest.now c.in-Some.piece.now c.in-Some.after.now c.pieces.invariant c.in-Some.ensures.pieces c.in-Some.ensures.some
    c.in-Some.ensures.shorter c.in_ok-add_spelling.ensures.answer c.in_ok-add_spelling.ensures.spellings c.in_ok-add_spelling.ensures.letters c.in_ok-add_spelling.ensures.sound

pub add_spelling-requires-clause-some : goal.add_spelling-requires-clause-some
add_spelling-requires-clause-some c = omega (arith, c.requires.letter)

pub returns-clause-answer : goal.returns-clause-answer
returns-clause-answer c = (pieces_done c.args.index.now c.pieces.index c.args.marks.now c.args.line c.args.letter c.pieces.column c.args.delimiter c.args.text.now
    c.pieces.rest.now c.pieces.invariant c.in_default.ensures.pieces).0

pub returns-clause-spellings : goal.returns-clause-spellings
returns-clause-spellings c = (pieces_done c.args.index.now c.pieces.index c.args.marks.now c.args.line c.args.letter c.pieces.column c.args.delimiter c.args.text.now
    c.pieces.rest.now c.pieces.invariant c.in_default.ensures.pieces).1

pub returns-clause-letters : goal.returns-clause-letters
returns-clause-letters c = c.pieces.invariant.few

pub pieces-smaller : goal.pieces-smaller
pieces-smaller c = omega (arith, c.in-Some.ensures.some, c.in-Some.ensures.shorter)
