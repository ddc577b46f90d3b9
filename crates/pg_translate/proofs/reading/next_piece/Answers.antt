use Rattle.std.proofs.Common.{◌≡◌, ◌<◌, sym, ap, Some, ℕ, ◌∙◌, arith}
use Rattle.pg_translate.proofs.LetterLines.{no_piece, piece_found, piece_last, pieces_empty, pieces_found, pieces_last}
use Rattle.pg_translate.proofs.reading.next_piece.Goals as goal

pub returns-in-Some-eq0-clause-pieces : goal.returns-in-Some-eq0-clause-pieces
returns-in-Some-eq0-clause-pieces c = pieces_empty c.args.delimiter c.args.rest.now (sym c.find_delimiter.ensures ∙ c.in-Some-eq0.is
    ∙ ap (λ (n : ℕ). Some n) (let zero : c.in-Some-eq0.field-0 ≡ 0 = omega arith in zero))

pub returns-in-Some-clause-pieces : goal.returns-in-Some-clause-pieces
returns-in-Some-clause-pieces c = pieces_found c.args.delimiter c.args.rest.now c.in-Some.end (sym c.find_delimiter.ensures ∙ c.in-Some.is)
    (let some : 0 < c.in-Some.end = omega (arith, c.in-Some.end-test.1) in some)

pub returns-in-None-2-clause-pieces : goal.returns-in-None-2-clause-pieces
returns-in-None-2-clause-pieces c = pieces_last c.args.delimiter c.args.rest.now (sym c.find_delimiter.ensures ∙ c.in-None-2.is) (sym c.is_empty.ensures ∙ c.if-is_empty.false)

pub returns-in-Some-eq0-clause-some : goal.returns-in-Some-eq0-clause-some
returns-in-Some-eq0-clause-some c = tt

pub returns-in-Some-eq0-clause-shorter : goal.returns-in-Some-eq0-clause-shorter
returns-in-Some-eq0-clause-shorter c = tt

pub returns-in-Some-clause-some : goal.returns-in-Some-clause-some
returns-in-Some-clause-some c = (piece_found c.args.delimiter c.args.rest.now c.in-Some.end (sym c.find_delimiter.ensures ∙ c.in-Some.is)
    (let some : 0 < c.in-Some.end = omega (arith, c.in-Some.end-test.1) in some)).some

pub returns-in-Some-clause-shorter : goal.returns-in-Some-clause-shorter
returns-in-Some-clause-shorter c = (piece_found c.args.delimiter c.args.rest.now c.in-Some.end (sym c.find_delimiter.ensures ∙ c.in-Some.is)
    (let some : 0 < c.in-Some.end = omega (arith, c.in-Some.end-test.1) in some)).shorter

pub returns-in-None-clause-pieces : goal.returns-in-None-clause-pieces
returns-in-None-clause-pieces c = no_piece c.args.delimiter c.args.rest.now (sym c.is_empty.ensures ∙ c.if-is_empty.true)

pub returns-in-None-2-clause-some : goal.returns-in-None-2-clause-some
returns-in-None-2-clause-some c = (piece_last c.args.rest.now (sym c.is_empty.ensures ∙ c.if-is_empty.false)).some

pub returns-in-None-2-clause-shorter : goal.returns-in-None-2-clause-shorter
returns-in-None-2-clause-shorter c = (piece_last c.args.rest.now (sym c.is_empty.ensures ∙ c.if-is_empty.false)).shorter
