use Rattle.std.proofs.Common.{arith}
use Rattle.std.proofs.lemmas.Result.{err_from_is_err_and}
use Rattle.pg_translate.proofs.Readings.{lines_begin, lines_more, lines_fail}
use Rattle.pg_translate.proofs.reading.read_letters.Goals as goal

pub lines-init : goal.lines-init
lines-init c = lines_begin c.new-index.result c.args.marks.now c.args.text.now c.new-index.ensures.spellings c.new-index.ensures.sound

pub add_line-requires-clause-few : goal.add_line-requires-clause-few
add_line-requires-clause-few c = omega (arith, c.in-Some.ensures.within)

pub returns-in_err-add_line-clause-answer : goal.returns-in_err-add_line-clause-answer
returns-in_err-add_line-clause-answer c =
    let p = err_from_is_err_and c.from_residual.result c.from_residual.ensures.1 in
    rw (p.1, p.2) (lines_fail c.lines.index c.args.marks.now c.args.text.now c.lines.line c.lines.rest.now c.in-Some.first.now c.in-Some.after.now _
    c.lines.invariant c.in-Some.ensures.lines c.in_err-add_line.ensures.answer)

pub lines-preserved : goal.lines-preserved
lines-preserved c = lines_more c.lines.index c.add_line.new.index c.args.marks.now c.args.text.now c.lines.line c.lines.rest.now c.in-Some.first.now
    c.in-Some.after.now c.lines.invariant c.in-Some.ensures.lines c.in-Some.ensures.shorter c.in_ok-add_line.ensures.answer c.in_ok-add_line.ensures.spellings
    c.in_ok-add_line.ensures.letters c.in_ok-add_line.ensures.sound
