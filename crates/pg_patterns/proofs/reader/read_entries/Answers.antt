use Rattle.std.proofs.Common.{◌+◌, arith}
use Rattle.std.proofs.lemmas.Result.{err_from_is_err_and}
use Rattle.pg_translate.specs.Alphabets.{letters_of}
use Rattle.pg_patterns.proofs.LineEntries.{left_fails, left_more, sound_more, known_more}
use Rattle.pg_patterns.proofs.reader.read_entries.Goals as goal

pub returns-in_err-read_line-clause-value : goal.returns-in_err-read_line-clause-value
returns-in_err-read_line-clause-value c =
    let p = err_from_is_err_and c.from_residual.result c.from_residual.ensures.1 in
    rw (p.1, p.2)
    (left_fails c.args.table.now c.lines.line c.lines.entries.items c.in-Some.text.now c.lines.rest.now c.in-Some.after.now _ c.in_err-read_line.field-0.0
    c.lines.invariant.left c.in-Some.ensures.lines c.in_err-read_line.ensures.value)

pub lines-preserved : goal.lines-preserved
lines-preserved c = record {
  left = left_more c.args.table.now c.lines.line c.lines.entries.items c.push_entries.new.entries.items c.in-Some.text.now c.lines.rest.now c.in-Some.after.now
      _ c.in_ok-read_line.field-0 c.lines.invariant.left c.in-Some.ensures.lines c.in_ok-read_line.ensures.value c.in_ok-push_entries.ensures;
  first = omega arith;
  few = omega (arith, c.in-Some.ensures.shorter);
  sound = sound_more (letters_of c.args.table.now + 1) c.lines.entries.items c.push_entries.new.entries.items c.in_ok-read_line.field-0
      c.in_ok-read_line.ensures.kept c.in_ok-push_entries.ensures c.lines.invariant.sound;
  known = known_more (letters_of c.args.table.now + 1) c.lines.entries.items c.push_entries.new.entries.items c.in_ok-read_line.field-0
      c.in_ok-read_line.ensures.kept c.in_ok-push_entries.ensures c.lines.invariant.known;
}
