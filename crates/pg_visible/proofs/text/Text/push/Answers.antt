use Rattle.std.proofs.Common.{◌<◌, arith}
use Rattle.pg_visible.specs.declared.text.TheConstants.{LINES_MAX}
use Rattle.pg_visible.proofs.Lines.{with_line}
use Rattle.pg_visible.proofs.text.Text.push.Goals as goal

pub invariant_of-self-2 : goal.invariant_of-self-2
invariant_of-self-2 c =
    let few : c.self.inside.lines < LINES_MAX = omega arith in
    rw (c.in_ok-extend_from_slice.ensures.items, c.deref.ensures.value, c.in_ok-whole.ensures.value)
    (with_line c.self.inside.bytes.items c.args.line.now c.self.inside.lines c.self.invariant.0 c.self.invariant.1 few c.in_ok-whole.ensures.printable)
