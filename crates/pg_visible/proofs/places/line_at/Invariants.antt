use Rattle.std.proofs.Common.{◌≡◌, ◌-◌, slice_get, length}
use Rattle.pg_types.specs.Lines.{lines}
use Rattle.pg_visible.proofs.places.line_at.Given as goal

abbrev pub invariant-lines : goal.invariant-lines
invariant-lines l = slice_get (lines l.rest) (l.left - 1) ≡ slice_get (lines l.bytes) (l.line - 1)

abbrev pub decreases-lines : goal.decreases-lines
decreases-lines l = length l.rest
