use Rattle.std.proofs.Common.{◌≡◌, ◌+◌, ◌-◌, length}
use Rattle.pg_outside.proofs.ReadLoop.{HasRead}
use Rattle.pg_outside.proofs.disk.read.read_within.Given as goal

abbrev pub invariant-loop-piece : goal.invariant-loop-piece
invariant-loop-piece g l = record {
  read : HasRead (g.S.System.told l.initial.system) (g.S.System.told l.system) (g.S.System.id l.initial.file) (g.S.System.id l.file) (g.S.System.at l.file) l.into.items l.limit;
  failures : g.S.System.failures l.system ≡ g.S.System.failures l.initial.system;
}

abbrev pub decreases-loop-piece : goal.decreases-loop-piece
decreases-loop-piece g l = (l.limit + 1) - length l.into.items
