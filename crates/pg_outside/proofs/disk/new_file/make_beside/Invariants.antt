use Rattle.std.proofs.Common.{◌≡◌}
use Rattle.pg_outside.specs.Inside.disk.Disks.{KeepsDisk}
use Rattle.pg_outside.proofs.NewNameLoop.{HasTried}
use Rattle.pg_outside.proofs.disk.new_file.make_beside.Given as goal

abbrev pub invariant-loop-number : goal.invariant-loop-number
invariant-loop-number g l = record {
  same : KeepsDisk (g.S.System.told l.initial.system) (g.S.System.told l.system);
  failures : g.S.System.failures l.system ≡ g.S.System.failures l.initial.system;
  tried : HasTried (g.S.System.told l.system) l.folder l.name l.number-counter;
}
