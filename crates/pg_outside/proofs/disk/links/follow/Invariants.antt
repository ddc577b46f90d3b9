use Rattle.std.proofs.Common.{◌≡◌, string_bytes}
use Rattle.pg_outside.specs.Inside.disk.Disks.{KeepsDisk, HoldsNow}
use Rattle.pg_outside.proofs.Links.{IsReached}
use Rattle.pg_outside.proofs.disk.links.follow.Given as goal

abbrev pub invariant-loop : goal.invariant-loop
invariant-loop g l = record {
  same : KeepsDisk (g.S.System.told l.initial.system) (g.S.System.told l.system);
  reached : HoldsNow (g.S.System.told l.system) (IsReached l.name (string_bytes l.real) l.counter);
  failures : g.S.System.failures l.system ≡ g.S.System.failures l.initial.system;
}
