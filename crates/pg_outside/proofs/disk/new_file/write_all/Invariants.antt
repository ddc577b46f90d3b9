use Rattle.std.proofs.Common.{◌≡◌, length}
use Rattle.pg_outside.proofs.WriteLoop.{HasWritten}
use Rattle.pg_outside.proofs.disk.new_file.write_all.Given as goal

abbrev pub invariant-loop-rest : goal.invariant-loop-rest
invariant-loop-rest g l = record {
  written : HasWritten (g.S.System.told l.initial.system) (g.S.System.told l.system) (g.S.System.id l.initial.file) (g.S.System.id l.file) l.bytes l.rest;
  failures : g.S.System.failures l.system ≡ g.S.System.failures l.initial.system;
}

abbrev pub decreases-loop-rest : goal.decreases-loop-rest
decreases-loop-rest g l = length l.rest
