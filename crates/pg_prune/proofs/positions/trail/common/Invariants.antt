use Rattle.std.proofs.Common.{◌≡◌, take}
use Rattle.pg_prune.proofs.positions.trail.common.Given as goal

abbrev pub invariant-signs : goal.invariant-signs
invariant-signs l = take l.i l.a ≡ take l.i l.b
