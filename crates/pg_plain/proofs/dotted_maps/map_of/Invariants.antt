use Rattle.std.proofs.Common.{◌≡◌, take}
use Rattle.pg_plain.proofs.dotted_maps.map_of.Given as goal

abbrev pub invariant-loop-i : goal.invariant-loop-i
invariant-loop-i l = l.map.entries ≡ take l.i l.patterns
