use Rattle.std.proofs.Common.{◌≡◌, ◌++◌}
use Rattle.pg_plain.proofs.dotted_maps.set_of.Given as goal

abbrev pub invariant-loop-dotted : goal.invariant-loop-dotted
invariant-loop-dotted l = l.entries.items ++ l.dotted-iterator ≡ l.map.entries
