use Rattle.pg_starts.specs.Inside.Sets.{AreOfSets}
use Rattle.pg_starts.proofs.SetLaws.{Emptying}
use Rattle.pg_starts.proofs.keys.gather.Given as goal

abbrev pub invariant-numbers : goal.invariant-numbers
invariant-numbers l = AreOfSets l.sets l.number l.keys.items

abbrev pub invariant-parts : goal.invariant-parts
invariant-parts l = Emptying l.sets l.number l.left l.keys.items

abbrev pub decreases-parts : goal.decreases-parts
decreases-parts l = l.left
