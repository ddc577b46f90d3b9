use Rattle.std.proofs.Common.{take}
use Rattle.pg_cells.specs.Inside.families.Moves.{GivesUp}
use Rattle.pg_cells.proofs.families.moves.give_up.Given as goal

abbrev pub invariant-loop-held : goal.invariant-loop-held
invariant-loop-held g l = GivesUp l.initial.store l.store l.base (take l.held-index l.slots)
