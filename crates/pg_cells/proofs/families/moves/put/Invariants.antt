use Rattle.std.proofs.Common.{take}
use Rattle.pg_cells.specs.Inside.families.Moves.{PutsSlots}
use Rattle.pg_cells.proofs.families.moves.put.Given as goal

abbrev pub invariant-loop-slot : goal.invariant-loop-slot
invariant-loop-slot g l = PutsSlots l.initial.store l.store l.base (take l.slot-index l.slots)
