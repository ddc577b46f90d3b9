use Rattle.pg_cells.specs.Inside.store.Fit.{slot_signs}
use Rattle.pg_cells.proofs.BlockSteps.{SaysBlocked}
use Rattle.pg_cells.proofs.store.blocks.blocked_from.Given as goal

abbrev pub invariant-loop-slot : goal.invariant-loop-slot
invariant-loop-slot g l = SaysBlocked l.taken.cells l.bases l.sign (slot_signs l.slots) l.blocked l.base l.slot-index
