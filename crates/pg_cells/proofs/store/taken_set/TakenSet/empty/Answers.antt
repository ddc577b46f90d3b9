use Rattle.std.proofs.Common.{arith}
use Rattle.pg_cells.proofs.FullSets.{full_none}
use Rattle.pg_cells.proofs.store.taken_set.TakenSet.empty.Goals as goal

pub invariant_of-result : goal.invariant_of-result
invariant_of-result c = record { fills = full_none c.empty.result c.empty-2.result (omega (arith, c.empty.ensures.room)) c.empty-2.ensures.none }
