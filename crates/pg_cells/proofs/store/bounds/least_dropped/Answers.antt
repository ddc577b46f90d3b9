use Rattle.std.proofs.Common.{arith}
use Rattle.pg_cells.proofs.store.bounds.least_dropped.Goals as goal

pub returns-else-is_base-clause-least : goal.returns-else-is_base-clause-least
returns-else-is_base-clause-least c = omega arith

pub returns-else-is_base-clause-base : goal.returns-else-is_base-clause-base
returns-else-is_base-clause-base c _ = omega arith
