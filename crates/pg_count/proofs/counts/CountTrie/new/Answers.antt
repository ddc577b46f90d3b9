use Rattle.std.proofs.Common.{arith}
use Rattle.pg_count.proofs.Beginning.{begun, begun_kept}
use Rattle.pg_count.proofs.counts.CountTrie.new.Goals as goal

pub invariant_of-result : goal.invariant_of-result
invariant_of-result c = begun_kept c.in_ok-cells.cells c.args.signs 1 c.in_ok-cells.ensures.held c.in_ok-cells.ensures.kept (omega arith) (omega arith)

pub returns : goal.returns
returns c = begun c.in_ok-cells.cells c.args.signs 1 c.in_ok-cells.ensures.held
