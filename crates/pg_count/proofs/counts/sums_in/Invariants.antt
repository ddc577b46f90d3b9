use Rattle.std.proofs.Common.{take}
use Rattle.pg_cells.specs.Inside.linked.Walks.{IsAt}
use Rattle.pg_count.proofs.counts.sums_in.Given as goal

abbrev pub invariant-loop-s : goal.invariant-loop-s
invariant-loop-s l = IsAt l.cells.families l.at (take l.s-index l.signs)
