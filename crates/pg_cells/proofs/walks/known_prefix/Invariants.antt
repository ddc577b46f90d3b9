use Rattle.std.proofs.Common.{◌≡◌, ◌<◌, take, Some}
use Rattle.pg_types.specs.Inside.Placing.{cell_of}
use Rattle.pg_cells.specs.Inside.linked.Walks.{NeedsNoCell}
use Rattle.pg_cells.proofs.walks.known_prefix.Given as goal

abbrev pub invariant-loop-k : goal.invariant-loop-k
invariant-loop-k g l = record {
  up : 0 < l.k;
  at : cell_of l.cells.families (take l.k l.signs) ≡ Some l.cell;
  known : NeedsNoCell l.cells.signs l.cells.families l.signs l.k;
}
