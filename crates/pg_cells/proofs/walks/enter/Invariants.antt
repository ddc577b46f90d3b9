use Rattle.std.proofs.Common.{◌≡◌, ◌<◌, take, drop, Some}
use Rattle.pg_types.specs.Inside.PlacementSteps.{enter_after, enter_by}
use Rattle.pg_types.specs.Inside.Placing.{cell_of}
use Rattle.pg_cells.specs.Inside.linked.AreValuedFamilies.{AreValuedFamilies}
use Rattle.pg_cells.specs.Inside.linked.Walks.{AddsBlanks}
use Rattle.pg_cells.proofs.walks.enter.Given as goal

abbrev pub invariant-loop-k : goal.invariant-loop-k
invariant-loop-k g l = record {
  up : 0 < l.k;
  at : cell_of l.cells.families (take l.k l.signs) ≡ Some l.cell;
  families : enter_after l.fn.cells.signs l.cells.families (take l.k l.signs) (drop l.k l.signs)
      ≡ enter_by l.fn.cells.signs l.fn.cells.families l.signs;
  front : l.cells.families ≡ enter_by l.fn.cells.signs l.fn.cells.families (take l.k l.signs);
  blanks : AddsBlanks l.signs l.blank l.fn.cells.values l.cells.values;
  held : AreValuedFamilies l.cells;
  signs : l.cells.signs ≡ l.fn.cells.signs;
}
