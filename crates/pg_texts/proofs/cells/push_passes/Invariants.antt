use Rattle.std.proofs.Common.{◌≡◌, ◌++◌, drop, map}
use Rattle.pg_texts.specs.Inside.CellsRecords.{pass_cells}
use Rattle.pg_texts.specs.Inside.CellsLines.{pass_cells_lines}
use Rattle.pg_texts.proofs.cells.push_passes.Given as goal

abbrev pub invariant-passes : goal.invariant-passes
invariant-passes l = l.text.items ++ pass_cells_lines (map pass_cells (drop l.pass-index l.passes)) l.level ≡ l.fn.text.items ++ pass_cells_lines (map pass_cells l.passes) l.level
