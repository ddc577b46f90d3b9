use Rattle.std.proofs.Common.{◌≡◌, ◌++◌, drop, map}
use Rattle.std.specs.List.{flat_map}
use Rattle.pg_texts.specs.Inside.CellsRecords.{pass_cells, level_cells}
use Rattle.pg_texts.specs.Inside.CellsLines.{level_cells_text}
use Rattle.pg_texts.proofs.cells.push_levels.Given as goal

abbrev pub invariant-levels : goal.invariant-levels
invariant-levels l = l.text.items ++ flat_map (level_cells_text (map pass_cells l.passes)) (map level_cells (drop l.level-index l.levels)) ≡ l.fn.text.items
    ++ flat_map (level_cells_text (map pass_cells l.passes)) (map level_cells l.levels)
