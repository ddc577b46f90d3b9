use borrow.Author.Rules.{scaled_Fits}
use Rattle.std.proofs.Common.{arith}
use Rattle.pg_cells.proofs.CellWrites.{write_child}
use Rattle.pg_cells.proofs.store.cell.set_child.Goals as goal

pub offset_bounds-cells-cell : goal.offset_bounds-cells-cell
offset_bounds-cells-cell g c = search scaled_Fits

pub bounds-cells-cell : goal.bounds-cells-cell
bounds-cells-cell g c = c.requires.cell

pub overflow_cast-taken : goal.overflow_cast-taken
overflow_cast-taken g c = let small = c.requires.child in record { fits = omega arith }

pub overflow_mul-taken : goal.overflow_mul-taken
overflow_mul-taken g c = let small = c.requires.child in record { fits = omega arith }

pub overflow_add-taken : goal.overflow_add-taken
overflow_add-taken g c = let small = c.requires.child in record { fits = omega arith }

pub returns : goal.returns
returns g c = write_child c.args.cells.now c.args.cell c.index-cells-cell.result c.args.child c.requires.cell c.requires.taken
