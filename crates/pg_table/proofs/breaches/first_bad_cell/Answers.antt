use Rattle.std.proofs.Common.{◌≡◌, true, sym, ◌∙◌, ap, arith, below_more}
use Rattle.pg_table.specs.declared.parts.cell.Cell.{Cell}
use Rattle.pg_table.specs.Forms.{cell_at, is_sound_cell}
use Rattle.pg_table.proofs.parts.BreachLaws.{cell_sound, bad_cell, all_cells}
use Rattle.pg_table.proofs.breaches.first_bad_cell.Goals as goal

pub returns-in-Some-clause-all : goal.returns-in-Some-clause-all
returns-in-Some-clause-all c =
    bad_cell c.args.bytes.now c.args.sizes.now c.cells.at c.read.result c.in-Some.rule c.cells-test.true c.read.ensures (sym c.in-Some.ensures)

pub cells-preserved : goal.cells-preserved
cells-preserved c =
    below_more (λ k. is_sound_cell c.args.sizes.now k (cell_at c.args.bytes.now k) ≡ true) c.cells.at c.cells.invariant
    (ap (λ (x : Cell). is_sound_cell c.args.sizes.now c.cells.at x) (sym c.read.ensures) ∙ cell_sound c.args.sizes.now c.cells.at c.read.result (sym c.in-None.ensures))

pub returns-clause-all : goal.returns-clause-all
returns-clause-all c = all_cells c.args.bytes.now c.args.sizes.now (λ k inside. c.cells.invariant k (omega arith))
