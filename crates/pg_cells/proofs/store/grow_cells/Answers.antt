use Rattle.pg_cells.proofs.GivenMembers.{extends_itself}
use Rattle.pg_cells.specs.Inside.store.Store.{Extends}
use Rattle.pg_cells.specs.declared.store.cell.Cell.{Cell}
use Rattle.std.proofs.Common.{arith, List, sym, subst}
use Rattle.pg_cells.specs.Inside.store.CellRows.{row_of}
use Rattle.pg_cells.proofs.StoreSteps.{extended_once, extends_same, longer_once}
use Rattle.pg_cells.proofs.store.grow_cells.Goals as goal

pub grow-preserved : goal.grow-preserved
grow-preserved g c =
    let row = c.in_ok-push_cell.ensures.row in
    record {
      small = omega (arith, longer_once c.grow.cells.items c.push_cell.new.cells.items c.args.value row);
      extends = extended_once (row_of c.args.cells.now.items) c.grow.cells.items c.push_cell.new.cells.items c.args.value c.grow.invariant.extends row;
      within = λ under. omega (arith, longer_once c.grow.cells.items c.push_cell.new.cells.items c.args.value row);
    }

pub grow-init : goal.grow-init
grow-init g c = record { small = c.requires; extends = extends_same (row_of c.args.cells.now.items); within = λ under. under }

pub grow-smaller : goal.grow-smaller
grow-smaller g c = let more = longer_once c.grow.cells.items c.push_cell.new.cells.items c.args.value c.in_ok-push_cell.ensures.row in omega arith

pub returns-then-count-ge-CELLS_END-clause-small : goal.returns-then-count-ge-CELLS_END-clause-small
returns-then-count-ge-CELLS_END-clause-small g c = c.requires

pub returns-then-count-ge-CELLS_END-clause-extends : goal.returns-then-count-ge-CELLS_END-clause-extends
returns-then-count-ge-CELLS_END-clause-extends g c = extends_itself (row_of c.args.cells.now.items)

pub returns-then-count-ge-CELLS_END-clause-length : goal.returns-then-count-ge-CELLS_END-clause-length
returns-then-count-ge-CELLS_END-clause-length g c = tt

pub returns-in_err-push_cell-clause-extends : goal.returns-in_err-push_cell-clause-extends
returns-in_err-push_cell-clause-extends g c = subst (λ (cells : List (Cell g.row.V.Denot)). Extends (row_of c.args.cells.now.items) (row_of cells))
    (sym c.in_err-push_cell.ensures.err) c.grow.invariant.extends

pub returns-clause-small : goal.returns-clause-small
returns-clause-small g c = c.grow.invariant.small

pub returns-clause-extends : goal.returns-clause-extends
returns-clause-extends g c = c.grow.invariant.extends

pub returns-clause-within : goal.returns-clause-within
returns-clause-within g c = c.grow.invariant.within
