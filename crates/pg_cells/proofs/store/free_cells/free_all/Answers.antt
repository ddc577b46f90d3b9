use Rattle.std.proofs.Common.{◌≡◌, ◌+◌, ◌<◌, ◌∙◌, ap, sym, subst, refl, length, false, arith}
use Rattle.pg_cells.specs.Inside.store.CellRows.{row_of, with_base, with_free}
use Rattle.pg_cells.specs.Inside.store.Store.{AreFreeTo}
use Rattle.pg_cells.proofs.AllFree.{free_to_none, free_to_more}
use Rattle.pg_cells.proofs.store.free_cells.free_all.Goals as goal

pub loop-cell-init : goal.loop-cell-init
loop-cell-init g c = record { size = refl; free = free_to_none (row_of c.args.cells.now) }

pub loop-cell-preserved : goal.loop-cell-preserved
loop-cell-preserved g c =
    let i = c.loop-cell.cell in
    let size = c.loop-cell.invariant.size in
    let within : i < length c.loop-cell.cells = omega arith in
    let is : row_of c.set_base.new.cells ≡ with_base (with_free (row_of c.loop-cell.cells) i) i false = c.set_base.ensures ∙ ap (λ r. with_base r i false) c.set_free.ensures in
    record {
      size = omega arith;
      free = subst (AreFreeTo (i + 1)) (sym is) (free_to_more c.loop-cell.cells i within c.loop-cell.invariant.free);
    }

pub returns : goal.returns
returns g c =
    let at : c.loop-cell.cell ≡ length c.args.cells.now = omega arith in
    record {
      size = c.loop-cell.invariant.size;
      free = subst (λ k. AreFreeTo k (row_of c.loop-cell.cells)) at c.loop-cell.invariant.free;
    }
