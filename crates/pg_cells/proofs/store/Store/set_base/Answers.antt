use Rattle.std.proofs.Common.{◌≡◌, ap, sym, subst, ◌∙◌, ◌<◌, length, arith, take, drop, ◌++◌, List}
use Rattle.pg_cells.specs.declared.store.cell.Cell.{Cell}
use Rattle.pg_cells.specs.Inside.store.CellRows.{Row, row_of, with_base}
use Rattle.pg_cells.specs.Inside.store.BlockedBases.{AreBlocked}
use Rattle.pg_cells.specs.Inside.store.Store.{IsRow}
use Rattle.pg_cells.specs.Inside.store.Writes.{SetsBase}
use Rattle.pg_cells.specs.declared.store.member.Member.{Member}
use Rattle.pg_cells.proofs.RowCells.{signs_long}
use Rattle.pg_cells.proofs.RowWrites.{is_row, row_base}
use Rattle.pg_cells.proofs.BlockedLaws.{blocked_base}
use Rattle.pg_cells.proofs.BoundLaws.{bounds_base}
use Rattle.pg_cells.proofs.SetLaws.{sets_base}
use Rattle.pg_cells.proofs.StoreSteps.{given_back, kept_write}
use Rattle.pg_cells.proofs.store.Store.set_base.Goals as goal

pub set_base-requires : goal.set_base-requires
set_base-requires g c =
    subst (λ n. c.args.cell < n) (ap (λ (r : Row (Member g.row.V.Denot)). length r.signs) (sym (ap row_of c.as_mut_slice.ensures.value ∙ c.self.view_is))
    ∙ signs_long c.as_mut_slice.result.now) c.requires

pub put_in-requires : goal.put_in-requires
put_in-requires g c =
    let within : c.args.cell < length (row_of c.self.inside.cells.items).signs = subst (λ (r : Row (Member g.row.V.Denot)). c.args.cell < length r.signs) (sym c.self.view_is) c.requires in
    let room = c.self.invariant.sets.base_room in
    omega arith

pub invariant_of-self : goal.invariant_of-self
invariant_of-self g c =
    let size : length c.set_base.new.cells ≡ c.self.inside.cells.len = omega arith in
    let same : length c.set_base.new.cells ≡ length c.self.inside.cells.items = omega arith in
    let sets : SetsBase (row_of c.self.inside.cells.items) (row_of c.set_base.new.cells) c.args.cell c.args.is_base =
    subst (λ r. SetsBase (row_of c.self.inside.cells.items) r c.args.cell c.args.is_base)
    (sym (c.set_base.ensures ∙ ap (λ cells. with_base (row_of cells) c.args.cell c.args.is_base) c.as_mut_slice.ensures.value))
    (row_base c.self.inside.cells.items c.args.cell c.args.is_base (subst (λ (r : Row (Member g.row.V.Denot)). c.args.cell < length r.signs) (sym c.self.view_is) c.requires)) in
    rw (given_back c.set_base.new.cells c.self.inside.cells.items c.self.inside.cells.len size)
    (record {
      sets = sets_base (row_of c.self.inside.cells.items) c.self.inside.taken_set.cells c.self.inside.bases c.self.invariant.sets (row_of c.set_base.new.cells)
          c.args.cell c.args.is_base c.put_in.new.set sets c.put_in.ensures.room c.put_in.ensures.has;
      kept = kept_write c.self.inside.cells.items c.set_base.new.cells _ _ c.self.invariant.kept same (ap (λ (r : Row (Member g.row.V.Denot)). r.signs)
          (c.set_base.ensures ∙ ap (λ cells. with_base (row_of cells) c.args.cell c.args.is_base) c.as_mut_slice.ensures.value));
      few = c.self.invariant.few;
      bounds = bounds_base (row_of c.self.inside.cells.items) (row_of c.set_base.new.cells) c.self.inside.lows.items c.self.inside.freed c.self.inside.dropped
          c.self.invariant.bounds c.args.cell c.least_dropped-self-inside.result c.args.is_base c.least_dropped-self-inside.ensures.least c.least_dropped-self-inside.ensures.base
          sets;
      blocked = subst (λ placed. AreBlocked (row_of c.set_base.new.cells) placed c.self.inside.sought) (sym c.still_placed-self-inside.ensures)
          (blocked_base (row_of c.self.inside.cells.items) (row_of c.set_base.new.cells) c.self.inside.placed c.self.inside.sought c.self.invariant.blocked c.args.cell c.args.is_base
          sets);
    })

pub returns-clause-sets : goal.returns-clause-sets
returns-clause-sets g c =
    let size : length c.set_base.new.cells ≡ c.self.inside.cells.len = omega arith in
    let left : row_of (take c.self.inside.cells.len (c.set_base.new.cells ++ drop (length c.set_base.new.cells) c.self.inside.cells.items))
    ≡ with_base (row_of c.self.inside.cells.items) c.args.cell c.args.is_base =
    ap row_of (given_back c.set_base.new.cells c.self.inside.cells.items c.self.inside.cells.len size) ∙ c.set_base.ensures
    ∙ ap (λ cells. with_base (row_of cells) c.args.cell c.args.is_base) c.as_mut_slice.ensures.value in
    subst (λ r. SetsBase r (row_of (take c.self.inside.cells.len (c.set_base.new.cells ++ drop (length c.set_base.new.cells) c.self.inside.cells.items))) c.args.cell c.args.is_base) c.self.view_is
    (subst (λ r. SetsBase (row_of c.self.inside.cells.items) r c.args.cell c.args.is_base) (sym left)
    (row_base c.self.inside.cells.items c.args.cell c.args.is_base (subst (λ (r : Row (Member g.row.V.Denot)). c.args.cell < length r.signs) (sym c.self.view_is) c.requires)))

pub returns-clause-row : goal.returns-clause-row
returns-clause-row g c =
    let size : length c.set_base.new.cells ≡ c.self.inside.cells.len = omega arith in
    let same : length c.set_base.new.cells ≡ length c.self.inside.cells.items = omega arith in
    let small = c.self.invariant.kept.small in
    subst (λ (cells : List (Cell g.row.V.Denot)). IsRow (row_of cells)) (sym (given_back c.set_base.new.cells c.self.inside.cells.items c.self.inside.cells.len size))
    (is_row c.set_base.new.cells (omega arith))
