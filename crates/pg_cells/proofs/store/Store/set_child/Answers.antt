use Rattle.std.proofs.Common.{◌≡◌, ◌<◌, sym, ap, subst, ◌∙◌, length, arith, take, drop, ◌++◌, List}
use Rattle.pg_cells.specs.declared.store.cell.Cell.{Cell}
use Rattle.pg_cells.specs.Inside.store.CellRows.{Row, row_of, sign_at, with_child}
use Rattle.pg_cells.specs.Inside.store.Store.{IsRow}
use Rattle.pg_cells.specs.Inside.store.Writes.{SetsChild}
use Rattle.pg_cells.specs.declared.store.member.Member.{Member}
use Rattle.pg_cells.proofs.RowCells.{taken_in_row, child_fits}
use Rattle.pg_cells.proofs.RowWrites.{is_row, row_child}
use Rattle.pg_cells.proofs.BlockedLaws.{blocked_child}
use Rattle.pg_cells.proofs.BoundLaws.{bounds_child}
use Rattle.pg_cells.proofs.SetLaws.{sets_child}
use Rattle.pg_cells.proofs.StoreSteps.{given_back, kept_write}
use Rattle.pg_cells.proofs.store.Store.set_child.Goals as goal

pub set_child-requires : goal.set_child-requires
set_child-requires g c =
    let taken = taken_in_row c.as_mut_slice.result.now c.args.self.now c.args.cell (ap row_of c.as_mut_slice.ensures.value ∙ c.self.view_is) c.requires.taken in
    record {
      cell = taken.0;
      taken = taken.1;
      child = child_fits c.self.inside.cells.items c.args.child (subst (λ (r : Row (Member g.row.V.Denot)). c.args.child < length r.signs) (sym c.self.view_is) c.requires.child)
          c.self.invariant.kept.small;
    }

pub invariant_of-self : goal.invariant_of-self
invariant_of-self g c =
    let size : length c.set_child.new.cells ≡ c.self.inside.cells.len = omega arith in
    let same : length c.set_child.new.cells ≡ length c.self.inside.cells.items = omega arith in
    let sets : SetsChild (row_of c.self.inside.cells.items) (row_of c.set_child.new.cells) c.args.cell c.args.child =
    subst (λ r. SetsChild (row_of c.self.inside.cells.items) r c.args.cell c.args.child)
    (sym (c.set_child.ensures ∙ ap (λ cells. with_child (row_of cells) c.args.cell c.args.child) c.as_mut_slice.ensures.value))
    (row_child c.self.inside.cells.items c.args.cell c.args.child (λ z. c.requires.taken (subst (λ r. sign_at r c.args.cell ≡ 0) c.self.view_is z))) in
    rw (given_back c.set_child.new.cells c.self.inside.cells.items c.self.inside.cells.len size)
    (record {
      sets = sets_child (row_of c.self.inside.cells.items) c.self.inside.taken_set.cells c.self.inside.bases c.self.invariant.sets (row_of c.set_child.new.cells) c.args.cell c.args.child sets;
      kept = kept_write c.self.inside.cells.items c.set_child.new.cells _ _ c.self.invariant.kept same (ap (λ (r : Row (Member g.row.V.Denot)). r.signs)
          (c.set_child.ensures ∙ ap (λ cells. with_child (row_of cells) c.args.cell c.args.child) c.as_mut_slice.ensures.value));
      few = c.self.invariant.few;
      bounds = bounds_child (row_of c.self.inside.cells.items) (row_of c.set_child.new.cells) c.self.inside.lows.items c.self.inside.freed c.self.inside.dropped
          c.self.invariant.bounds c.args.cell c.args.child
          sets;
      blocked = blocked_child (row_of c.self.inside.cells.items) (row_of c.set_child.new.cells) c.self.inside.placed c.self.inside.sought c.self.invariant.blocked c.args.cell c.args.child
          sets;
    })

pub returns-clause-sets : goal.returns-clause-sets
returns-clause-sets g c =
    let size : length c.set_child.new.cells ≡ c.self.inside.cells.len = omega arith in
    let left : row_of (take c.self.inside.cells.len (c.set_child.new.cells ++ drop (length c.set_child.new.cells) c.self.inside.cells.items))
    ≡ with_child (row_of c.self.inside.cells.items) c.args.cell c.args.child =
    ap row_of (given_back c.set_child.new.cells c.self.inside.cells.items c.self.inside.cells.len size) ∙ c.set_child.ensures
    ∙ ap (λ cells. with_child (row_of cells) c.args.cell c.args.child) c.as_mut_slice.ensures.value in
    subst (λ r. SetsChild r (row_of (take c.self.inside.cells.len (c.set_child.new.cells ++ drop (length c.set_child.new.cells) c.self.inside.cells.items))) c.args.cell c.args.child) c.self.view_is
    (subst (λ r. SetsChild (row_of c.self.inside.cells.items) r c.args.cell c.args.child) (sym left)
    (row_child c.self.inside.cells.items c.args.cell c.args.child (λ z. c.requires.taken (subst (λ r. sign_at r c.args.cell ≡ 0) c.self.view_is z))))

pub returns-clause-row : goal.returns-clause-row
returns-clause-row g c =
    let size : length c.set_child.new.cells ≡ c.self.inside.cells.len = omega arith in
    let same : length c.set_child.new.cells ≡ length c.self.inside.cells.items = omega arith in
    let small = c.self.invariant.kept.small in
    subst (λ (cells : List (Cell g.row.V.Denot)). IsRow (row_of cells)) (sym (given_back c.set_child.new.cells c.self.inside.cells.items c.self.inside.cells.len size))
    (is_row c.set_child.new.cells (omega arith))
