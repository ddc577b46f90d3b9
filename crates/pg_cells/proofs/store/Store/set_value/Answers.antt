use Rattle.std.proofs.Common.{◌≡◌, sym, ap, subst, ◌∙◌, length, arith, take, drop, ◌++◌, List}
use Rattle.pg_cells.specs.declared.store.cell.Cell.{Cell}
use Rattle.pg_cells.specs.Inside.store.CellRows.{Row, row_of, sign_at, with_value}
use Rattle.pg_cells.specs.Inside.store.Store.{IsRow}
use Rattle.pg_cells.specs.Inside.store.Writes.{SetsRowValue}
use Rattle.pg_cells.specs.declared.store.member.Member.{Member}
use Rattle.pg_cells.proofs.RowCells.{taken_in_row}
use Rattle.pg_cells.proofs.RowWrites.{is_row, row_value}
use Rattle.pg_cells.proofs.BlockedLaws.{blocked_value}
use Rattle.pg_cells.proofs.BoundLaws.{bounds_value}
use Rattle.pg_cells.proofs.SetLaws.{sets_value}
use Rattle.pg_cells.proofs.StoreSteps.{given_back, kept_write}
use Rattle.pg_cells.proofs.store.Store.set_value.Goals as goal

pub set_value-requires : goal.set_value-requires
set_value-requires g c =
    let taken = taken_in_row c.as_mut_slice.result.now c.args.self.now c.args.cell (ap row_of c.as_mut_slice.ensures.value ∙ c.self.view_is) c.requires.taken in
    record { cell = taken.0; taken = taken.1; fits = c.requires.fits }

pub invariant_of-self : goal.invariant_of-self
invariant_of-self g c =
    let size : length c.set_value.new.cells ≡ c.self.inside.cells.len = omega arith in
    let same : length c.set_value.new.cells ≡ length c.self.inside.cells.items = omega arith in
    let sets : SetsRowValue (row_of c.self.inside.cells.items) (row_of c.set_value.new.cells) c.args.cell c.args.value =
    subst (λ r. SetsRowValue (row_of c.self.inside.cells.items) r c.args.cell c.args.value)
    (sym (c.set_value.ensures ∙ ap (λ cells. with_value (row_of cells) c.args.cell c.args.value) c.as_mut_slice.ensures.value))
    (row_value c.self.inside.cells.items c.args.cell c.args.value (λ z. c.requires.taken (subst (λ r. sign_at r c.args.cell ≡ 0) c.self.view_is z))) in
    rw (given_back c.set_value.new.cells c.self.inside.cells.items c.self.inside.cells.len size)
    (record {
      sets = sets_value (row_of c.self.inside.cells.items) c.self.inside.taken_set.cells c.self.inside.bases c.self.invariant.sets (row_of c.set_value.new.cells) c.args.cell c.args.value sets;
      kept = kept_write c.self.inside.cells.items c.set_value.new.cells _ _ c.self.invariant.kept same (ap (λ (r : Row (Member g.row.V.Denot)). r.signs)
          (c.set_value.ensures ∙ ap (λ cells. with_value (row_of cells) c.args.cell c.args.value) c.as_mut_slice.ensures.value));
      few = c.self.invariant.few;
      bounds = bounds_value (row_of c.self.inside.cells.items) (row_of c.set_value.new.cells) c.self.inside.lows.items c.self.inside.freed c.self.inside.dropped
          c.self.invariant.bounds c.args.cell c.args.value
          sets;
      blocked = blocked_value (row_of c.self.inside.cells.items) (row_of c.set_value.new.cells) c.self.inside.placed c.self.inside.sought c.self.invariant.blocked c.args.cell c.args.value
          sets;
    })

pub returns-clause-sets : goal.returns-clause-sets
returns-clause-sets g c =
    let size : length c.set_value.new.cells ≡ c.self.inside.cells.len = omega arith in
    let left : row_of (take c.self.inside.cells.len (c.set_value.new.cells ++ drop (length c.set_value.new.cells) c.self.inside.cells.items))
    ≡ with_value (row_of c.self.inside.cells.items) c.args.cell c.args.value =
    ap row_of (given_back c.set_value.new.cells c.self.inside.cells.items c.self.inside.cells.len size) ∙ c.set_value.ensures
    ∙ ap (λ cells. with_value (row_of cells) c.args.cell c.args.value) c.as_mut_slice.ensures.value in
    subst (λ r. SetsRowValue r (row_of (take c.self.inside.cells.len (c.set_value.new.cells ++ drop (length c.set_value.new.cells) c.self.inside.cells.items))) c.args.cell c.args.value) c.self.view_is
    (subst (λ r. SetsRowValue (row_of c.self.inside.cells.items) r c.args.cell c.args.value) (sym left)
    (row_value c.self.inside.cells.items c.args.cell c.args.value (λ z. c.requires.taken (subst (λ r. sign_at r c.args.cell ≡ 0) c.self.view_is z))))

pub returns-clause-row : goal.returns-clause-row
returns-clause-row g c =
    let size : length c.set_value.new.cells ≡ c.self.inside.cells.len = omega arith in
    let same : length c.set_value.new.cells ≡ length c.self.inside.cells.items = omega arith in
    let small = c.self.invariant.kept.small in
    subst (λ (cells : List (Cell g.row.V.Denot)). IsRow (row_of cells)) (sym (given_back c.set_value.new.cells c.self.inside.cells.items c.self.inside.cells.len size))
    (is_row c.set_value.new.cells (omega arith))
