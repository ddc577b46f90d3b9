use Rattle.std.proofs.Common.{◌≡◌, ◌<◌, List, sym, ap, subst, ◌∙◌, length, arith, take, drop, ◌++◌}
use Rattle.std.proofs.lemmas.List.{length-map}
use Rattle.pg_cells.specs.declared.store.cell.Cell.{Cell}
use Rattle.pg_cells.specs.declared.store.member.Member.{Member}
use Rattle.pg_cells.specs.Inside.store.CellRows.{sign_seen, Row, row_of, IsFree, with_taken}
use Rattle.pg_cells.proofs.RowCells.{free_within, free_in, child_fits}
use Rattle.pg_cells.specs.Inside.store.Store.{IsRow}
use Rattle.pg_cells.specs.Inside.store.Writes.{Takes}
use Rattle.pg_cells.proofs.RowWrites.{is_row, row_takes}
use Rattle.pg_cells.proofs.BlockedLaws.{blocked_take, free_sign}
use Rattle.pg_cells.proofs.BoundLaws.{bounds_take}
use Rattle.pg_cells.proofs.SetLaws.{sets_take}
use Rattle.pg_cells.proofs.StoreSteps.{given_back, taken_le, kept_taken}
use Rattle.pg_cells.proofs.store.Store.take.Goals as goal

pub overflow_add-self : goal.overflow_add-self
overflow_add-self g c =
    let le = taken_le c.self.inside.cells.items in
    let small = c.self.invariant.kept.small in
    let count = c.self.invariant.kept.count in
    omega arith

pub set_taken-requires-clause-cell : goal.set_taken-requires-clause-cell
set_taken-requires-clause-cell g c =
    free_in c.as_mut_slice.result.now c.args.cell (subst (λ (cells : List (Cell g.row.V.Denot)). IsFree (row_of cells) c.args.cell) (sym c.as_mut_slice.ensures.value)
    (subst (λ (r : Row (Member g.row.V.Denot)). IsFree r c.args.cell) (sym c.self.view_is) c.requires.free))

pub set_taken-requires-clause-child : goal.set_taken-requires-clause-child
set_taken-requires-clause-child g c =
    child_fits c.self.inside.cells.items c.args.slot.child (subst (λ (r : Row (Member g.row.V.Denot)). c.args.slot.child < length r.signs) (sym c.self.view_is) c.requires.child)
    c.self.invariant.kept.small

pub insert-requires : goal.insert-requires
insert-requires g c =
    let free : IsFree (row_of c.self.inside.cells.items) c.args.cell = subst (λ r. IsFree r c.args.cell) (sym c.self.view_is) c.requires.free in
    let room = c.self.invariant.sets.cell_room in
    omega (arith, free_within (row_of c.self.inside.cells.items) c.args.cell free)

pub invariant_of-self : goal.invariant_of-self
invariant_of-self g c =
    let size : length c.set_taken.new.cells ≡ c.self.inside.cells.len = omega arith in
    let same : length c.set_taken.new.cells ≡ length c.self.inside.cells.items = omega arith in
    let value = c.as_mut_slice.ensures.value in
    let free : IsFree (row_of c.self.inside.cells.items) c.args.cell = subst (λ r. IsFree r c.args.cell) (sym c.self.view_is) c.requires.free in
    let within : c.args.cell < length c.self.inside.cells.items = omega (arith, free_within (row_of c.self.inside.cells.items) c.args.cell free, length-map c.self.inside.cells.items sign_seen) in
    let max = c.max-self-inside.ensures in
    let takes : Takes (row_of c.self.inside.cells.items) (row_of c.set_taken.new.cells) c.args.cell c.args.slot.sign c.args.slot.value c.args.slot.child =
    subst (λ r. Takes (row_of c.self.inside.cells.items) r c.args.cell c.args.slot.sign c.args.slot.value c.args.slot.child)
    (sym (c.set_taken.ensures ∙ ap (λ cells. with_taken (row_of cells) c.args.cell c.args.slot.sign c.args.slot.value c.args.slot.child) value))
    (row_takes c.self.inside.cells.items c.args.cell c.args.slot.sign c.args.slot.value c.args.slot.child free c.requires.sign) in
    rw (given_back c.set_taken.new.cells c.self.inside.cells.items c.self.inside.cells.len size)
    (record {
      kept = kept_taken c.self.inside.cells.items c.set_taken.new.cells _ _ c.self.invariant.kept same c.args.cell c.args.slot.sign c.args.slot.value c.args.slot.child _ within free c.requires.sign
          (c.set_taken.ensures ∙ ap (λ cells. with_taken (row_of cells) c.args.cell c.args.slot.sign c.args.slot.value c.args.slot.child) value) max;
      sets = sets_take (row_of c.self.inside.cells.items) c.self.inside.taken_set.cells c.self.inside.bases c.self.invariant.sets (row_of c.set_taken.new.cells)
          c.args.cell c.args.slot.sign c.args.slot.value c.args.slot.child c.insert.new.self.cells c.requires.sign takes c.insert.ensures.room c.insert.ensures.has;
      few = c.self.invariant.few;
      bounds = bounds_take (row_of c.self.inside.cells.items) (row_of c.set_taken.new.cells) c.self.inside.lows.items c.self.inside.freed c.self.inside.dropped
          c.self.invariant.bounds c.args.cell c.args.slot.sign c.args.slot.child c.args.slot.value c.requires.sign
          takes;
      blocked = blocked_take (row_of c.self.inside.cells.items) (row_of c.set_taken.new.cells) c.self.inside.placed c.self.inside.sought c.self.invariant.blocked
          c.args.cell c.args.slot.sign c.args.slot.child c.args.slot.value (free_sign (row_of c.self.inside.cells.items) c.args.cell free)
          takes;
    })

pub returns-clause-takes : goal.returns-clause-takes
returns-clause-takes g c =
    let size : length c.set_taken.new.cells ≡ c.self.inside.cells.len = omega arith in
    let left : row_of (take c.self.inside.cells.len (c.set_taken.new.cells ++ drop (length c.set_taken.new.cells) c.self.inside.cells.items))
    ≡ with_taken (row_of c.self.inside.cells.items) c.args.cell c.args.slot.sign c.args.slot.value c.args.slot.child =
    ap row_of (given_back c.set_taken.new.cells c.self.inside.cells.items c.self.inside.cells.len size) ∙ c.set_taken.ensures
    ∙ ap (λ cells. with_taken (row_of cells) c.args.cell c.args.slot.sign c.args.slot.value c.args.slot.child) c.as_mut_slice.ensures.value in
    subst (λ r. Takes r (row_of (take c.self.inside.cells.len (c.set_taken.new.cells ++ drop (length c.set_taken.new.cells) c.self.inside.cells.items)))
    c.args.cell c.args.slot.sign c.args.slot.value c.args.slot.child) c.self.view_is
    (subst (λ r. Takes (row_of c.self.inside.cells.items) r c.args.cell c.args.slot.sign c.args.slot.value c.args.slot.child) (sym left)
    (row_takes c.self.inside.cells.items c.args.cell c.args.slot.sign c.args.slot.value c.args.slot.child (subst (λ r. IsFree r c.args.cell) (sym c.self.view_is) c.requires.free) c.requires.sign))

pub returns-clause-row : goal.returns-clause-row
returns-clause-row g c =
    let size : length c.set_taken.new.cells ≡ c.self.inside.cells.len = omega arith in
    let same : length c.set_taken.new.cells ≡ length c.self.inside.cells.items = omega arith in
    let small = c.self.invariant.kept.small in
    subst (λ (cells : List (Cell g.row.V.Denot)). IsRow (row_of cells)) (sym (given_back c.set_taken.new.cells c.self.inside.cells.items c.self.inside.cells.len size))
    (is_row c.set_taken.new.cells (omega arith))
