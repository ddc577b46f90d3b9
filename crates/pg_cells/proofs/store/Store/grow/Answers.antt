use Rattle.std.proofs.Common.{◌≤◌, length, subst, sym, arith, refl, ◌∙◌}
use Rattle.std.proofs.lemmas.List.{length-map}
use Rattle.pg_cells.specs.declared.store.bit_set.BitSet.{BitSet}
use Rattle.pg_cells.specs.Inside.store.BitSets.{room_of}
use Rattle.std.proofs.lemmas.Result.{on_ok_weaker, err_from_is_err_and}
use Rattle.pg_cells.specs.Inside.store.CellRows.{row_of, sign_seen, Row}
use Rattle.pg_cells.specs.Inside.store.Store.{Extends, IsRow}
use Rattle.pg_cells.proofs.RowCells.{signs_long}
use Rattle.pg_cells.proofs.RowWrites.{is_row}
use Rattle.pg_cells.proofs.BlockedLaws.{blocked_grow}
use Rattle.pg_cells.proofs.BoundLaws.{bounds_grow}
use Rattle.pg_cells.proofs.SetLaws.{sets_grow}
use Rattle.pg_cells.proofs.StoreSteps.{kept_extended}
use Rattle.pg_cells.proofs.GivenMembers.{extends_itself}
use Rattle.pg_cells.specs.declared.store.member.Member.{Member}
use Rattle.pg_cells.proofs.store.Store.grow.Goals as goal

pub invariant_of-self-2 : goal.invariant_of-self-2
invariant_of-self-2 g c =
    let few : length c.grow_cells.new.cells.items ≤ c.args.count = c.grow_cells.ensures.within (let less = c.if-count-len.false in omega arith) in
    let room : (m : BitSet) → c.args.count ≤ room_of m → length (row_of c.grow_cells.new.cells.items).signs ≤ room_of m =
    λ m enough. omega (arith, length-map c.grow_cells.new.cells.items sign_seen) in
    record {
      kept = kept_extended c.self.inside.cells.items c.grow_cells.new.cells.items _ _ c.self.invariant.kept c.grow_cells.ensures.small c.grow_cells.ensures.extends;
      sets = sets_grow (row_of c.self.inside.cells.items) c.self.inside.taken_set.cells c.self.inside.bases c.self.invariant.sets (row_of c.grow_cells.new.cells.items)
          c.make_room.new.self.cells c.make_room-2.new.self
          c.grow_cells.ensures.extends
          (room c.make_room.new.self.cells c.in_ok-make_room.ensures.room) (room c.make_room-2.new.self c.in_ok-make_room-2.ensures.room)
          (λ i. c.in_ok-make_room.ensures.same i) (λ i. c.in_ok-make_room-2.ensures.same i);
      few = c.self.invariant.few;
      bounds = bounds_grow (row_of c.self.inside.cells.items) (row_of c.grow_cells.new.cells.items) c.self.inside.lows.items c.self.inside.freed
          c.self.inside.dropped c.self.invariant.bounds c.grow_cells.ensures.extends;
      blocked = blocked_grow (row_of c.self.inside.cells.items) (row_of c.grow_cells.new.cells.items) c.self.inside.placed c.self.inside.sought c.self.invariant.blocked c.grow_cells.ensures.extends;
    }

pub grow_cells-requires : goal.grow_cells-requires
grow_cells-requires g c = c.self.invariant.kept.small

pub returns-then-count-len-clause-row : goal.returns-then-count-len-clause-row
returns-then-count-len-clause-row g c = let small = c.self.invariant.kept.small in subst IsRow c.self.view_is (is_row c.self.inside.cells.items (omega arith))

pub returns : goal.returns
returns g c = record {
  extends = subst (λ r. Extends r (row_of c.grow_cells.new.cells.items)) c.self.view_is c.grow_cells.ensures.extends;
  length = on_ok_weaker c.grow_cells.result (λ long. subst (λ n. c.args.count ≤ n) (sym (signs_long c.grow_cells.new.cells.items)) long) c.grow_cells.ensures.length;
  row = let small = c.grow_cells.ensures.small in is_row c.grow_cells.new.cells.items (omega arith);
}

pub returns-then-count-len-clause-extends : goal.returns-then-count-len-clause-extends
returns-then-count-len-clause-extends g c = extends_itself c.args.self.now

pub invariant_of-self : goal.invariant_of-self
invariant_of-self g c =
    let sets = c.self.invariant.sets in
    record {
      kept = c.self.invariant.kept;
      sets = sets_grow (row_of c.self.inside.cells.items) c.self.inside.taken_set.cells c.self.inside.bases sets (row_of c.self.inside.cells.items) c.make_room.new.self.cells c.self.inside.bases
          (extends_itself (row_of c.self.inside.cells.items)) (omega (arith, sets.cell_room, c.make_room.ensures.grows)) sets.base_room c.make_room.ensures.same (λ i. refl);
      few = c.self.invariant.few;
      bounds = c.self.invariant.bounds;
      blocked = c.self.invariant.blocked;
    }

pub returns-in_err-make_room-clause-row : goal.returns-in_err-make_room-clause-row
returns-in_err-make_room-clause-row g c = let small = c.self.invariant.kept.small in is_row c.self.inside.cells.items (omega arith)

pub returns-in_err-make_room-2-clause-row : goal.returns-in_err-make_room-2-clause-row
returns-in_err-make_room-2-clause-row g c = let small = c.self.invariant.kept.small in is_row c.self.inside.cells.items (omega arith)

pub returns-then-count-len-clause-length : goal.returns-then-count-len-clause-length
returns-then-count-len-clause-length g c =
    let cells = c.self.inside.cells in
    subst (λ (r : Row (Member g.row.V.Denot)). c.args.count ≤ length r.signs) c.self.view_is
    (subst (λ n. c.args.count ≤ n) (c.len.ensures ∙ cells.ok.0 ∙ sym (signs_long cells.items)) c.if-count-len.true)

pub returns-in_err-make_room-clause-extends : goal.returns-in_err-make_room-clause-extends
returns-in_err-make_room-clause-extends g c = let row = row_of c.self.inside.cells.items in subst (λ r. Extends r row) c.self.view_is (extends_itself row)

pub returns-in_err-make_room-clause-length : goal.returns-in_err-make_room-clause-length
returns-in_err-make_room-clause-length g c = let err = err_from_is_err_and c.from_residual.result c.from_residual.ensures.1 in rw err.1 tt

pub invariant_of-self-in_err-make_room-2 : goal.invariant_of-self-in_err-make_room-2
invariant_of-self-in_err-make_room-2 g c =
    let sets = c.self.invariant.sets in
    let row = row_of c.self.inside.cells.items in
    record {
      kept = c.self.invariant.kept;
      sets = sets_grow row c.self.inside.taken_set.cells c.self.inside.bases sets row c.make_room.new.self.cells c.make_room-2.new.self
          (extends_itself row) (omega (arith, sets.cell_room, c.make_room.ensures.grows)) (omega (arith, sets.base_room, c.make_room-2.ensures.grows))
          c.make_room.ensures.same c.make_room-2.ensures.same;
      few = c.self.invariant.few;
      bounds = c.self.invariant.bounds;
      blocked = c.self.invariant.blocked;
    }

pub returns-in_err-make_room-2-clause-extends : goal.returns-in_err-make_room-2-clause-extends
returns-in_err-make_room-2-clause-extends g c = let row = row_of c.self.inside.cells.items in subst (λ r. Extends r row) c.self.view_is (extends_itself row)

pub returns-in_err-make_room-2-clause-length : goal.returns-in_err-make_room-2-clause-length
returns-in_err-make_room-2-clause-length g c = let err = err_from_is_err_and c.from_residual-in_err-make_room-2.result c.from_residual-in_err-make_room-2.ensures.1 in rw err.1 tt
