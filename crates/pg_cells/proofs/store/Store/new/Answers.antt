use Rattle.std.proofs.Common.{◌≡◌, ◌≤◌, [], ◌∷◌, List, length, sym, ap, subst, ◌∙◌, arith, rules}
use Rattle.pg_cells.specs.declared.store.cell.Cell.{Cell}
use Rattle.pg_cells.specs.declared.store.cell.TheConstants.{SIGN_COUNT}
use Rattle.pg_cells.specs.Inside.store.CellRows.{row_of}
use Rattle.pg_cells.specs.Inside.store.Store.{IsStore}
use Rattle.pg_cells.proofs.LoneStore.{free_cell, lone_store}
use Rattle.pg_cells.proofs.store.Store.new.Goals as goal

pub invariant_of-result : goal.invariant_of-result
invariant_of-result g c =
    let items : c.push.new.self.items ≡ free_cell c.args.value ∷ [] = search rules in
    let few : length c.in_ok-lows.lows.items ≤ SIGN_COUNT = omega (arith, c.requires, c.in_ok-lows.ensures) in
    subst (λ (cells : List (Cell g.row.V.Denot)). IsStore cells 0 0 c.make_room.new.self.cells c.make_room-2.new.self c.in_ok-lows.lows.items 0 0 0 0) (sym items)
    (lone_store c.args.value c.in_ok-lows.lows.items c.make_room.new.self.cells c.make_room-2.new.self few c.in_ok-make_room.ensures.room c.in_ok-make_room-2.ensures.room
    (λ i. c.in_ok-make_room.ensures.same i ∙ c.empty-taken_set.ensures.none i) (λ i. c.in_ok-make_room-2.ensures.same i ∙ c.empty-bases.ensures.none i))

pub returns : goal.returns
returns g c =
    let items : c.push.new.self.items ≡ free_cell c.args.value ∷ [] = search rules in
    ap row_of items
