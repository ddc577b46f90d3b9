use Rattle.std.proofs.Common.{◌≤◌, ◌∷◌, length, ap, subst, arith}
use Rattle.pg_types.specs.Inside.Placing.{IsLeast}
use Rattle.pg_cells.specs.declared.store.member.Member.{Member}
use Rattle.pg_cells.specs.Inside.store.CellRows.{Row}
use Rattle.pg_cells.specs.Inside.store.Fit.{fits_row, slot_signs}
use Rattle.pg_cells.specs.Inside.store.Writes.{SetsChild}
use Rattle.pg_cells.specs.Inside.families.Moves.{PutsSlots}
use Rattle.pg_cells.proofs.BlockedLaws.{blocked_fits, blocked_after}
use Rattle.pg_cells.proofs.PlacedRoom.{dropped_size, room_within, slots_within, room_fits, can_put, can_take, parent_stays}
use Rattle.pg_cells.proofs.families.place.place_family.Goals as goal

pub give_up-requires-clause-taken : goal.give_up-requires-clause-taken
give_up-requires-clause-taken g c x slot at = let stands = c.requires.can.stand x slot at in (stands.0, stands.2)

pub least_base-base-requires-clause-room : goal.least_base-base-requires-clause-room
least_base-base-requires-clause-room g c = record {
  positive = c.requires.can.sign.0;
  within =
      let within = room_within c.args.signs c.args.store.now c.give_up.new.store c.drop_base.new.store c.args.was c.args.slots.now c.args.slot c.args.parent
      c.requires.can c.give_up.ensures c.drop_base.ensures c.top-top.result c.top-top.ensures c.max.result c.max.ensures in
      let le : c.args.slot.sign ≤ c.args.signs = c.requires.can.sign.1 in
      omega arith;
  wide = slots_within c.args.signs c.args.store.now c.give_up.new.store c.drop_base.new.store c.args.was c.args.slots.now
      c.args.slot c.args.parent c.requires.can c.give_up.ensures c.drop_base.ensures c.top-top.result c.top-top.ensures c.max.result c.max.ensures;
  fits = room_fits c.args.signs c.args.store.now c.give_up.new.store c.drop_base.new.store c.args.was c.args.slots.now
      c.args.slot c.args.parent c.requires.can c.give_up.ensures c.drop_base.ensures c.top-top.result c.top-top.ensures c.max.result c.max.ensures;
}

pub put-requires-clause-free : goal.put-requires-clause-free
put-requires-clause-free g c = rw (c.least_base-base.ensures.same) (can_put c.args.signs c.args.store.now c.give_up.new.store c.drop_base.new.store
    c.args.was c.args.slots.now c.args.slot c.args.parent c.requires.can c.give_up.ensures c.drop_base.ensures c.top-top.result c.top-top.ensures
    c.max.result c.max.ensures c.least_base-base.result c.least_base-base.ensures.room c.least_base-base.ensures.least.meets)

pub take-requires-clause-free : goal.take-requires-clause-free
take-requires-clause-free g c = can_take c.args.signs c.args.store.now c.give_up.new.store c.drop_base.new.store c.args.was c.args.slots.now c.args.slot
    c.args.parent c.requires.can c.give_up.ensures c.drop_base.ensures c.top-top.result c.top-top.ensures c.max.result c.max.ensures c.least_base-base.result
    c.least_base-base.ensures.room c.least_base-base.ensures.least.meets c.put.new.store
    (subst (λ r. PutsSlots r c.put.new.store c.least_base-base.result c.args.slots.now) c.least_base-base.ensures.same c.put.ensures)

pub set_child-requires-clause-taken : goal.set_child-requires-clause-taken
set_child-requires-clause-taken g c =
    rw (c.set_sought.ensures) (parent_stays c.args.signs c.args.store.now c.give_up.new.store c.drop_base.new.store c.args.was c.args.slots.now c.args.slot
    c.args.parent c.requires.can c.give_up.ensures c.drop_base.ensures c.top-top.result c.top-top.ensures c.max.result c.max.ensures c.least_base-base.result
    c.least_base-base.ensures.room c.least_base-base.ensures.least.meets c.put.new.store
    (subst (λ r. PutsSlots r c.put.new.store c.least_base-base.result c.args.slots.now) c.least_base-base.ensures.same c.put.ensures) c.take.new.self
    c.set_base.new.self c.take.ensures.takes c.set_base.ensures.sets)

pub least_base-base-requires-clause-tried : goal.least_base-base-requires-clause-tried
least_base-base-requires-clause-tried g c k low lt =
    let tried = c.tried_up_to-tried.ensures (omega arith) in
    blocked_fits c.args.signs c.args.store.now c.give_up.new.store c.drop_base.new.store c.args.was c.args.slots.now c.args.slot c.args.parent c.requires.can c.give_up.ensures c.drop_base.ensures
    c.sought_from-sought.result tried.0 c.sought_from-sought.ensures k (let up = tried.1 in omega arith) (let is = tried.2 in omega arith)

pub set_sought-requires : goal.set_sought-requires
set_sought-requires g c =
    blocked_after c.args.signs c.args.store.now c.give_up.new.store c.drop_base.new.store c.args.was c.args.slots.now c.args.slot c.args.parent c.requires.can c.give_up.ensures c.drop_base.ensures
    c.top-top.result c.top-top.ensures c.least_base-base.result c.lowest_base-low.result (let le = c.least_base-base.ensures.room in let is = c.max.ensures in omega arith)
    (let from = c.least_base-base.ensures.least.from in let up = c.lowest_base-low.ensures.positive in omega arith) c.least_base-base.ensures.least
    c.put.new.store c.take.new.self c.set_base.new.self (subst (λ r. PutsSlots r c.put.new.store c.least_base-base.result c.args.slots.now) c.least_base-base.ensures.same c.put.ensures)
    c.take.ensures.takes c.set_base.ensures.sets

pub give_up-requires-clause-distinct : goal.give_up-requires-clause-distinct
give_up-requires-clause-distinct g c = c.requires.can.distinct

pub give_up-requires-clause-base : goal.give_up-requires-clause-base
give_up-requires-clause-base g c = let was = c.requires.was in let small = c.requires.row.small in omega arith

pub put-requires-clause-distinct : goal.put-requires-clause-distinct
put-requires-clause-distinct g c = c.requires.can.distinct

pub take-requires-clause-cell : goal.take-requires-clause-cell
take-requires-clause-cell g c = let sign = c.requires.can.sign in omega (arith, sign.0)

pub take-requires-clause-sign : goal.take-requires-clause-sign
take-requires-clause-sign g c z = let sign = c.requires.can.sign in omega (arith, sign.0)

pub drop_base-requires : goal.drop_base-requires
drop_base-requires g c = let was = c.requires.was in let size = c.give_up.ensures.others.size in omega arith

pub returns-clause-row : goal.returns-clause-row
returns-clause-row g c = c.set_child.ensures.row

pub returns-clause-moved : goal.returns-clause-moved
returns-clause-moved g c = record {
  gave = c.give_up.new.store;
  dropped = c.drop_base.new.store;
  settled = c.put.new.store;
  took = c.take.new.self;
  flagged = c.set_base.new.self;
  gives = c.give_up.ensures;
  drops = c.drop_base.ensures;
  top = c.top-top.result;
  is_top = c.top-top.ensures;
  least = subst (λ low. IsLeast (fits_row c.drop_base.new.store (c.args.slot.sign ∷ slot_signs c.args.slots.now)) low c.least_base-base.result)
      c.lowest_base-low.ensures.is c.least_base-base.ensures.least;
  near = let room = c.least_base-base.ensures.room in let is = c.max.ensures in omega arith;
  puts = subst (λ r. PutsSlots r c.put.new.store c.least_base-base.result c.args.slots.now) c.least_base-base.ensures.same c.put.ensures;
  takes = c.take.ensures.takes;
  flags = c.set_base.ensures.sets;
  links = subst (λ r. SetsChild r c.set_child.new.self c.args.parent c.least_base-base.result) c.set_sought.ensures c.set_child.ensures.sets;
}

pub put-requires-clause-base : goal.put-requires-clause-base
put-requires-clause-base g c =
    let size = dropped_size c.args.signs c.args.store.now c.give_up.new.store c.drop_base.new.store c.args.was c.args.slots.now c.args.slot c.args.parent
    c.requires.can c.give_up.ensures c.drop_base.ensures in
    let within = room_within c.args.signs c.args.store.now c.give_up.new.store c.drop_base.new.store c.args.was c.args.slots.now c.args.slot c.args.parent
    c.requires.can c.give_up.ensures c.drop_base.ensures c.top-top.result c.top-top.ensures c.max.result c.max.ensures in
    let room = c.least_base-base.ensures.room in
    let small = c.requires.row.small in
    omega arith

pub take-requires-clause-child : goal.take-requires-clause-child
take-requires-clause-child g c =
    let within = room_within c.args.signs c.args.store.now c.give_up.new.store c.drop_base.new.store c.args.was c.args.slots.now c.args.slot c.args.parent
    c.requires.can c.give_up.ensures c.drop_base.ensures c.top-top.result c.top-top.ensures c.max.result c.max.ensures in
    let same = ap (λ (r : Row (Member g.row.V.Denot)). length r.signs) c.least_base-base.ensures.same in
    let child = c.requires.can.child in
    let put = c.put.ensures.others.size in
    omega arith

pub set_base-requires : goal.set_base-requires
set_base-requires g c =
    let within = room_within c.args.signs c.args.store.now c.give_up.new.store c.drop_base.new.store c.args.was c.args.slots.now c.args.slot c.args.parent
    c.requires.can c.give_up.ensures c.drop_base.ensures c.top-top.result c.top-top.ensures c.max.result c.max.ensures in
    let same = ap (λ (r : Row (Member g.row.V.Denot)). length r.signs) c.least_base-base.ensures.same in
    let room = c.least_base-base.ensures.room in
    let put = c.put.ensures.others.size in
    let take = c.take.ensures.takes.elsewhere.size in
    omega arith

pub set_child-requires-clause-child : goal.set_child-requires-clause-child
set_child-requires-clause-child g c =
    let within = room_within c.args.signs c.args.store.now c.give_up.new.store c.drop_base.new.store c.args.was c.args.slots.now c.args.slot c.args.parent
    c.requires.can c.give_up.ensures c.drop_base.ensures c.top-top.result c.top-top.ensures c.max.result c.max.ensures in
    let same = ap (λ (r : Row (Member g.row.V.Denot)). length r.signs) c.least_base-base.ensures.same in
    let room = c.least_base-base.ensures.room in
    let put = c.put.ensures.others.size in
    let take = c.take.ensures.takes.elsewhere.size in
    let flag = c.set_base.ensures.sets.size in
    let sought = ap (λ (r : Row (Member g.row.V.Denot)). length r.signs) c.set_sought.ensures in
    omega arith

pub tried_up_to-tried-requires : goal.tried_up_to-tried-requires
tried_up_to-tried-requires g c = let was = c.requires.was in let small = c.requires.row.small in omega arith

pub overflow_cast-slot : goal.overflow_cast-slot
overflow_cast-slot g c = let le = c.requires.can.sign.1 in let few = c.requires.signs in record { fits = omega arith }

pub overflow_add-base : goal.overflow_add-base
overflow_add-base g c =
    let within = room_within c.args.signs c.args.store.now c.give_up.new.store c.drop_base.new.store c.args.was c.args.slots.now c.args.slot c.args.parent
    c.requires.can c.give_up.ensures c.drop_base.ensures c.top-top.result c.top-top.ensures c.max.result c.max.ensures in
    let size = dropped_size c.args.signs c.args.store.now c.give_up.new.store c.drop_base.new.store c.args.was c.args.slots.now c.args.slot c.args.parent
    c.requires.can c.give_up.ensures c.drop_base.ensures in
    let room = c.least_base-base.ensures.room in
    let le = c.requires.can.sign.1 in
    let few = c.requires.signs in
    let small = c.requires.row.small in
    record { fits = omega arith }

pub put-requires-clause-sign_fits : goal.put-requires-clause-sign_fits
put-requires-clause-sign_fits g c x slot at =
    let le = (c.requires.can.stand x slot at).1 in
    let few = c.requires.signs in omega arith

pub put-requires-clause-fits : goal.put-requires-clause-fits
put-requires-clause-fits g c = c.requires.all_fit

pub take-requires-clause-sign_fits : goal.take-requires-clause-sign_fits
take-requires-clause-sign_fits g c = let le = c.requires.can.sign.1 in let few = c.requires.signs in omega arith

pub take-requires-clause-fits : goal.take-requires-clause-fits
take-requires-clause-fits g c = c.requires.fits

pub least_base-base-requires-clause-low : goal.least_base-base-requires-clause-low
least_base-base-requires-clause-low g c = (c.lowest_base-low.ensures.positive, (let low = c.lowest_base-low.ensures.within in let is = c.max.ensures in omega arith))
