use Rattle.std.proofs.lemmas.Result.{err_from_is_err_and}
use Rattle.std.proofs.Common.{◌≡◌, ℕ, ◌+◌, ◌≤◌, nat_eq, [], refl, sym, ◌∙◌, subst, arith}
use Rattle.pg_cells.specs.Inside.store.CellRows.{sign_at, child_at}
use Rattle.pg_cells.specs.Inside.linked.Members.{ArePassing}
use Rattle.pg_cells.specs.Inside.families.Moves.{AllFit, AreSlotsOf}
use Rattle.pg_cells.proofs.AddTrie.{parent_taken, child_within, moved_near}
use Rattle.pg_cells.proofs.AddedSlot.{joining_free, joining_trie, joining_cell, moving_can, moving_trie, moving_cell}
use Rattle.pg_cells.proofs.families.adding.add_slot.Goals as goal

pub child-base-requires : goal.child-base-requires
child-base-requires g c =
    let can = c.requires.can.2 in
    parent_taken c.args.signs c.args.store.now c.make_room.new.self c.requires.can.0 can.trie c.in_ok-make_room.ensures.extends c.requires.can.1
    c.args.parent can.at c.args.slot.sign c.requires.sign.0 c.requires.sign.1 can.lacks (child_at c.make_room.new.self c.args.parent) refl

pub joins-requires : goal.joins-requires
joins-requires g c =
    let can = c.requires.can.2 in
    let within = child_within c.args.signs c.args.store.now c.make_room.new.self c.requires.can.0 can.trie c.in_ok-make_room.ensures.extends
    c.requires.can.1 c.args.parent can.at c.args.slot.sign c.requires.sign.0 c.requires.sign.1 can.lacks c.child-base.result c.child-base.ensures c.in_ok-make_room.ensures.row.bases in
    let small = c.in_ok-make_room.ensures.row.small in omega arith

pub overflow_add-cell : goal.overflow_add-cell
overflow_add-cell g c =
    let can = c.requires.can.2 in
    let within = child_within c.args.signs c.args.store.now c.make_room.new.self c.requires.can.0 can.trie c.in_ok-make_room.ensures.extends
    c.requires.can.1 c.args.parent can.at c.args.slot.sign c.requires.sign.0 c.requires.sign.1 can.lacks c.child-base.result c.child-base.ensures c.in_ok-make_room.ensures.row.bases in
    let small = c.in_ok-make_room.ensures.row.small in let high = c.requires.sign.1 in let few = c.requires.signs in omega arith

pub take-requires-clause-free : goal.take-requires-clause-free
take-requires-clause-free g c =
    joining_free c.args.signs c.args.store.now c.make_room.new.self c.requires.can.0 c.requires.can.1 c.args.parent c.args.slot.sign
    c.args.members.now c.requires.can.2 c.in_ok-make_room.ensures.extends c.requires.sign.0 c.requires.sign.1 c.child-base.result c.child-base.ensures
    (sym c.joins.ensures ∙ c.if-joins.true) c.in_ok-make_room.ensures.room

pub returns-then-joins-clause-trie : goal.returns-then-joins-clause-trie
returns-then-joins-clause-trie g c t q can =
    joining_trie c.args.signs c.args.store.now c.make_room.new.self t q c.args.parent c.args.slot.sign c.args.members.now can
    c.in_ok-make_room.ensures.extends c.requires.sign.0 c.requires.sign.1 c.child-base.result c.child-base.ensures
    (sym c.joins.ensures ∙ c.if-joins.true) c.take.new.self c.args.slot.value c.args.slot.child c.requires.child c.take.ensures.takes

pub returns-then-joins-clause-cell : goal.returns-then-joins-clause-cell
returns-then-joins-clause-cell g c t q can =
    joining_cell c.args.signs c.args.store.now c.make_room.new.self t q c.args.parent c.args.slot.sign c.args.members.now can
    c.in_ok-make_room.ensures.extends c.requires.sign.0 c.requires.sign.1 c.child-base.result c.child-base.ensures
    (sym c.joins.ensures ∙ c.if-joins.true)

pub place_family-placed-requires-clause-can : goal.place_family-placed-requires-clause-can
place_family-placed-requires-clause-can g c =
    moving_can c.args.signs c.args.store.now c.make_room.new.self c.requires.can.0 c.requires.can.1 c.args.parent c.args.slot.sign
    c.args.members.now c.requires.can.2 c.in_ok-make_room.ensures.extends c.requires.sign.0 c.requires.sign.1 c.child-base.result c.child-base.ensures
    (sym c.joins.ensures ∙ c.if-joins.false) c.as_slice-slots.result.now (λ e. c.as_slice-slots.ensures.value ∙ c.in_ok-collect.ensures.none e)
    (λ m small are. subst (AreSlotsOf m c.make_room.new.self c.child-base.result) (sym c.as_slice-slots.ensures.value) (c.in_ok-collect.ensures.some m small are))
    c.args.slot refl c.requires.child c.in_ok-make_room.ensures.row.bases c.in_ok-make_room.ensures.room

pub place_family-placed-requires-clause-was : goal.place_family-placed-requires-clause-was
place_family-placed-requires-clause-was g c =
    let can = c.requires.can.2 in
    child_within c.args.signs c.args.store.now c.make_room.new.self c.requires.can.0 can.trie c.in_ok-make_room.ensures.extends c.requires.can.1
    c.args.parent can.at c.args.slot.sign c.requires.sign.0 c.requires.sign.1 can.lacks c.child-base.result c.child-base.ensures c.in_ok-make_room.ensures.row.bases

pub overflow_add-result : goal.overflow_add-result
overflow_add-result g c =
    let near = moved_near c.args.signs c.make_room.new.self c.place_family-placed.new.store c.child-base.result c.place_family-placed.result
    c.as_slice-slots.result.now c.args.slot c.args.parent c.place_family-placed.ensures.moved in
    let small = c.in_ok-make_room.ensures.row.small in let high = c.requires.sign.1 in let few = c.requires.signs in omega arith

pub returns-clause-trie : goal.returns-clause-trie
returns-clause-trie g c t q can =
    let none : c.args.members.now ≡ [] → c.as_slice-slots.result.now ≡ [] = λ e. c.as_slice-slots.ensures.value ∙ c.in_ok-collect.ensures.none e in
    let some : (m : ℕ) → ((i : ℕ) → sign_at c.make_room.new.self i ≤ m) → ArePassing (λ x. nat_eq (sign_at c.make_room.new.self (c.child-base.result + x)) x) c.args.members.now
    → AreSlotsOf m c.make_room.new.self c.child-base.result c.as_slice-slots.result.now =
    λ m small are. subst (AreSlotsOf m c.make_room.new.self c.child-base.result) (sym c.as_slice-slots.ensures.value) (c.in_ok-collect.ensures.some m small are) in
    let place = moving_can c.args.signs c.args.store.now c.make_room.new.self t q c.args.parent c.args.slot.sign c.args.members.now can
    c.in_ok-make_room.ensures.extends c.requires.sign.0 c.requires.sign.1 c.child-base.result c.child-base.ensures
    (sym c.joins.ensures ∙ c.if-joins.false) c.as_slice-slots.result.now none some
    c.args.slot refl c.requires.child c.in_ok-make_room.ensures.row.bases c.in_ok-make_room.ensures.room in
    moving_trie c.args.signs c.args.store.now c.make_room.new.self t q c.args.parent c.args.slot.sign c.args.members.now can
    c.in_ok-make_room.ensures.extends c.requires.sign.0 c.requires.sign.1 c.child-base.result c.child-base.ensures
    (sym c.joins.ensures ∙ c.if-joins.false) c.as_slice-slots.result.now none some
    c.place_family-placed.new.store c.place_family-placed.result c.args.slot refl place c.place_family-placed.ensures.moved

pub returns-clause-cell : goal.returns-clause-cell
returns-clause-cell g c t q can =
    let none : c.args.members.now ≡ [] → c.as_slice-slots.result.now ≡ [] = λ e. c.as_slice-slots.ensures.value ∙ c.in_ok-collect.ensures.none e in
    let some : (m : ℕ) → ((i : ℕ) → sign_at c.make_room.new.self i ≤ m) → ArePassing (λ x. nat_eq (sign_at c.make_room.new.self (c.child-base.result + x)) x) c.args.members.now
    → AreSlotsOf m c.make_room.new.self c.child-base.result c.as_slice-slots.result.now =
    λ m small are. subst (AreSlotsOf m c.make_room.new.self c.child-base.result) (sym c.as_slice-slots.ensures.value) (c.in_ok-collect.ensures.some m small are) in
    let place = moving_can c.args.signs c.args.store.now c.make_room.new.self t q c.args.parent c.args.slot.sign c.args.members.now can
    c.in_ok-make_room.ensures.extends c.requires.sign.0 c.requires.sign.1 c.child-base.result c.child-base.ensures
    (sym c.joins.ensures ∙ c.if-joins.false) c.as_slice-slots.result.now none some
    c.args.slot refl c.requires.child c.in_ok-make_room.ensures.row.bases c.in_ok-make_room.ensures.room in
    moving_cell c.args.signs c.args.store.now c.make_room.new.self t q c.args.parent c.args.slot.sign c.args.members.now can
    c.in_ok-make_room.ensures.extends c.requires.sign.0 c.requires.sign.1 c.child-base.result c.child-base.ensures
    (sym c.joins.ensures ∙ c.if-joins.false) c.as_slice-slots.result.now none some
    c.place_family-placed.new.store c.place_family-placed.result c.args.slot refl place c.place_family-placed.ensures.moved

pub returns-then-joins-clause-row : goal.returns-then-joins-clause-row
returns-then-joins-clause-row g c = c.take.ensures.row

pub place_family-placed-requires-clause-row : goal.place_family-placed-requires-clause-row
place_family-placed-requires-clause-row g c = c.in_ok-make_room.ensures.row

pub returns-clause-row : goal.returns-clause-row
returns-clause-row g c = c.place_family-placed.ensures.row

pub overflow_add-signs : goal.overflow_add-signs
overflow_add-signs g c = let few = c.requires.signs in record { fits = omega arith }

pub make_room-requires : goal.make_room-requires
make_room-requires g c = let few = c.requires.signs in omega arith

pub returns-in_err-make_room-clause-trie : goal.returns-in_err-make_room-clause-trie
returns-in_err-make_room-clause-trie g c t q can = let err = err_from_is_err_and c.from_residual.result c.from_residual.ensures.1 in rw (err.1) tt

pub returns-in_err-make_room-clause-cell : goal.returns-in_err-make_room-clause-cell
returns-in_err-make_room-clause-cell g c t q can = let err = err_from_is_err_and c.from_residual.result c.from_residual.ensures.1 in rw (err.1) tt

pub returns-in_err-make_room-clause-err : goal.returns-in_err-make_room-clause-err
returns-in_err-make_room-clause-err g c = let err = err_from_is_err_and c.from_residual.result c.from_residual.ensures.1 in rw (err.1) c.in_err-make_room.ensures.extends

pub returns-in_err-make_room-clause-row : goal.returns-in_err-make_room-clause-row
returns-in_err-make_room-clause-row g c = c.in_err-make_room.ensures.row

pub overflow_cast-cell : goal.overflow_cast-cell
overflow_cast-cell g c = let high = c.requires.sign.1 in let few = c.requires.signs in record { fits = omega arith }

pub take-requires-clause-cell : goal.take-requires-clause-cell
take-requires-clause-cell g c = let up = c.requires.sign.0 in omega arith

pub take-requires-clause-sign : goal.take-requires-clause-sign
take-requires-clause-sign g c z = let up = c.requires.sign.0 in omega arith

pub take-requires-clause-child : goal.take-requires-clause-child
take-requires-clause-child g c =
    let can = c.requires.can.2 in
    let within = child_within c.args.signs c.args.store.now c.make_room.new.self c.requires.can.0 can.trie c.in_ok-make_room.ensures.extends
    c.requires.can.1 c.args.parent can.at c.args.slot.sign c.requires.sign.0 c.requires.sign.1 can.lacks c.child-base.result c.child-base.ensures c.in_ok-make_room.ensures.row.bases in
    let small = c.in_ok-make_room.ensures.row.small in
    let none = c.requires.child in omega arith

pub returns-then-joins-clause-err : goal.returns-then-joins-clause-err
returns-then-joins-clause-err g c = tt

pub collect-requires-clause-base : goal.collect-requires-clause-base
collect-requires-clause-base g c =
    let can = c.requires.can.2 in
    let within = child_within c.args.signs c.args.store.now c.make_room.new.self c.requires.can.0 can.trie c.in_ok-make_room.ensures.extends
    c.requires.can.1 c.args.parent can.at c.args.slot.sign c.requires.sign.0 c.requires.sign.1 can.lacks c.child-base.result c.child-base.ensures c.in_ok-make_room.ensures.row.bases in
    let small = c.in_ok-make_room.ensures.row.small in
    omega arith

pub collect-requires-clause-members : goal.collect-requires-clause-members
collect-requires-clause-members g c = c.requires.positive

pub returns-in_err-collect-clause-trie : goal.returns-in_err-collect-clause-trie
returns-in_err-collect-clause-trie g c t q can = let err = err_from_is_err_and c.from_residual-in_err-collect.result c.from_residual-in_err-collect.ensures.1 in rw (err.1) tt

pub returns-in_err-collect-clause-cell : goal.returns-in_err-collect-clause-cell
returns-in_err-collect-clause-cell g c t q can = let err = err_from_is_err_and c.from_residual-in_err-collect.result c.from_residual-in_err-collect.ensures.1 in rw (err.1) tt

pub returns-in_err-collect-clause-err : goal.returns-in_err-collect-clause-err
returns-in_err-collect-clause-err g c = let err = err_from_is_err_and c.from_residual-in_err-collect.result c.from_residual-in_err-collect.ensures.1 in rw (err.1) c.in_ok-make_room.ensures.extends

pub returns-in_err-collect-clause-row : goal.returns-in_err-collect-clause-row
returns-in_err-collect-clause-row g c = c.in_ok-make_room.ensures.row

pub place_family-placed-requires-clause-signs : goal.place_family-placed-requires-clause-signs
place_family-placed-requires-clause-signs g c = c.requires.signs

pub overflow_cast-result : goal.overflow_cast-result
overflow_cast-result g c = let high = c.requires.sign.1 in let few = c.requires.signs in record { fits = omega arith }

pub returns-clause-err : goal.returns-clause-err
returns-clause-err g c = tt

pub take-requires-clause-sign_fits : goal.take-requires-clause-sign_fits
take-requires-clause-sign_fits g c = let le = c.requires.sign.1 in let few = c.requires.signs in omega arith

pub take-requires-clause-fits : goal.take-requires-clause-fits
take-requires-clause-fits g c = c.requires.fits

pub place_family-placed-requires-clause-fits : goal.place_family-placed-requires-clause-fits
place_family-placed-requires-clause-fits g c = c.requires.fits

pub place_family-placed-requires-clause-all_fit : goal.place_family-placed-requires-clause-all_fit
place_family-placed-requires-clause-all_fit g c = subst AllFit (sym c.as_slice-slots.ensures.value) c.in_ok-collect.ensures.fits
