use Rattle.std.proofs.Common.{◌+◌, take, sym, subst, arith}
use Rattle.std.proofs.lemmas.List.{take_all}
use Rattle.pg_cells.specs.Inside.families.Moves.{PutsSlots}
use Rattle.pg_cells.proofs.RowCells.{free_kept}
use Rattle.pg_cells.proofs.Slots.{slot_here, outside_here}
use Rattle.pg_cells.proofs.MoveSteps.{puts_none, puts_more}
use Rattle.pg_cells.proofs.families.moves.put.Goals as goal

pub take-requires-clause-cell : goal.take-requires-clause-cell
take-requires-clause-cell g c =
    let here = slot_here c.args.slots.now c.loop-slot.slot-index c.slot-item.result c.slot-item.is c.loop-slot-test.true c.requires.distinct in
    let h = c.requires.free c.slot-item.result.sign c.slot-item.result here.1 in omega (arith, h.0)

pub take-requires-clause-free : goal.take-requires-clause-free
take-requires-clause-free g c =
    let here = slot_here c.args.slots.now c.loop-slot.slot-index c.slot-item.result c.slot-item.is c.loop-slot-test.true c.requires.distinct in
    let h = c.requires.free c.slot-item.result.sign c.slot-item.result here.1 in
    free_kept c.args.store.now c.loop-slot.store (c.args.base + c.slot-item.result.sign) c.loop-slot.invariant.others.size
    (c.loop-slot.invariant.others.signs (c.args.base + c.slot-item.result.sign) (outside_here c.args.base (take c.loop-slot.slot-index c.args.slots.now) c.slot-item.result.sign here.0)) h.1

pub take-requires-clause-sign : goal.take-requires-clause-sign
take-requires-clause-sign g c z =
    let here = slot_here c.args.slots.now c.loop-slot.slot-index c.slot-item.result c.slot-item.is c.loop-slot-test.true c.requires.distinct in
    let h = c.requires.free c.slot-item.result.sign c.slot-item.result here.1 in omega (arith, h.0)

pub take-requires-clause-child : goal.take-requires-clause-child
take-requires-clause-child g c =
    let here = slot_here c.args.slots.now c.loop-slot.slot-index c.slot-item.result c.slot-item.is c.loop-slot-test.true c.requires.distinct in
    let h = c.requires.free c.slot-item.result.sign c.slot-item.result here.1 in
    let size = c.loop-slot.invariant.others.size in omega (arith, h.2)

pub loop-slot-preserved : goal.loop-slot-preserved
loop-slot-preserved g c =
    let here = slot_here c.args.slots.now c.loop-slot.slot-index c.slot-item.result c.slot-item.is c.loop-slot-test.true c.requires.distinct in
    subst (PutsSlots c.args.store.now c.take.new.self c.args.base) (sym here.2)
    (puts_more c.args.store.now c.loop-slot.store c.take.new.self c.args.base (take c.loop-slot.slot-index c.args.slots.now) c.slot-item.result here.0 c.loop-slot.invariant c.take.ensures.takes)

pub loop-slot-init : goal.loop-slot-init
loop-slot-init g c = puts_none c.args.store.now c.args.base

pub returns : goal.returns
returns g c =
    subst (PutsSlots c.args.store.now c.loop-slot.store c.args.base) (take_all c.loop-slot.slot-index c.args.slots.now (omega arith)) c.loop-slot.invariant

pub take-requires-clause-sign_fits : goal.take-requires-clause-sign_fits
take-requires-clause-sign_fits g c =
    let here = slot_here c.args.slots.now c.loop-slot.slot-index c.slot-item.result c.slot-item.is c.loop-slot-test.true c.requires.distinct in
    c.requires.sign_fits c.slot-item.result.sign c.slot-item.result here.1

pub take-requires-clause-fits : goal.take-requires-clause-fits
take-requires-clause-fits g c =
    let here = slot_here c.args.slots.now c.loop-slot.slot-index c.slot-item.result c.slot-item.is c.loop-slot-test.true c.requires.distinct in
    c.requires.fits c.slot-item.result.sign c.slot-item.result here.1
