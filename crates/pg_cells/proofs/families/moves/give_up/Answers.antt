use Rattle.std.proofs.Common.{◌+◌, take, sym, subst, ◌∙◌, arith}
use Rattle.std.proofs.lemmas.List.{take_all}
use Rattle.pg_cells.specs.Inside.families.Moves.{GivesUp}
use Rattle.pg_cells.proofs.Slots.{slot_here, outside_here}
use Rattle.pg_cells.proofs.MoveSteps.{gives_none, gives_more}
use Rattle.pg_cells.proofs.families.moves.give_up.Goals as goal

pub free-requires-clause-cell : goal.free-requires-clause-cell
free-requires-clause-cell g c =
    let here = slot_here c.args.slots.now c.loop-held.held-index c.held-item.result c.held-item.is c.loop-held-test.true c.requires.distinct in
    let h = c.requires.taken c.held-item.result.sign c.held-item.result here.1 in omega (arith, h.0)

pub free-requires-clause-taken : goal.free-requires-clause-taken
free-requires-clause-taken g c z =
    let here = slot_here c.args.slots.now c.loop-held.held-index c.held-item.result c.held-item.is c.loop-held-test.true c.requires.distinct in
    let h = c.requires.taken c.held-item.result.sign c.held-item.result here.1 in
    h.1 (sym (c.loop-held.invariant.others.signs (c.args.base + c.held-item.result.sign) (outside_here c.args.base (take c.loop-held.held-index c.args.slots.now) c.held-item.result.sign here.0)) ∙ z)

pub loop-held-preserved : goal.loop-held-preserved
loop-held-preserved g c =
    let here = slot_here c.args.slots.now c.loop-held.held-index c.held-item.result c.held-item.is c.loop-held-test.true c.requires.distinct in
    subst (GivesUp c.args.store.now c.free.new.self c.args.base) (sym here.2)
    (gives_more c.args.store.now c.loop-held.store c.free.new.self c.args.base (take c.loop-held.held-index c.args.slots.now) c.held-item.result here.0 c.loop-held.invariant c.free.ensures.frees)

pub loop-held-init : goal.loop-held-init
loop-held-init g c = gives_none c.args.store.now c.args.base

pub returns : goal.returns
returns g c =
    subst (GivesUp c.args.store.now c.loop-held.store c.args.base) (take_all c.loop-held.held-index c.args.slots.now (omega arith)) c.loop-held.invariant
