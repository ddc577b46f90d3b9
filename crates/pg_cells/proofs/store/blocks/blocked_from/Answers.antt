use Rattle.std.proofs.Common.{◌≡◌, ◌<◌, length, get_or, sym, ap, ◌∙◌, arith}
use Rattle.std.specs.Int.{bit_at}
use Rattle.std.proofs.lemmas.List.{get_or-map, length-map, take_all}
use Rattle.std.proofs.lemmas.Nat.{or_lt}
use Rattle.std.proofs.lemmas.Nat.Bits.{bit_at_ones}
use Rattle.pg_cells.specs.declared.store.fit.Slot.{Slot}
use Rattle.pg_cells.specs.declared.store.member.Member.{Member}
use Rattle.pg_cells.specs.Inside.store.Fit.{slot_signs}
use Rattle.pg_cells.proofs.BlockSteps.{says_first, says_more, says_blocked, says_fits}
use Rattle.pg_cells.proofs.store.blocks.blocked_from.Goals as goal

pub loop-slot-init : goal.loop-slot-init
loop-slot-init g c = says_first c.args.taken.now.cells c.args.bases.now c.args.sign (slot_signs c.args.slots.now) c.args.base c.from-blocked.result c.from-blocked.ensures

pub returns-then-blocked-clause-fits : goal.returns-then-blocked-clause-fits
returns-then-blocked-clause-fits g c = λ j lt.
    let full : bit_at c.loop-slot.blocked j ≡ 1 = ap (λ n. bit_at n j) c.if-blocked.true ∙ bit_at_ones 64 j lt in
    says_blocked c.args.taken.now.cells c.args.bases.now c.args.sign (slot_signs c.args.slots.now) c.loop-slot.blocked c.args.base c.loop-slot.slot-index j lt c.loop-slot.invariant full

pub loop-slot-preserved : goal.loop-slot-preserved
loop-slot-preserved g c =
    let at : get_or (slot_signs c.args.slots.now) c.loop-slot.slot-index 0 ≡ c.slot-item.result.sign =
    get_or-map (λ x. x.sign) c.args.slots.now c.loop-slot.slot-index c.slot-item.result 0 c.loop-slot-test.true ∙ ap (λ (x : Slot (Member g.row.V.Denot)). x.sign) (sym c.slot-item.is) in
    let within : c.loop-slot.slot-index < length (slot_signs c.args.slots.now) = rw length-map c.loop-slot-test.true in
    says_more c.args.taken.now.cells c.args.bases.now c.args.sign (slot_signs c.args.slots.now) c.args.base c.loop-slot.blocked c.from-blocked-in-loop-slot.result c.loop-slot.slot-index c.slot-item.result.sign
    within at c.from-blocked-in-loop-slot.ensures c.loop-slot.invariant

pub returns-clause-fits : goal.returns-clause-fits
returns-clause-fits g c =
    let past = c.loop-slot-test.false in
    says_fits c.args.taken.now.cells c.args.bases.now c.args.sign (slot_signs c.args.slots.now) c.loop-slot.blocked c.from.result c.args.base c.loop-slot.slot-index
    (take_all c.loop-slot.slot-index (slot_signs c.args.slots.now) (omega (arith, length-map c.args.slots.now (λ x. x.sign)))) c.loop-slot.invariant c.from.ensures

pub returns-clause-small : goal.returns-clause-small
returns-clause-small g c = or_lt 64 c.loop-slot.blocked c.from.result (omega arith) (omega arith)
