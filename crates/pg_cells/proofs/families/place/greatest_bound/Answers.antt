use Rattle.std.proofs.Common.{◌≡◌, ◌<◌, ◌∷◌, suc, length, get_or, inl, inr, refl, sym, ap, ◌∙◌, arith}
use Rattle.std.proofs.lemmas.Bool.{cases_lt}
use Rattle.std.proofs.lemmas.List.{get_or-map, length-map}
use Rattle.pg_cells.specs.declared.store.fit.Slot.{Slot}
use Rattle.pg_cells.specs.declared.store.member.Member.{Member}
use Rattle.pg_cells.specs.Inside.store.Fit.{slot_signs}
use Rattle.pg_cells.proofs.BoundLaws.{not_free}
use Rattle.pg_cells.proofs.families.place.greatest_bound.Goals as goal

pub loop-slot-init : goal.loop-slot-init
loop-slot-init g c = λ b up lt. not_free c.args.store.now (c.args.sign ∷ slot_signs c.args.slots.now) 0 c.args.sign (omega arith) refl b (c.bound-bound.ensures b up lt)

pub loop-slot-preserved : goal.loop-slot-preserved
loop-slot-preserved g c = λ b up lt.
    let at : get_or (slot_signs c.args.slots.now) c.loop-slot.slot-index 0 ≡ c.slot-item.result.sign =
    get_or-map (λ x. x.sign) c.args.slots.now c.loop-slot.slot-index c.slot-item.result 0 c.loop-slot-test.true ∙ ap (λ (x : Slot (Member g.row.V.Denot)). x.sign) (sym c.slot-item.is) in
    let within : c.loop-slot.slot-index < length (slot_signs c.args.slots.now) = rw length-map c.loop-slot-test.true in
    elim (cases_lt b c.loop-slot.bound) [
      | inl below ↦ c.loop-slot.invariant b up below
      | inr above ↦
          not_free c.args.store.now (c.args.sign ∷ slot_signs c.args.slots.now) (suc c.loop-slot.slot-index) c.slot-item.result.sign (omega arith) at b
          (c.bound.ensures b up (omega (arith, c.max-bound.ensures)))
    ]
