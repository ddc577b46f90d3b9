use Rattle.std.proofs.Common.{◌≡◌, length, get_or, ap, sym, subst, arith}
use Rattle.pg_cells.specs.Inside.families.Moves.{AllFit, AreSlotsOf}
use Rattle.pg_cells.specs.Inside.linked.Members.{number_before}
use Rattle.pg_cells.proofs.Collecting.{number_next, collected_none, collected_next, collected_end, last_within}
use Rattle.pg_cells.proofs.Slots.{fit_none}
use Rattle.pg_cells.proofs.families.moves.collect.Goals as goal

pub loop-sign-init : goal.loop-sign-init
loop-sign-init g c = record {
  none = λ z. c.clear.ensures.items;
  some = λ are. subst (AreSlotsOf 0 c.args.store.now c.args.base) (sym c.clear.ensures.items)
      (collected_none c.args.store.now c.args.base);
  fits = subst AllFit (sym c.clear.ensures.items) fit_none;
}

pub loop-sign-preserved : goal.loop-sign-preserved
loop-sign-preserved g c = record {
  none = λ z. absurd (let size = ap length z in omega arith);
  some = λ are.
      let each = are.each c.loop-sign.sign-index c.loop-sign-test.true in
      subst (λ k. AreSlotsOf k c.args.store.now c.args.base c.collect_sign.new.slots.items) (sym (number_next c.args.members.now c.loop-sign.sign-index))
      (collected_next c.args.store.now c.args.base (number_before c.args.members.now c.loop-sign.sign-index)
      (get_or c.args.members.now c.loop-sign.sign-index 0) c.loop-sign.slots.items c.collect_sign.new.slots.items
      each.1 each.0 (c.loop-sign.invariant.some are) c.in_ok-collect_sign.ensures.collects);
  fits = c.in_ok-collect_sign.ensures.fits c.loop-sign.invariant.fits;
}

pub returns-clause-fits : goal.returns-clause-fits
returns-clause-fits g c = c.loop-sign.invariant.fits

pub returns-clause-some : goal.returns-clause-some
returns-clause-some g c n small are =
    let at : c.loop-sign.sign-index ≡ length c.args.members.now = omega arith in
    collected_end c.args.store.now c.args.base (number_before c.args.members.now (length c.args.members.now)) n c.loop-sign.slots.items
    (last_within c.args.store.now c.args.base n c.args.members.now small are) are.last
    (subst (λ k. AreSlotsOf (number_before c.args.members.now k) c.args.store.now c.args.base c.loop-sign.slots.items) at (c.loop-sign.invariant.some are))

pub collect_sign-requires-clause-base : goal.collect_sign-requires-clause-base
collect_sign-requires-clause-base g c = c.requires.base

pub collect_sign-requires-clause-sign : goal.collect_sign-requires-clause-sign
collect_sign-requires-clause-sign g c = c.requires.members c.loop-sign.sign-index c.loop-sign-test.true
