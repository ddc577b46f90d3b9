use Rattle.std.proofs.Common.{inl, inr, refl, arith}
use Rattle.pg_cells.specs.Inside.linked.Members.{goes_on}
use Rattle.pg_cells.proofs.LinkLaws.{none_between, none_down, below_most}
use Rattle.pg_cells.proofs.linked.links.sign_before.Goals as goal

pub loop-next-init : goal.loop-next-init
loop-next-init g c = let up = c.requires.sign.0 in record {
  less = omega arith;
  under = omega arith;
  next = λ q e. (c.sign_after-next.ensures.next q e, inl refl);
  free = λ q e z late lt. absurd (omega arith);
}

pub loop-next-preserved : goal.loop-next-preserved
loop-next-preserved g c =
    let under = c.loop-next.invariant.under in
    let within = c.sign_down-below.ensures.within in
    let to = within.1 in
    record {
      less = omega arith;
      under = omega arith;
      next = λ q e. (c.sign_after-next-in-loop-next.ensures.next q e, inr ((c.loop-next.invariant.next q e).0.found (omega arith)).1);
      free = λ q e.
          let told = c.requires.base q e in
          none_down (goes_on c.args.cells.now.values q) c.loop-next.below c.sign_down-below.result c.args.s (c.loop-next.invariant.free q e) (c.sign_down-below.ensures.most q told);
    }

pub loop-next-smaller : goal.loop-next-smaller
loop-next-smaller g c =
    let h = (c.loop-next.invariant.next c.requires.parent.0 c.requires.parent.1).0.found (omega arith) in
    let less = h.0 in
    omega arith

pub returns-then-low-below : goal.returns-then-low-below
returns-then-low-below g c q e =
    let told = c.requires.base q e in
    let under = c.loop-next.invariant.under in
    let within = c.sign_down-below.ensures.within in
    let to = within.1 in
    record {
      less = omega arith;
      there = inr (c.sign_down-below.ensures.there q told c.if-low-below.true);
      most = below_most (goes_on c.args.cells.now.values q) c.sign_down-below.result c.args.s
          (none_down (goes_on c.args.cells.now.values q) c.loop-next.below c.sign_down-below.result c.args.s (c.loop-next.invariant.free q e) (c.sign_down-below.ensures.most q told));
    }

pub returns-after-loop-next : goal.returns-after-loop-next
returns-after-loop-next g c q e =
    let h = c.loop-next.invariant.next q e in
    record { less = c.loop-next.invariant.less; there = h.1; most = none_between (goes_on c.args.cells.now.values q) c.loop-next.before c.loop-next.next c.args.s h.0 (inl c.loop-next-test.false) }

pub returns-else-next-s : goal.returns-else-next-s
returns-else-next-s g c q e =
    let h = c.loop-next.invariant.next q e in
    record { less = c.loop-next.invariant.less; there = h.1; most = none_between (goes_on c.args.cells.now.values q) c.loop-next.before c.loop-next.next c.args.s h.0 (inr c.if-next-s.false) }

pub sign_after-next-requires : goal.sign_after-next-requires
sign_after-next-requires g c = record { links = c.requires.links; parent = c.requires.parent; base = c.requires.base; sign = λ q e. inl refl }

pub overflow_sub-below : goal.overflow_sub-below
overflow_sub-below g c = c.requires.sign.0

pub sign_down-below-requires : goal.sign_down-below-requires
sign_down-below-requires g c = let sub = c.saturating_sub-low.ensures in let under = c.loop-next.invariant.under in let high = c.requires.sign.1 in
    record { held = c.requires.links.held; base = (c.requires.parent.0, c.requires.base c.requires.parent.0 c.requires.parent.1); low = omega arith; high = omega arith }

pub sign_after-next-requires-in-loop-next : goal.sign_after-next-requires-in-loop-next
sign_after-next-requires-in-loop-next g c = record { links = c.requires.links; parent = c.requires.parent; base = c.requires.base; sign = λ q e. inr ((c.loop-next.invariant.next q e).0.found (omega arith)).1 }
