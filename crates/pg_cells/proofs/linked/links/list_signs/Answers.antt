use Rattle.std.proofs.Common.{ℕ, ◌<◌, List, length, get_or, ap, sym, subst, ◌∙◌, arith, inl, inr, refl}
use Rattle.pg_cells.specs.Inside.linked.Members.{IsNext, goes_on, number_before}
use Rattle.pg_cells.proofs.LinkLaws.{passing_more, last_of_more}
use Rattle.pg_cells.proofs.linked.links.list_signs.Goals as goal

pub loop-next-init : goal.loop-next-init
loop-next-init g c = record {
  each = λ q e k lt. absurd (let size = ap length c.clear.ensures.items in omega arith);
  next = λ q e. subst (λ (xs : List ℕ). IsNext (goes_on c.args.cells.now.values q) (number_before xs (length xs)) c.sign_after-next.result)
      (sym c.clear.ensures.items) (c.sign_after-next.ensures.next q e);
  small = c.sign_after-next.ensures.fits;
}

pub loop-next-preserved : goal.loop-next-preserved
loop-next-preserved g c =
    let items = c.in_ok-push.ensures.items in
    record {
      each = λ q e.
          subst (λ (xs : List ℕ). (k : ℕ) → k < length xs → (0 < get_or xs k 0) × IsNext (goes_on c.args.cells.now.values q) (number_before xs k) (get_or xs k 0)) (sym items)
          (passing_more (goes_on c.args.cells.now.values q) c.loop-next.signs.items c.loop-next.next (c.loop-next.invariant.each q e) (omega arith) (c.loop-next.invariant.next q e));
      next = λ q e.
          subst (λ b. IsNext (goes_on c.args.cells.now.values q) b c.sign_after-next-in-loop-next.result)
          (sym (last_of_more c.loop-next.signs.items c.loop-next.next) ∙ ap (λ (xs : List ℕ). number_before xs (length xs)) (sym items))
          (c.sign_after-next-in-loop-next.ensures.next q e);
      small = c.sign_after-next-in-loop-next.ensures.fits;
    }

pub loop-next-smaller : goal.loop-next-smaller
loop-next-smaller g c =
    let h = (c.loop-next.invariant.next c.requires.parent.0 c.requires.parent.1).found (omega arith) in
    let less = h.0 in
    let last = last_of_more c.loop-next.signs.items c.loop-next.next in
    let same = ap (λ (xs : List ℕ). number_before xs (length xs)) c.in_ok-push.ensures.items in
    let small = c.loop-next.invariant.small in
    omega arith

pub returns-clause-positive : goal.returns-clause-positive
returns-clause-positive g c k lt = (c.loop-next.invariant.each c.requires.parent.0 c.requires.parent.1 k lt).0

pub returns-clause-signs : goal.returns-clause-signs
returns-clause-signs g c q e = record {
  each = c.loop-next.invariant.each q e;
  last = subst (IsNext (goes_on c.args.cells.now.values q) (number_before c.loop-next.signs.items (length c.loop-next.signs.items))) c.loop-next-test.false (c.loop-next.invariant.next q e);
}

pub sign_after-next-requires : goal.sign_after-next-requires
sign_after-next-requires g c = record { links = c.requires.links; parent = c.requires.parent; base = c.requires.base; sign = λ q e. inl refl }

pub sign_after-next-requires-in-loop-next : goal.sign_after-next-requires-in-loop-next
sign_after-next-requires-in-loop-next g c = record { links = c.requires.links; parent = c.requires.parent; base = c.requires.base; sign = λ q e. inr ((c.loop-next.invariant.next q e).found (omega arith)).1 }
