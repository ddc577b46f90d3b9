use Rattle.std.proofs.Common.{◌≡◌, ℕ, List, [], ◌∷◌, ◌++◌, Some, None, sym, subst, ◌∙◌, arith, rules, ◌+◌, ◌≤◌, length}
use Rattle.std.proofs.lemmas.List.{length_push}
use Rattle.pg_types.specs.Inside.Placing.{cell_of}
use Rattle.pg_cells.specs.Inside.linked.Members.{IsBefore}
use Rattle.pg_cells.proofs.LinkLaws.{goes_cell}
use Rattle.pg_cells.proofs.Walking.{sign_falls}
use Rattle.pg_trie.proofs.DeletingLaws.Pruning.{not_below, above_longer, to_start, to_step, next_goes, before_first, before_stays, next_before}
use Rattle.pg_types.specs.declared.limits.TheConstants.{PATTERN_SIGNS_MAX}
use Rattle.pg_trie.specs.Inside.PrunedFamilies.{PrunesTo}
use Rattle.pg_trie.proofs.deleting.prune.+prune_below.Goals as goal

-- where a longer string is short enough, there are more signs
some_more : (p : List ℕ) (s more : ℕ) → length (p ++ s ∷ []) ≤ PATTERN_SIGNS_MAX → PATTERN_SIGNS_MAX ≤ length p + more → 1 ≤ more
some_more p s more few room = omega (arith, length_push p s)

pub loop-s-init : goal.loop-s-init
loop-s-init t c = record {
  small = c.first_sign-s.type_inv;
  to = λ q e. to_start c.args.cells.now c.requires.held q c.first_sign-s.result (c.first_sign-s.ensures q e);
  goes = λ q e up. ((c.first_sign-s.ensures q e).found up).1;
  before = λ q e up. before_first c.args.cells.now q c.first_sign-s.result (c.first_sign-s.ensures q e) up;
}

pub step-requires : goal.step-requires
step-requires t c =
    let p = c.requires.cell.0 in
    let at = c.requires.cell.1.0 in
    let to = c.loop-s.invariant.to p at in
    let now_at : cell_of c.loop-s.cells.families p ≡ Some c.args.cell = (to.elsewhere p (not_below p)).1 ∙ at in
    let cell = goes_cell c.loop-s.cells to.held p c.loop-s.s (c.loop-s.invariant.goes p at (omega arith)) in
    record { at = (p, now_at); sign = to.held.signs p c.loop-s.s cell.0 cell.1 }

pub returns-in_default : goal.returns-in_default
returns-in_default t c q e =
    let to = c.loop-s.invariant.to q e in
    let now_at : cell_of c.loop-s.cells.families q ≡ Some c.args.cell = (to.elsewhere q (not_below q)).1 ∙ e in
    let cell = goes_cell c.loop-s.cells to.held q c.loop-s.s (c.loop-s.invariant.goes q e (omega arith)) in
    let none : cell_of c.loop-s.cells.families (q ++ c.loop-s.s ∷ []) ≡ None = sym (c.in_default.ensures.cell q now_at) in
    absurd (let wrong : None ≡ Some cell.0 = sym none ∙ cell.1 in cc)

pub next_sign-next-requires : goal.next_sign-next-requires
next_sign-next-requires t c =
    let p = c.requires.cell.0 in
    let at = c.requires.cell.1.0 in
    let to = c.loop-s.invariant.to p at in
    let now_at : cell_of c.loop-s.cells.families p ≡ Some c.args.cell = (to.elsewhere p (not_below p)).1 ∙ at in
    let there : cell_of c.loop-s.cells.families (p ++ c.loop-s.s ∷ []) ≡ Some c.in-Some.below = sym (c.in-Some.ensures.cell p now_at) in
    (p ++ c.loop-s.s ∷ [], there)

pub prune_below-requires : goal.prune_below-requires
prune_below-requires t c =
    let p = c.requires.cell.0 in
    let at = c.requires.cell.1.0 in
    let to = c.loop-s.invariant.to p at in
    let now_at : cell_of c.loop-s.cells.families p ≡ Some c.args.cell = (to.elsewhere p (not_below p)).1 ∙ at in
    let there : cell_of c.loop-s.cells.families (p ++ c.loop-s.s ∷ []) ≡ Some c.in-Some.below = sym (c.in-Some.ensures.cell p now_at) in
    let v = to.held.valued (p ++ c.loop-s.s ∷ []) c.in-Some.below there in
    let few = c.requires.short (p ++ c.loop-s.s ∷ []) v.0 (to.less (p ++ c.loop-s.s ∷ []) v.0 v.1) in
    let size = length_push p c.loop-s.s in
    let room = c.requires.cell.1.1 in
    (omega (arith, c.decreases), (to.held, ((λ q u f. c.requires.short q u (to.less q u f)), (p ++ c.loop-s.s ∷ [], (there, omega arith)))))

pub remove_blank-before-requires-clause-held : goal.remove_blank-before-requires-clause-held
remove_blank-before-requires-clause-held t c =
    let p = c.requires.cell.0 in
    let at = c.requires.cell.1.0 in
    let to = c.loop-s.invariant.to p at in
    let now_at : cell_of c.loop-s.cells.families p ≡ Some c.args.cell = (to.elsewhere p (not_below p)).1 ∙ at in
    let there : cell_of c.loop-s.cells.families (p ++ c.loop-s.s ∷ []) ≡ Some c.in-Some.below = sym (c.in-Some.ensures.cell p now_at) in
    (c.prune_below.ensures (p ++ c.loop-s.s ∷ []) there).held

pub remove_blank-before-requires-clause-cell : goal.remove_blank-before-requires-clause-cell
remove_blank-before-requires-clause-cell t c =
    let p = c.requires.cell.0 in
    let at = c.requires.cell.1.0 in
    let to = c.loop-s.invariant.to p at in
    let now_at : cell_of c.loop-s.cells.families p ≡ Some c.args.cell = (to.elsewhere p (not_below p)).1 ∙ at in
    let there : cell_of c.loop-s.cells.families (p ++ c.loop-s.s ∷ []) ≡ Some c.in-Some.below = sym (c.in-Some.ensures.cell p now_at) in
    let below = c.prune_below.ensures (p ++ c.loop-s.s ∷ []) there in
    (p, ((below.elsewhere p (above_longer p c.loop-s.s p (not_below p))).1 ∙ now_at, (below.elsewhere (p ++ c.loop-s.s ∷ []) (not_below (p ++ c.loop-s.s ∷ []))).1 ∙ there))

pub remove_blank-before-requires-clause-before : goal.remove_blank-before-requires-clause-before
remove_blank-before-requires-clause-before t c q e =
    let p = c.requires.cell.0 in
    let at = c.requires.cell.1.0 in
    let to = c.loop-s.invariant.to p at in
    let now_at : cell_of c.loop-s.cells.families p ≡ Some c.args.cell = (to.elsewhere p (not_below p)).1 ∙ at in
    let there : cell_of c.loop-s.cells.families (p ++ c.loop-s.s ∷ []) ≡ Some c.in-Some.below = sym (c.in-Some.ensures.cell p now_at) in
    let below = c.prune_below.ensures (p ++ c.loop-s.s ∷ []) there in
    let same : p ≡ q = below.held.apart p q c.args.cell ((below.elsewhere p (above_longer p c.loop-s.s p (not_below p))).1 ∙ now_at) e in
    subst (λ r. IsBefore c.prune_below.new.cells.values r c.loop-s.s c.loop-s.before) same
    (before_stays c.loop-s.cells c.prune_below.new.cells p c.loop-s.s c.loop-s.before below (c.loop-s.invariant.before p at (omega arith)))

pub loop-s-smaller : goal.loop-s-smaller
loop-s-smaller t c =
    let p = c.requires.cell.0 in
    let at = c.requires.cell.1.0 in
    let to = c.loop-s.invariant.to p at in
    let now_at : cell_of c.loop-s.cells.families p ≡ Some c.args.cell = (to.elsewhere p (not_below p)).1 ∙ at in
    let there : cell_of c.loop-s.cells.families (p ++ c.loop-s.s ∷ []) ≡ Some c.in-Some.below = sym (c.in-Some.ensures.cell p now_at) in
    let next = c.next_sign-next.ensures p c.loop-s.s there in
    sign_falls c.loop-s.s c.next_sign-next.result (omega arith) c.loop-s.invariant.small (λ up. (next.found up).0)

pub loop-s-preserved : goal.loop-s-preserved
loop-s-preserved t c =
    let now_at = λ (q : List ℕ) (e : cell_of c.args.cells.now.families q ≡ Some c.args.cell). ((c.loop-s.invariant.to q e).elsewhere q (not_below q)).1 ∙ e in
    let there = λ (q : List ℕ) (e : cell_of c.args.cells.now.families q ≡ Some c.args.cell). sym (c.in-Some.ensures.cell q (now_at q e)) in
    let below = λ (q : List ℕ) (e : cell_of c.args.cells.now.families q ≡ Some c.args.cell). c.prune_below.ensures (q ++ c.loop-s.s ∷ []) (there q e) in
    let mid_at = λ (q : List ℕ) (e : cell_of c.args.cells.now.families q ≡ Some c.args.cell). ((below q e).elsewhere q (above_longer q c.loop-s.s q (not_below q))).1 ∙ now_at q e in
    record {
      small = c.next_sign-next.type_inv;
      to = λ q e.
          to_step c.args.cells.now c.loop-s.cells c.prune_below.new.cells c.remove_blank-before.new.cells q c.loop-s.s c.next_sign-next.result (c.loop-s.invariant.to q e)
          (below q e) (c.remove_blank-before.ensures.drops q (mid_at q e)) (c.next_sign-next.ensures q c.loop-s.s (there q e));
      goes = λ q e up.
          next_goes c.args.cells.now c.loop-s.cells c.prune_below.new.cells c.remove_blank-before.new.cells q c.loop-s.s c.next_sign-next.result
          (c.loop-s.invariant.to q e) (below q e) (c.remove_blank-before.ensures.drops q (mid_at q e)) (c.next_sign-next.ensures q c.loop-s.s (there q e)) up;
      before = λ q e up.
          next_before c.args.cells.now c.loop-s.cells c.prune_below.new.cells c.remove_blank-before.new.cells q c.loop-s.s c.next_sign-next.result
          (c.loop-s.invariant.to q e) (below q e) (c.remove_blank-before.ensures.drops q (mid_at q e)) (c.next_sign-next.ensures q c.loop-s.s (there q e))
          c.loop-s.before c.remove_blank-before.result (c.loop-s.invariant.before q e (omega arith)) (c.remove_blank-before.ensures.last q (mid_at q e)) up;
    }

pub first_sign-s-requires : goal.first_sign-s-requires
first_sign-s-requires t c = (c.requires.cell.0, c.requires.cell.1.0)

pub overflow_sub-more : goal.overflow_sub-more
overflow_sub-more t c =
    let p = c.requires.cell.0 in
    let at = c.requires.cell.1.0 in
    let to = c.loop-s.invariant.to p at in
    let now_at : cell_of c.loop-s.cells.families p ≡ Some c.args.cell = (to.elsewhere p (not_below p)).1 ∙ at in
    let there : cell_of c.loop-s.cells.families (p ++ c.loop-s.s ∷ []) ≡ Some c.in-Some.below = sym (c.in-Some.ensures.cell p now_at) in
    let v = to.held.valued (p ++ c.loop-s.s ∷ []) c.in-Some.below there in
    some_more p c.loop-s.s c.args.more (c.requires.short (p ++ c.loop-s.s ∷ []) v.0 (to.less (p ++ c.loop-s.s ∷ []) v.0 v.1)) c.requires.cell.1.1

pub returns : goal.returns
returns t c q e = subst (PrunesTo c.args.cells.now c.loop-s.cells q) c.loop-s-test.false (c.loop-s.invariant.to q e)
