use Rattle.std.proofs.Common.{◌≡◌, ◌≢◌, ℕ, ◌-◌, ◌<◌, List, [], ◌∷◌, ◌++◌, Some, None, length, take, drop, sym, subst, ◌∙◌, arith, length-take, length-drop, rules}
use Rattle.pg_types.specs.Placement.{base_of}
use Rattle.pg_types.specs.Inside.Placing.{cell_of}
use Rattle.pg_cells.specs.Inside.linked.Members.{IsNextSign}
use Rattle.pg_cells.proofs.LinkLaws.{goes_cell}
use Rattle.pg_count.specs.Inside.Least.{NoneAbove, LeastAt, LeastAbove}
use Rattle.pg_count.proofs.Chaining.{none_from, none_next}
use Rattle.pg_count.proofs.Searching.{none_childless, none_behind, least_behind, base_there, path_is}
use Rattle.pg_count.proofs.least.+least.Goals as goal

pub least-loop-s-init : goal.least-loop-s-init
least-loop-s-init t c =
    let next = λ (p : List ℕ) (at : base_of c.args.cells.now.families p ≡ Some c.args.base). subst (λ f. IsNextSign c.args.cells.now.values p (f - 1) c.sign_from-s.result) c.first_of.ensures (c.sign_from-s.ensures p at) in
    record {
      small = c.sign_from-s.type_inv;
      from = λ up. (let f = (next c.requires.base.0 c.requires.base.1.0).found up in let low = f.0 in omega arith);
      there = λ p at up. ((next p at).found up).1;
      none = λ p at. none_from c.args.cells.now c.requires.held p c.args.floor.now (length c.args.path.now) c.sign_from-s.result (next p at);
    }

pub least-find-requires : goal.least-find-requires
least-find-requires t c =
    let p = c.requires.base.0 in
    let goes = c.loop-s.invariant.there p c.requires.base.1.0 (omega arith) in
    let cell = goes_cell c.args.cells.now c.requires.held p c.loop-s.s goes in
    record { base = (p, c.requires.base.1.0); sign = c.requires.held.signs p c.loop-s.s cell.0 cell.1 }

pub least-returns-in_err-cell : goal.least-returns-in_err-cell
least-returns-in_err-cell t c p at =
    let goes = c.loop-s.invariant.there p at (omega arith) in
    let cell = goes_cell c.args.cells.now c.requires.held p c.loop-s.s goes in
    let none : cell_of c.args.cells.now.families (p ++ c.loop-s.s ∷ []) ≡ None = sym (c.in_err-cell.ensures.cell p at) in
    absurd (let wrong : None ≡ Some cell.0 = sym none ∙ cell.1 in cc)

pub least-next_sign-s-requires : goal.least-next_sign-s-requires
least-next_sign-s-requires t c = (c.requires.base.0 ++ c.loop-s.s ∷ [], sym (c.in_ok-cell.ensures.cell c.requires.base.0 c.requires.base.1.0))

pub least-loop-s-preserved : goal.least-loop-s-preserved
least-loop-s-preserved t c =
    let next = λ (p : List ℕ) (at : base_of c.args.cells.now.families p ≡ Some c.args.base). c.next_sign-s.ensures p c.loop-s.s (sym (c.in_ok-cell.ensures.cell p at)) in
    record {
      small = c.next_sign-s.type_inv;
      from = λ up. (let f = (next c.requires.base.0 c.requires.base.1.0).found up in let low = f.0 in let from = c.loop-s.invariant.from (omega arith) in omega arith);
      there = λ p at up. ((next p at).found up).1;
      none = λ p at x early q n size.
          none_next c.args.cells.now c.requires.held p c.args.floor.now (length c.loop-s.path) c.loop-s.s c.next_sign-s.result (c.loop-s.invariant.none p at)
          (c.in_default.ensures p (sym (c.in_ok-cell.ensures.cell p at))) (next p at) x early q n (let same = c.least_at.auto.path in omega arith);
    }

pub least_at-returns-then-below-eq0 : goal.least_at-returns-then-below-eq0
least_at-returns-then-below-eq0 t c = λ p at.
    let more : 1 < length c.args.path.now = omega arith in
    none_childless c.args.cells.now.values p c.args.floor.now (length c.args.path.now) c.args.s more
    (λ x. c.child-below.ensures.none (p ++ c.args.s ∷ []) at c.if-below-eq0.true x)

pub least_at-returns-in-None : goal.least_at-returns-in-None
least_at-returns-in-None t c = λ p at.
    let other : c.child-below.result ≢ 0 = omega arith in
    let cell = at in
    let base : base_of c.args.cells.now.families (p ++ c.args.s ∷ []) ≡ Some c.child-below.result = base_there _ _ (c.child-below.ensures.base (p ++ c.args.s ∷ []) cell) other in
    let none = c.in-None.ensures (p ++ c.args.s ∷ []) base in
    none_behind c.args.cells.now.values p c.args.floor.now (length c.args.path.now) (length (take (length c.args.path.now - 1) (drop 1 c.args.path.now))) c.args.s
    (omega (arith, length-take (length c.args.path.now - 1) (drop 1 c.args.path.now), length-drop 1 c.args.path.now)) (omega (arith, length-take (length c.args.path.now - 1) (drop 1 c.args.path.now), length-drop 1 c.args.path.now))
    c.requires.from (subst (λ b. NoneAbove c.args.cells.now.values (p ++ c.args.s ∷ []) b (length (take (length c.args.path.now - 1) (drop 1 c.args.path.now)))) c.rest_of.ensures none)

pub least_at-returns-in-Some : goal.least_at-returns-in-Some
least_at-returns-in-Some t c = λ p at.
    let other : c.child-below.result ≢ 0 = omega arith in
    let cell = at in
    let base : base_of c.args.cells.now.families (p ++ c.args.s ∷ []) ≡ Some c.child-below.result = base_there _ _ (c.child-below.ensures.base (p ++ c.args.s ∷ []) cell) other in
    let least = c.in-Some.ensures (p ++ c.args.s ∷ []) base in
    let some : 0 < length c.least.new.path = omega (arith, length-take (length c.args.path.now - 1) (drop 1 c.args.path.now), length-drop 1 c.args.path.now) in
    subst (λ path. LeastAt c.args.cells.now.values p c.args.floor.now c.args.s path c.in-Some.sums) (sym (path_is c.args.path.now c.least.new.path c.args.s c.requires.some))
    (least_behind c.args.cells.now.values p c.args.floor.now c.args.s c.least.new.path c.in-Some.sums c.requires.sign some c.requires.from
    (subst (λ b. LeastAbove c.args.cells.now.values (p ++ c.args.s ∷ []) b c.least.new.path c.in-Some.sums) c.rest_of.ensures least))
