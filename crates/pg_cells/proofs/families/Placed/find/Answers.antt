use Rattle.std.proofs.Common.{◌≡◌, ◌+◌, ◌≤◌, [], ◌∷◌, ◌++◌, Some, None, ap, sym, subst, ◌∙◌, arith, cond}
use Rattle.pg_types.specs.Placement.{base_of}
use Rattle.pg_types.specs.Inside.Placing.{cell_of}
use Rattle.pg_cells.specs.Inside.linked.ValuedFamilies.{ValuedFamilies}
use Rattle.pg_cells.specs.declared.store.member.Member.{Member}
use Rattle.pg_cells.proofs.StringCells.{found_is, base_within}
use Rattle.pg_cells.proofs.families.Placed.find.Goals as goal

pub overflow_add-cell : goal.overflow_add-cell
overflow_add-cell g c =
    let at : base_of c.self.inside.layout.0.families c.requires.base.0 ≡ Some c.args.base =
    subst (λ (h : ValuedFamilies (Member g.row.V.Denot)). base_of h.families c.requires.base.0 ≡ Some c.args.base) (sym c.self.view_is) c.requires.base.1 in
    let within = base_within c.self.inside.signs c.self.inside.store c.self.inside.layout.0 c.self.invariant.trie c.requires.base.0 c.args.base at in
    let small = c.self.invariant.row.small in
    let even = c.self.invariant.row.bases in
    let range = c.ranges.s in
    omega arith

pub returns-then-has_sign : goal.returns-then-has_sign
returns-then-has_sign g c = record {
  cell = λ p e.
      let at : base_of c.self.inside.layout.0.families p ≡ Some c.args.base = subst (λ (h : ValuedFamilies (Member g.row.V.Denot)). base_of h.families p ≡ Some c.args.base) (sym c.self.view_is) e in
      let signs : c.args.s ≤ c.self.inside.signs = subst (λ (h : ValuedFamilies (Member g.row.V.Denot)). c.args.s ≤ h.signs) (sym c.self.view_is) c.requires.sign.1 in
      let found = found_is c.self.inside.signs c.self.inside.store c.self.inside.layout.0 c.self.invariant.trie p c.args.base c.args.s at c.requires.sign.0 signs in
      subst (λ (h : ValuedFamilies (Member g.row.V.Denot)). Some (c.args.base + c.args.s) ≡ cell_of h.families (p ++ c.args.s ∷ [])) c.self.view_is
      (sym (found ∙ ap (λ b. cond b (Some (c.args.base + c.args.s)) None) (sym c.has_sign.ensures ∙ c.if-has_sign.true)));
}

pub returns-else-has_sign : goal.returns-else-has_sign
returns-else-has_sign g c = record {
  cell = λ p e.
      let at : base_of c.self.inside.layout.0.families p ≡ Some c.args.base = subst (λ (h : ValuedFamilies (Member g.row.V.Denot)). base_of h.families p ≡ Some c.args.base) (sym c.self.view_is) e in
      let signs : c.args.s ≤ c.self.inside.signs = subst (λ (h : ValuedFamilies (Member g.row.V.Denot)). c.args.s ≤ h.signs) (sym c.self.view_is) c.requires.sign.1 in
      let found = found_is c.self.inside.signs c.self.inside.store c.self.inside.layout.0 c.self.invariant.trie p c.args.base c.args.s at c.requires.sign.0 signs in
      subst (λ (h : ValuedFamilies (Member g.row.V.Denot)). None ≡ cell_of h.families (p ++ c.args.s ∷ [])) c.self.view_is
      (sym (found ∙ ap (λ b. cond b (Some (c.args.base + c.args.s)) None) (sym c.has_sign.ensures ∙ c.if-has_sign.false)));
}

pub has_sign-requires : goal.has_sign-requires
has_sign-requires g c z = let up = c.requires.sign.0 in omega arith
