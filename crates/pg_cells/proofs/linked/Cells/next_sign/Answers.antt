use Rattle.std.proofs.Common.{◌≡◌, ◌+◌, [], ◌∷◌, ◌++◌, Some, sym, subst, arith}
use Rattle.pg_types.specs.Inside.Placing.{cell_of}
use Rattle.pg_cells.specs.Inside.linked.ValuedFamilies.{ValuedFamilies}
use Rattle.pg_cells.specs.Inside.linked.Members.{IsNextSign, goes_on}
use Rattle.pg_cells.proofs.GivenMembers.{next_alike}
use Rattle.pg_cells.proofs.LinkLaws.{root_next, root_last, not_root}
use Rattle.pg_cells.proofs.Unlinked.{plain, goes_plain}
use Rattle.pg_cells.proofs.linked.Cells.next_sign.Goals as goal

pub returns-then-cell-from : goal.returns-then-cell-from
returns-then-cell-from g c p s e =
    let h = c.self.inside.placed in
    let at = subst (λ (k : ValuedFamilies g.row.V.Denot). cell_of k.families (p ++ s ∷ []) ≡ Some c.args.cell) (sym c.self.view_is) e in
    subst (λ (k : ValuedFamilies g.row.V.Denot). IsNextSign k.values p s (c.args.cell + 1)) c.self.view_is
    (next_alike (goes_on h.values p) (goes_on (plain h.values) p) s (c.args.cell + 1) (λ z up. goes_plain h.values p z) (root_next h c.self.invariant.held p s c.args.cell at (omega arith)))

pub returns-then-cell-from-2 : goal.returns-then-cell-from-2
returns-then-cell-from-2 g c p s e =
    let h = c.self.inside.placed in
    let at = subst (λ (k : ValuedFamilies g.row.V.Denot). cell_of k.families (p ++ s ∷ []) ≡ Some c.args.cell) (sym c.self.view_is) e in
    subst (λ (k : ValuedFamilies g.row.V.Denot). IsNextSign k.values p s 0) c.self.view_is
    (next_alike (goes_on h.values p) (goes_on (plain h.values) p) s 0 (λ z up. goes_plain h.values p z) (root_last h c.self.invariant.held p s c.args.cell at (omega arith)))

pub returns-else-cell-from-2 : goal.returns-else-cell-from-2
returns-else-cell-from-2 g c p s e =
    let h = c.self.inside.placed in
    let at = subst (λ (k : ValuedFamilies g.row.V.Denot). cell_of k.families (p ++ s ∷ []) ≡ Some c.args.cell) (sym c.self.view_is) e in
    subst (λ (k : ValuedFamilies g.row.V.Denot). IsNextSign k.values p s c.value.result.next) c.self.view_is
    (next_alike (goes_on h.values p) (goes_on (plain h.values) p) s c.value.result.next (λ z up. goes_plain h.values p z)
    (c.self.invariant.next p s c.value.result (not_root h c.self.invariant.held p s c.args.cell at (omega arith)) (c.value.ensures.value (p ++ s ∷ []) at)))
