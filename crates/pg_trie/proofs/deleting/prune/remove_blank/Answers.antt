use Rattle.std.proofs.Common.{◌≡◌, ℕ, cond, is_some, [], ◌∷◌, ◌++◌, Some, inl, inr, refl, ap, sym, subst, ◌∙◌, arith}
use Rattle.std.specs.FinMap.{find}
use Rattle.pg_types.specs.Inside.Placing.{cell_of}
use Rattle.pg_cells.specs.Inside.linked.ValuedFamilies.{ValuedFamilies}
use Rattle.pg_cells.proofs.LinkLaws.{some_string, cell_goes}
use Rattle.pg_cells.proofs.StringMaps.{order, find_without_same}
use Rattle.pg_trie.proofs.deleting.prune.remove_blank.Goals as goal
use Rattle.pg_trie.proofs.deleting.prune.remove_blank.Goals.{else-number-eq0-via-then-number-eq0+else-child-eq0, else-number-eq0-via-else-number-eq0}

pub returns-then-child-eq0-clause-drops : goal.returns-then-child-eq0-clause-drops
returns-then-child-eq0-clause-drops c q e =
    let same : c.requires.cell.0 ≡ q = c.requires.held.apart c.requires.cell.0 q c.args.parent c.requires.cell.1.0 e in
    let at : cell_of c.args.cells.now.families (q ++ c.args.s ∷ []) ≡ Some c.args.cell =
    subst (λ p. cell_of c.args.cells.now.families (p ++ c.args.s ∷ []) ≡ Some c.args.cell) same c.requires.cell.1.1 in
    record {
      held = c.remove_behind.ensures.kept;
      signs = ap (λ (h : ValuedFamilies ℕ). h.signs) (c.remove_behind.ensures.held q e);
      either = inr (record {
        front = q;
        last = c.args.s;
        whole = refl;
        several = some_string c.args.cells.now.families q c.args.parent e;
        blank = c.value.ensures (q ++ c.args.s ∷ []) at ∙ ap Some (sym c.number.ensures ∙ c.if-number-eq0.true);
        ends = λ x. c.child.ensures.none (q ++ c.args.s ∷ []) at c.if-child-eq0.true x;
        families = ap (λ (h : ValuedFamilies ℕ). h.families) (c.remove_behind.ensures.held q e);
        values = ap (λ (h : ValuedFamilies ℕ). h.values) (c.remove_behind.ensures.held q e);
      });
      cells = c.remove_behind.ensures.cells q e;
    }

pub returns-clause-drops : goal.returns-clause-drops
returns-clause-drops c q e =
    let same : c.requires.cell.0 ≡ q = c.requires.held.apart c.requires.cell.0 q c.args.parent c.requires.cell.1.0 e in
    let at : cell_of c.args.cells.now.families (q ++ c.args.s ∷ []) ≡ Some c.args.cell =
    subst (λ p. cell_of c.args.cells.now.families (p ++ c.args.s ∷ []) ≡ Some c.args.cell) same c.requires.cell.1.1 in
    record {
      held = c.requires.held;
      signs = refl;
      either = inl (
        refl,
        inr (inr (elim c.else-number-eq0.branch [
          | else-number-eq0-via-then-number-eq0+else-child-eq0 w ↦ inr (w.child.ensures.some (q ++ c.args.s ∷ []) at (omega (arith, w.if-child-eq0.false)))
          | else-number-eq0-via-else-number-eq0 w ↦ inl (c.value.result, c.value.ensures (q ++ c.args.s ∷ []) at, λ z. w.if-number-eq0.false (c.number.ensures ∙ z))
        ])),
      );
      cells = λ r other. refl;
    }

pub returns-then-child-eq0-clause-last : goal.returns-then-child-eq0-clause-last
returns-then-child-eq0-clause-last c q e =
    let k = q ++ c.args.s ∷ [] in
    let values = ap (λ (h : ValuedFamilies ℕ). find order k h.values) (c.remove_behind.ensures.held q e) in
    sym (ap (λ b. cond b c.args.s c.args.before) (ap is_some (values ∙ find_without_same k c.args.cells.now.values)))

pub returns-clause-last : goal.returns-clause-last
returns-clause-last c q e =
    let same : c.requires.cell.0 ≡ q = c.requires.held.apart c.requires.cell.0 q c.args.parent c.requires.cell.1.0 e in
    let at : cell_of c.args.cells.now.families (q ++ c.args.s ∷ []) ≡ Some c.args.cell =
    subst (λ p. cell_of c.args.cells.now.families (p ++ c.args.s ∷ []) ≡ Some c.args.cell) same c.requires.cell.1.1 in
    sym (ap (λ b. cond b c.args.s c.args.before) (cell_goes c.args.cells.now c.requires.held q c.args.s c.args.cell at))
