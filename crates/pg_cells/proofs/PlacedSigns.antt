-- What adding a sign, removing one and writing a value give, by the tries that the row of cells
-- holds.
use Rattle.std.proofs.Common.{◌≡◌, ℕ, List, [], ◌∷◌, ◌++◌, length, Result, Ok, Err, IfOk, OnOk, Some, refl, sym, ◌∙◌, ap, subst}
use Rattle.std.specs.FinMap.{put}
use Rattle.pg_types.specs.Inside.PlacementSteps.{with_new_sign}
use Rattle.pg_types.specs.Inside.Placing.{cell_of, without_sign}
use Rattle.pg_cells.specs.Inside.families.Adding.{CanTakeSign, AddsSign, with_sign_below}
use Rattle.pg_cells.specs.Inside.linked.CellValues.{SetsValue}
use Rattle.pg_cells.specs.Inside.families.Layouts.{IsTrie}
use Rattle.pg_cells.specs.Inside.store.CellRows.{Row}
use Rattle.pg_cells.specs.Inside.families.Removing.{CanRemoveSign, RemovesSign}
use Rattle.pg_cells.specs.Inside.linked.ValuedFamilies.{Trie, ValuedFamilies, without_key}
use Rattle.pg_cells.proofs.AddedSlot.{after}
use Rattle.pg_cells.proofs.CellsStay.{cells_stay, cells_outside}
use Rattle.pg_cells.proofs.RemoveTrie.{removed}
use Rattle.pg_cells.proofs.StringCells.{cells_apart}
use Rattle.pg_cells.proofs.StringMaps.{order}
use Rattle.pg_cells.proofs.ValuedFamilyLaws.{is_held}

-- a trie with its number of signs
abbrev pub seen : {V : Type 0} → ℕ → Trie V → ValuedFamilies V
seen n t = record { signs = n; families = t.families; values = t.values }

module _ {V : Type 0} (n : ℕ) (old new : Row V) (t : Trie V) (trie : IsTrie n old t) (even : length new.values ≡ length new.signs) (h : ValuedFamilies V) (view : seen n t ≡ h) (parent s : ℕ) where
  module _ (can : CanTakeSign n t.families parent s) (v : V) where
    same_add : (q : List ℕ) → cell_of t.families q ≡ Some parent → can.prefix ≡ q
    same_add q e = cells_apart n old t trie can.prefix q parent can.at e

    add_by : {E : Type 0} (answer : Result ℕ E) → OnOk answer (IsTrie n new (with_sign_below n t can.prefix s v))
        → IfOk answer (λ cell. cell_of (with_new_sign n t.families can.prefix s) (can.prefix ++ s ∷ []) ≡ Some cell)
        → AddsSign (seen n t) (seen n (after n t can.prefix s v answer)) parent s v answer
    add_by (Ok cell) is at = record {
      held = λ q e. ap (λ z. record (seen n t) { families = with_new_sign n t.families z s; values = put order (z ++ s ∷ []) v t.values }) (same_add q e);
      cell = λ q e. subst (λ z. cell_of (with_new_sign n t.families can.prefix s) (z ++ s ∷ []) ≡ Some cell) (same_add q e) at;
      cells = λ q e r off. cells_outside n t.families can.prefix s r (λ x z. off x (z ∙ ap (λ p. p ++ x ∷ []) (same_add q e)));
      kept = is_held n new (with_sign_below n t can.prefix s v) is even;
      err = tt;
    }
    add_by (Err e) is at = record { held = λ q e. tt; cell = λ q e. tt; cells = λ q e. tt; kept = tt; err = refl }

    -- the sign is added, or memory is short
    pub placed_added : {E : Type 0} (answer : Result ℕ E) → OnOk answer (IsTrie n new (with_sign_below n t can.prefix s v))
        → IfOk answer (λ cell. cell_of (with_new_sign n t.families can.prefix s) (can.prefix ++ s ∷ []) ≡ Some cell)
        → (u : Trie V) → u ≡ after n t can.prefix s v answer → AddsSign h (seen n u) parent s v answer
    placed_added answer is at u same =
        subst (λ (k : ValuedFamilies V). AddsSign k (seen n u) parent s v answer) view
        (subst (λ (x : Trie V). AddsSign (seen n t) (seen n x) parent s v answer) (sym same) (add_by answer is at))

  module _ (can : CanRemoveSign t.families parent s) (is : IsTrie n new (removed t can.prefix s)) where
    same_remove : (q : List ℕ) → cell_of t.families q ≡ Some parent → can.prefix ≡ q
    same_remove q e = cells_apart n old t trie can.prefix q parent can.at e

    remove_by : RemovesSign (seen n t) (seen n (removed t can.prefix s)) parent s
    remove_by = record {
      held = λ q e. ap (λ z. record (seen n t) { families = without_sign t.families z s; values = without_key (z ++ s ∷ []) t.values }) (same_remove q e);
      cells = λ q e r off. cells_stay t.families can.prefix s can.cell can.there r (λ z. off (z ∙ ap (λ p. p ++ s ∷ []) (same_remove q e)));
      kept = is_held n new (removed t can.prefix s) is even;
    }

    -- the sign is removed
    pub placed_removed : (u : Trie V) → u ≡ removed t can.prefix s → RemovesSign h (seen n u) parent s
    placed_removed u same =
        subst (λ (k : ValuedFamilies V). RemovesSign k (seen n u) parent s) view
        (subst (λ (x : Trie V). RemovesSign (seen n t) (seen n x) parent s) (sym same) remove_by)

module _ {V : Type 0} (n : ℕ) (old new : Row V) (t : Trie V) (trie : IsTrie n old t) (even : length new.values ≡ length new.signs) (h : ValuedFamilies V) (view : seen n t ≡ h)
    (p : List ℕ) (cell : ℕ) (v : V) (at : cell_of t.families p ≡ Some cell) where
  abbrev written : Trie V
  written = record { families = t.families; values = put order p v t.values }

  module _ (is : IsTrie n new written) where
    write_by : SetsValue (seen n t) (seen n written) cell v
    write_by = record {
      held = λ q e. ap (λ z. record (seen n t) { values = put order z v t.values }) (cells_apart n old t trie p q cell at e);
      kept = is_held n new written is even;
    }

    -- the value is written
    pub placed_written : (u : Trie V) → u ≡ written → SetsValue h (seen n u) cell v
    placed_written u same =
        subst (λ (k : ValuedFamilies V). SetsValue k (seen n u) cell v) view (subst (λ (x : Trie V). SetsValue (seen n t) (seen n x) cell v) (sym same) write_by)
