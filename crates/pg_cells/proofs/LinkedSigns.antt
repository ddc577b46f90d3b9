-- What adding a sign and removing one give, where the signs are linked.
use Rattle.std.proofs.Common.{◌≡◌, ℕ, ◌≤◌, ◌⊎◌, true, List, [], ◌∷◌, ◌++◌, Ok, Some, sym, ◌∙◌, ap}
use Rattle.std.specs.FinMap.{put}
use Rattle.pg_types.specs.Inside.PlacementSteps.{with_new_sign}
use Rattle.pg_types.specs.Inside.Placing.{cell_of, without_sign}
use Rattle.pg_cells.specs.declared.store.member.Member.{Member}
use Rattle.pg_cells.specs.Inside.families.Adding.{CanTakeSign, AddsSign}
use Rattle.pg_cells.specs.Inside.linked.AreValuedFamilies.{AreValuedFamilies}
use Rattle.pg_cells.specs.Inside.linked.Links.{AreLinks, with_link, values_alone}
use Rattle.pg_cells.specs.Inside.linked.Members.{IsNextSign, IsBefore, goes_on}
use Rattle.pg_cells.specs.Inside.families.Removing.{CanRemoveSign, RemovesSign}
use Rattle.pg_cells.specs.Inside.linked.ValuedFamilies.{ValuedFamilies, without_key}
use Rattle.pg_cells.proofs.PlacedFamily.{not_longer}
use Rattle.pg_cells.proofs.SteppedLinks.{add_behind, links_added, values_added, remove_behind, links_removed, values_removed}
use Rattle.pg_cells.proofs.StringMaps.{order}
use Rattle.pg_cells.proofs.Unlinked.{plain, held_unlinked}

module _ {V E : Type 0} (h mid new : ValuedFamilies (Member V)) (links : AreLinks h) (parent s : ℕ) (can : CanTakeSign h.signs h.families parent s)
    (b : ℕ) (before : IsBefore h.values can.prefix s b) (after : ℕ) (next : IsNextSign h.values can.prefix b after) (v : V) (cell : ℕ)
    (adds : AddsSign {E = E} h mid parent s (record { value = v; next = after; first = 0 }) (Ok cell)) where
  values_by_add : mid.values ≡ put order (can.prefix ++ s ∷ []) (record { value = v; next = after; first = 0 }) h.values
  values_by_add = ap (λ (k : ValuedFamilies (Member V)). k.values) (adds.held can.prefix can.at)

  -- the string and the sign behind which the new one is linked are still there
  pub prefix_added : cell_of mid.families can.prefix ≡ Some parent
  prefix_added = adds.cells can.prefix can.at can.prefix (λ x z. not_longer can.prefix x (sym z)) ∙ can.at

  pub before_added : (b ≡ 0) ⊎ (goes_on mid.values can.prefix b ≡ true)
  before_added = add_behind h mid mid links can.prefix parent can.at s can.low b before can.lacks after next v values_by_add

  module _ (kept : AreValuedFamilies new) (linked : (q : List ℕ) → cell_of mid.families q ≡ Some parent → new ≡ with_link mid q b s) where
    is_linked : new ≡ with_link mid can.prefix b s
    is_linked = linked can.prefix prefix_added

    pub links_of_added : AreLinks new
    links_of_added = links_added h mid new links can.prefix parent can.at s can.low b before can.lacks after next v values_by_add kept is_linked

    seen_added : values_alone new ≡ record (values_alone h) { families = with_new_sign h.signs h.families can.prefix s; values = put order (can.prefix ++ s ∷ []) v (plain h.values) }
    seen_added =
        let held = adds.held can.prefix can.at in
        let signs : new.signs ≡ h.signs = ap (λ (k : ValuedFamilies (Member V)). k.signs) is_linked ∙ ap (λ (k : ValuedFamilies (Member V)). k.signs) held in
        let families : new.families ≡ with_new_sign h.signs h.families can.prefix s =
        ap (λ (k : ValuedFamilies (Member V)). k.families) is_linked ∙ ap (λ (k : ValuedFamilies (Member V)). k.families) held in
        let values = values_added h mid new links can.prefix parent can.at s can.low b before can.lacks after next v values_by_add adds.kept.ordered is_linked in
        λ i. record { signs = signs i; families = families i; values = values i }

    pub linked_added : AddsSign {E = E} (values_alone h) (values_alone new) parent s v (Ok cell)
    linked_added = record {
      held = λ q e. seen_added
          ∙ ap (λ z. record (values_alone h) { families = with_new_sign h.signs h.families z s; values = put order (z ++ s ∷ []) v (plain h.values) })
          (links.held.apart can.prefix q parent can.at e);
      cell = λ q e. ap (λ (k : ValuedFamilies (Member V)). cell_of k.families (q ++ s ∷ [])) is_linked ∙ adds.cell q e;
      cells = λ q e r off. ap (λ (k : ValuedFamilies (Member V)). cell_of k.families r) is_linked ∙ adds.cells q e r off;
      kept = held_unlinked new kept;
      err = tt;
    }

module _ {V : Type 0} (h mid new : ValuedFamilies (Member V)) (links : AreLinks h) (parent s : ℕ) (can : CanRemoveSign h.families parent s)
    (b : ℕ) (before : IsBefore h.values can.prefix s b) (after : ℕ) (next : IsNextSign h.values can.prefix s after) (removes : RemovesSign h mid parent s) where
  low : 1 ≤ s
  low = (links.held.signs can.prefix s can.cell can.there).0

  values_by_remove : mid.values ≡ without_key (can.prefix ++ s ∷ []) h.values
  values_by_remove = ap (λ (k : ValuedFamilies (Member V)). k.values) (removes.held can.prefix can.at)

  -- the string and the sign behind which the next one is linked are still there
  pub prefix_left : cell_of mid.families can.prefix ≡ Some parent
  prefix_left = removes.cells can.prefix can.at can.prefix (λ z. not_longer can.prefix s (sym z)) ∙ can.at

  pub before_left : (b ≡ 0) ⊎ (goes_on mid.values can.prefix b ≡ true)
  before_left = remove_behind h mid mid links can.prefix parent can.at s low b before after next values_by_remove

  module _ (kept : AreValuedFamilies new) (linked : (q : List ℕ) → cell_of mid.families q ≡ Some parent → new ≡ with_link mid q b after) where
    is_relinked : new ≡ with_link mid can.prefix b after
    is_relinked = linked can.prefix prefix_left

    pub links_of_left : AreLinks new
    links_of_left = links_removed h mid new links can.prefix parent can.at s low b before after next values_by_remove kept is_relinked

    seen_left : values_alone new ≡ record (values_alone h) { families = without_sign h.families can.prefix s; values = without_key (can.prefix ++ s ∷ []) (plain h.values) }
    seen_left =
        let held = removes.held can.prefix can.at in
        let signs : new.signs ≡ h.signs = ap (λ (k : ValuedFamilies (Member V)). k.signs) is_relinked ∙ ap (λ (k : ValuedFamilies (Member V)). k.signs) held in
        let families : new.families ≡ without_sign h.families can.prefix s =
        ap (λ (k : ValuedFamilies (Member V)). k.families) is_relinked ∙ ap (λ (k : ValuedFamilies (Member V)). k.families) held in
        let values = values_removed h mid new links can.prefix parent can.at s low b before after next values_by_remove removes.kept.ordered is_relinked in
        λ i. record { signs = signs i; families = families i; values = values i }

    pub linked_removed : RemovesSign (values_alone h) (values_alone new) parent s
    linked_removed = record {
      held = λ q e. seen_left
          ∙ ap (λ z. record (values_alone h) { families = without_sign h.families z s; values = without_key (z ++ s ∷ []) (plain h.values) }) (links.held.apart can.prefix q parent can.at e);
      cells = λ q e r off. ap (λ (k : ValuedFamilies (Member V)). cell_of k.families r) is_relinked ∙ removes.cells q e r off;
      kept = held_unlinked new kept;
    }
