-- A sign that is taken away leaves the other strings their cells, and one that is added those outside of its family.
use Rattle.std.proofs.Common.{◌≡◌, ◌≢◌, ℕ, ◌+◌, inl, inr, Bool, true, false, not, cond, ◌||◌, ◌⊎◌, nat_eq, List, [], ◌∷◌, ◌++◌, Option, None, Some, refl, sym, ◌∙◌, ap}
use Rattle.std.proofs.lemmas.Bool.{ne_eqb, eqb-true}
use Rattle.std.proofs.lemmas.List.{same_from_push}
use Rattle.std.specs.List.{list_any}
use Rattle.std.specs.FinMap.{put}
use Rattle.pg_types.specs.Placement.{Family, Families, family_at}
use Rattle.pg_types.specs.Inside.PlacementSteps.{is_used, least_base, with_new_sign, with_one_sign, with_placed_family, without_family}
use Rattle.pg_types.specs.Inside.Placing.{cell_of, without_sign}
use Rattle.pg_cells.specs.Inside.families.OneTrie.{last_of}
use Rattle.pg_cells.proofs.StringMaps.{order, equal_or_not, find_put_same, find_put_other, find_without_same, find_without_other}
use Rattle.pg_cells.proofs.StringCells.{cell_parts}
use Rattle.pg_cells.proofs.PlacementLaws.{cell_of_last}
use Rattle.pg_cells.proofs.Removing.{signs_left}
use Rattle.pg_cells.proofs.RemovedValues.{cell_told}
use Rattle.pg_cells.proofs.RemoveTrie.{sign_left, sign_last}

-- the other signs of a family are left
any_left : (s y : ℕ) → y ≢ s → (xs : List ℕ) → list_any (nat_eq y) (signs_left s xs) ≡ list_any (nat_eq y) xs
any_left s y other [] = refl
any_left s y other (x ∷ xs) = by (nat_eq s x) refl (any_left s y other xs)
  where
    by : (b : Bool) → nat_eq s x ≡ b → list_any (nat_eq y) (signs_left s xs) ≡ list_any (nat_eq y) xs
        → list_any (nat_eq y) (cond (not (nat_eq s x)) (x ∷ signs_left s xs) (signs_left s xs)) ≡ (nat_eq y x || list_any (nat_eq y) xs)
    by true e rest =
        ap (λ b. list_any (nat_eq y) (cond (not b) (x ∷ signs_left s xs) (signs_left s xs))) e ∙ rest
        ∙ ap (λ b. b || list_any (nat_eq y) xs) (sym (ne_eqb y x (λ z. other (z ∙ sym (eqb-true s x e)))))
    by false e rest = ap (λ b. list_any (nat_eq y) (cond (not b) (x ∷ signs_left s xs) (signs_left s xs))) e ∙ ap (λ b. nat_eq y x || b) rest

empty_or_not : (xs : List ℕ) → (xs ≡ []) ⊎ (xs ≢ [])
empty_or_not [] = inl refl
empty_or_not (x ∷ xs) = inr (λ e. cc)

module _ (fs : Families) (q : List ℕ) (s : ℕ) (f : Family) (at : family_at fs q ≡ Some f) where
  -- the family itself
  own_left : (y : ℕ) → y ≢ s → cell_told (family_at (without_sign fs q s) q) y ≡ cell_told (family_at fs q) y
  own_left y other = elim (empty_or_not (signs_left s f.signs)) [
    | inl none ↦
        let lacks : list_any (nat_eq y) f.signs ≡ false = sym (any_left s y other f.signs) ∙ ap (list_any (nat_eq y)) none in
        ap (λ l. cell_told (family_at l q) y) (sign_last fs q s f at none) ∙ ap (λ o. cell_told o y) (find_without_same q fs)
        ∙ sym (ap (λ o. cell_told o y) at ∙ ap (λ b. cond b (Some (f.base + y)) None) lacks)
    | inr some ↦
        ap (λ l. cell_told (family_at l q) y) (sign_left fs q s f at some)
        ∙ ap (λ o. cell_told o y) (find_put_same q (record { base = f.base; signs = signs_left s f.signs }) fs)
        ∙ ap (λ b. cond b (Some (f.base + y)) None) (any_left s y other f.signs)
        ∙ sym (ap (λ o. cell_told o y) at)
  ]

  -- the others
  others_left : (p : List ℕ) → p ≢ q → family_at (without_sign fs q s) p ≡ family_at fs p
  others_left p other = elim (empty_or_not (signs_left s f.signs)) [
    | inl none ↦ ap (λ l. family_at l p) (sign_last fs q s f at none) ∙ find_without_other p q fs other
    | inr some ↦ ap (λ l. family_at l p) (sign_left fs q s f at some) ∙ find_put_other p q (record { base = f.base; signs = signs_left s f.signs }) fs other
  ]

  told_left : (p : List ℕ) (y : ℕ) → p ++ y ∷ [] ≢ q ++ s ∷ [] → cell_told (family_at (without_sign fs q s) p) y ≡ cell_told (family_at fs p) y
  told_left p y other = elim (equal_or_not p q) [
    | inl e ↦ ap (λ l. cell_told (family_at (without_sign fs q s) l) y) e.0 ∙ own_left y (λ z. other (λ i. e.0 i ++ z i ∷ [])) ∙ sym (ap (λ l. cell_told (family_at fs l) y) e.0)
    | inr apart ↦ ap (λ o. cell_told o y) (others_left p apart.0)
  ]

pub cells_stay : (fs : Families) (q : List ℕ) (s cell : ℕ) → cell_of fs (q ++ s ∷ []) ≡ Some cell → (p : List ℕ) → p ≢ q ++ s ∷ [] → cell_of (without_sign fs q s) p ≡ cell_of fs p
cells_stay fs q s cell is p other =
    let c = cell_parts fs (q ++ s ∷ []) cell is in
    let parts = same_from_push q c.front s c.last c.whole in
    let at : family_at fs q ≡ Some c.family = ap (family_at fs) parts.0 ∙ c.at in
    elim (last_of p) [
      | inl e ↦ ap (cell_of (without_sign fs q s)) e ∙ sym (ap (cell_of fs) e)
      | inr h ↦
          ap (cell_of (without_sign fs q s)) h.whole ∙ cell_of_last (without_sign fs q s) h.front h.last
          ∙ told_left fs q s c.family at h.front h.last (λ z. other (h.whole ∙ z))
          ∙ sym (ap (cell_of fs) h.whole ∙ cell_of_last fs h.front h.last)
    ]

-- a sign that is added leaves the other families
other_families : (n : ℕ) (fs : Families) (q : List ℕ) (s : ℕ) (p : List ℕ) → p ≢ q → family_at (with_new_sign n fs q s) p ≡ family_at fs p
unfolding with_new_sign
other_families n fs q s p other = by (family_at fs q)
  where
    used : (f : Family) (b : Bool) → family_at (elim b as (λ _. Families) [
      | false ↦ put order q (record { base = f.base; signs = with_one_sign s f.signs }) fs
      | true ↦ with_placed_family n (without_family fs q) q (with_one_sign s f.signs)
    ]) p ≡ family_at fs p
    used f false = find_put_other p q (record { base = f.base; signs = with_one_sign s f.signs }) fs other
    used f true =
        find_put_other p q (record { base = least_base n (without_family fs q) (with_one_sign s f.signs); signs = with_one_sign s f.signs }) (without_family fs q) other
        ∙ find_without_other p q fs other

    by : (o : Option Family) → family_at (elim o as (λ _. Families) [
      | None ↦ with_placed_family n fs q (s ∷ [])
      | Some f ↦ elim (is_used fs (f.base + s)) as (λ _. Families) [
        | false ↦ put order q (record { base = f.base; signs = with_one_sign s f.signs }) fs
        | true ↦ with_placed_family n (without_family fs q) q (with_one_sign s f.signs)
      ]
    ]) p ≡ family_at fs p
    by None = find_put_other p q (record { base = least_base n fs (s ∷ []); signs = s ∷ [] }) fs other
    by (Some f) = used f (is_used fs (f.base + s))

-- and each string outside of its family its cell
pub cells_outside : (n : ℕ) (fs : Families) (q : List ℕ) (s : ℕ) (p : List ℕ) → ((x : ℕ) → p ≢ q ++ x ∷ []) → cell_of (with_new_sign n fs q s) p ≡ cell_of fs p
cells_outside n fs q s p other = elim (last_of p) [
  | inl e ↦ ap (cell_of (with_new_sign n fs q s)) e ∙ sym (ap (cell_of fs) e)
  | inr h ↦
      ap (cell_of (with_new_sign n fs q s)) h.whole ∙ cell_of_last (with_new_sign n fs q s) h.front h.last
      ∙ ap (λ o. cell_told o h.last) (other_families n fs q s h.front (λ z. other h.last (h.whole ∙ ap (λ l. l ++ h.last ∷ []) z)))
      ∙ sym (ap (cell_of fs) h.whole ∙ cell_of_last fs h.front h.last)
]
