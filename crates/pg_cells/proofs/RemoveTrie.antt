-- What `remove` needs to know, and what it leaves.
use Rattle.std.proofs.Common.{◌≡◌, ◌≢◌, ℕ, ◌+◌, ◌<◌, ◌≤◌, inl, inr, Bool, true, false, not, cond, nat_eq, List, [], ◌∷◌, ◌++◌, filter, length, Option, None, Some, suc, zero, refl, sym, ◌∙◌, ap, subst, arith}
use Rattle.std.proofs.lemmas.Bool.{eq-eqb, ne_eqb, false≢true}
use Rattle.std.proofs.lemmas.List.{same_from_push}
use Rattle.std.specs.List.{list_any, range_with_len}
use Rattle.std.specs.Option.{option_map}
use Rattle.std.specs.FinMap.{put}
use Rattle.pg_types.specs.Placement.{Family, Families, family_at}
use Rattle.pg_types.specs.Inside.PlacementSteps.{without_family}
use Rattle.pg_types.specs.Inside.Placing.{without_sign}
use Rattle.pg_cells.specs.Inside.store.CellRows.{Row, sign_at, child_at}
use Rattle.pg_cells.specs.Inside.store.Writes.{Frees, SetsBase}
use Rattle.pg_cells.specs.Inside.families.Moves.{DropsEmptyFamily}
use Rattle.pg_cells.specs.Inside.families.Removing.{CanRemoveSign}
use Rattle.pg_cells.specs.Inside.linked.ValuedFamilies.{Trie}
use Rattle.pg_cells.specs.Inside.families.Layouts.{IsTrie, signs_at_base}
use Rattle.pg_cells.proofs.RowCells.{taken_within}
use Rattle.pg_cells.proofs.StringMaps.{order, without_key}
use Rattle.pg_cells.proofs.LayoutLaws.{sign_stands, has_range}
use Rattle.pg_cells.proofs.PlacedFamily.{not_longer}
use Rattle.pg_cells.proofs.StringCells.{cell_parts, cell_taken, cells_apart, child_is}
use Rattle.pg_cells.proofs.Removing.{signs_left, left_stands}
use Rattle.pg_cells.proofs.RemovedSign.{trie_left}
use Rattle.pg_cells.proofs.RemovedFamily.{trie_gone}

filter_nothing : (test : ℕ → Bool) (a n : ℕ) → ((x : ℕ) → a ≤ x → x < a + n → test x ≡ false) → filter test (range_with_len a n) ≡ []
filter_nothing test a zero h = refl
filter_nothing test a (suc n) h =
    ap (λ b. cond b (a ∷ filter test (range_with_len (a + 1) n)) (filter test (range_with_len (a + 1) n))) (h a (omega arith) (omega arith))
    ∙ filter_nothing test (a + 1) n (λ x le lt. h x (omega arith) (omega arith))

module _ {V : Type 0} (r : Row V) (base n : ℕ) where
  pub none_stands : ((x : ℕ) → 0 < x → x ≤ n → sign_at r (base + x) ≢ x) → signs_at_base n r base ≡ []
  none_stands h = filter_nothing (λ x. nat_eq (sign_at r (base + x)) x) 1 n (λ x le lt. ne_eqb (sign_at r (base + x)) x (h x (omega arith) (omega arith)))

  pub some_stands : (x : ℕ) → 0 < x → x ≤ n → sign_at r (base + x) ≡ x → signs_at_base n r base ≢ []
  some_stands x up le is e =
      false≢true (ap (list_any (nat_eq x)) (sym e) ∙ has_range (λ y. nat_eq (sign_at r (base + y)) y) 1 n x (omega arith) (omega arith) (eq-eqb (sign_at r (base + x)) x is))

-- the trie that `remove` leaves
abbrev pub removed : {V : Type 0} → Trie V → List ℕ → ℕ → Trie V
removed t p s = record { families = without_sign t.families p s; values = without_key (p ++ s ∷ []) t.values }

-- the step of the placement, in its two cases
pub sign_left : (fs : Families) (p : List ℕ) (s : ℕ) (f : Family) → family_at fs p ≡ Some f → signs_left s f.signs ≢ [] → without_sign fs p s
    ≡ put order p (record { base = f.base; signs = signs_left s f.signs }) fs
unfolding without_sign
sign_left fs p s f at some =
    ap (λ o. elim o as (λ _. Families) [
      | None ↦ fs
      | Some g ↦ elim (filter (λ x. not (nat_eq s x)) g.signs) as (λ _. Families) [
        | [] ↦ without_family fs p
        | x ∷ xs ↦ put order p (record { base = g.base; signs = x ∷ xs }) fs
      ]
    ]) at
    ∙ by (signs_left s f.signs) some
  where
    by : (xs : List ℕ) → xs ≢ [] → (elim xs as (λ _. Families) [ [] ↦ without_family fs p | x ∷ ys ↦ put order p (record { base = f.base; signs = x ∷ ys }) fs ])
        ≡ put order p (record { base = f.base; signs = xs }) fs
    by [] n = absurd (n refl)
    by (x ∷ xs) n = refl

pub sign_last : (fs : Families) (p : List ℕ) (s : ℕ) (f : Family) → family_at fs p ≡ Some f → signs_left s f.signs ≡ [] → without_sign fs p s ≡ without_family fs p
unfolding without_sign
sign_last fs p s f at none =
    ap (λ o. elim o as (λ _. Families) [
      | None ↦ fs
      | Some g ↦ elim (filter (λ x. not (nat_eq s x)) g.signs) as (λ _. Families) [
        | [] ↦ without_family fs p
        | x ∷ xs ↦ put order p (record { base = g.base; signs = x ∷ xs }) fs
      ]
    ]) at
    ∙ ap (λ xs. elim xs as (λ _. Families) [ [] ↦ without_family fs p | x ∷ ys ↦ put order p (record { base = f.base; signs = x ∷ ys }) fs ]) none

no_base : (o : Option Family) → option_map (λ f. f.base) o ≡ None → o ≡ None
no_base None e = refl
no_base (Some f) e = cc

module _ {V : Type 0} (n : ℕ) (r : Row V) (t : Trie V) (trie : IsTrie n r t) (parent s : ℕ) (can : CanRemoveSign t.families parent s)
    (base : ℕ) (base_is_child : base ≡ child_at r parent) where
  abbrev p : List ℕ
  p = can.prefix

  -- the family, which has the sign
  pub its_family : (f : Family) × (family_at t.families p ≡ Some f) × (list_any (nat_eq s) f.signs ≡ true) × (can.cell ≡ f.base + s)
  its_family =
      let c = cell_parts t.families (p ++ s ∷ []) can.cell can.there in
      let parts = same_from_push p c.front s c.last c.whole in
      (c.family, ap (family_at t.families) parts.0 ∙ c.at, ap (λ x. list_any (nat_eq x) c.family.signs) parts.1 ∙ c.has, c.is ∙ ap (λ x. c.family.base + x) (sym parts.1))

  pub base_same : its_family.0.base ≡ base
  base_same =
      let f = its_family in
      let told = child_is n r t trie p parent can.at in
      let some : Some f.0.base ≡ cond (nat_eq (child_at r parent) 0) None (Some (child_at r parent)) = sym (ap (option_map (λ (g : Family). g.base)) f.1) ∙ told in
      by (nat_eq (child_at r parent) 0) some ∙ sym base_is_child
    where
      by : (b : Bool) → Some (its_family.0.base) ≡ cond b None (Some (child_at r parent)) → its_family.0.base ≡ child_at r parent
      by true e = cc
      by false e = cc

  pub cell_same : base + s ≡ can.cell
  cell_same = ap (λ b. b + s) (sym base_same) ∙ sym its_family.3

  pub sign_taken : (0 < s) × (sign_at r (base + s) ≢ 0)
  sign_taken =
      let f = its_family in
      let h = sign_stands n r (family_at t.families) trie.layout p f.0 s f.1 f.2 in
      (h.0, (λ z. let is = h.2 in let up = h.0 in let same = ap (λ b. sign_at r (b + s)) base_same in omega arith))

  pub base_in : length r.bases ≡ length r.signs → base < length r.signs
  base_in even = let up = sign_taken.1 in let within = taken_within r (base + s) up in omega arith

  pub parent_kept : (freed : Row V) → Frees r freed (base + s) → sign_at freed parent ≢ 0
  parent_kept freed frees z =
      cell_taken n r t trie p parent can.at (sym (frees.elsewhere.signs parent (λ e.
      not_longer p s (sym (cells_apart n r t trie p (p ++ s ∷ []) can.cell (can.at ∙ ap Some (e ∙ cell_same)) can.there)))) ∙ z)

  pub trie_removed : (freed new : Row V) → Frees r freed (base + s) → DropsEmptyFamily n freed new base parent → IsTrie n new (removed t p s)
  trie_removed freed new frees prunes =
      let f = its_family in
      let here : Frees r freed (f.0.base + s) = subst (λ b. Frees r freed (b + s)) (sym base_same) frees in
      let gone = no_base (family_at t.families (p ++ s ∷ [])) can.childless in
      let left : signs_left s f.0.signs ≡ signs_at_base n freed base = left_stands n r freed t trie p f.0 f.1 s f.2 here.sign_is here.elsewhere.signs ∙ ap (signs_at_base n freed) base_same in
      elim prunes [
        | inl h ↦
            let some : signs_left s f.0.signs ≢ [] = λ e. h.0 (sym left ∙ e) in
            subst (λ fs. IsTrie n new (record { families = fs; values = without_key (p ++ s ∷ []) t.values })) (sym (sign_left t.families p s f.0 f.1 some))
            (subst (λ k. IsTrie n k (record { families = put order p (record { base = f.0.base; signs = signs_left s f.0.signs }) t.families; values = without_key (p ++ s ∷ []) t.values })) (sym h.1)
            (trie_left n r freed t trie p parent can.at f.0 f.1 s f.2 gone here some))
        | inr h ↦
            let none : signs_left s f.0.signs ≡ [] = left ∙ h.1 in
            subst (λ fs. IsTrie n new (record { families = fs; values = without_key (p ++ s ∷ []) t.values })) (sym (sign_last t.families p s f.0 f.1 none))
            (trie_gone n r freed h.0 new t trie p parent can.at f.0 f.1 s f.2 gone here h.2 (subst (λ b. SetsBase h.0 new b false) (sym base_same) h.3) none)
      ]
