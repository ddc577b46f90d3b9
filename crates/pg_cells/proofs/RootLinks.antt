-- The links of the root alone: nothing goes on below its signs.
use Rattle.std.proofs.Common.{◌≡◌, ℕ, inl, inr, true, cond, List, [], ◌∷◌, ◌++◌, map, None, Some, sym, ◌∙◌, ap, subst, arith}
use Rattle.std.proofs.lemmas.List.{same_from_push}
use Rattle.std.specs.List.{range_with_len}
use Rattle.std.specs.FinMap.{find}
use Rattle.pg_cells.specs.declared.store.member.Member.{Member}
use Rattle.pg_cells.specs.Inside.linked.ValuedFamilies.{ValuedFamilies}
use Rattle.pg_cells.specs.Inside.linked.Links.{AreLinks, values_alone}
use Rattle.pg_cells.specs.Inside.linked.Members.{IsNext, goes_on}
use Rattle.pg_cells.specs.Inside.families.Root.{root_alone, IsRootAlone}
use Rattle.pg_cells.proofs.StringMaps.{order, equal_or_not}
use Rattle.pg_cells.proofs.PlacedFamily.{not_empty}
use Rattle.pg_cells.proofs.LinkLaws.{goes_cell}
use Rattle.pg_cells.proofs.Unlinked.{root_unlinked, held_unlinked}

module _ {V : Type 0} where
  -- what is found in the root is a sign alone
  root_found : (q : List ℕ) (m x : Member V) (xs : List ℕ) → find order q (map (λ s. (s ∷ [], m)) xs) ≡ Some x → (s : ℕ) × (q ≡ s ∷ []) × (x ≡ m)
  root_found q m x [] e = absurd (let no : None ≡ Some x = e in cc)
  root_found q m x (s ∷ ss) e = elim (equal_or_not q (s ∷ [])) [
    | inl h ↦
        let found : Some m ≡ Some x = sym (ap (λ b. cond b (Some m) (find order q (map (λ s. (s ∷ [], m)) ss))) h.1) ∙ e in
        let is : x ≡ m = cc in
        (s, h.0, is)
    | inr h ↦ root_found q m x ss (sym (ap (λ b. cond b (Some m) (find order q (map (λ s. (s ∷ [], m)) ss))) h.1) ∙ e)
  ]

  pub root_links : (n : ℕ) (m : Member V) (h : ValuedFamilies (Member V)) → m.first ≡ 0 → IsRootAlone n m h → AreLinks h
  root_links n m h none is = record {
    held = is.kept;
    first = λ q x e. (
        let f = found q x e in
        subst (IsNext (goes_on h.values q) 0) (sym (ap (λ (k : Member V). k.first) f.2 ∙ none)) (record {
          found = λ up. absurd (omega arith);
          least = λ z lt goes. absurd (longer q f.0 z f.1 goes);
        }));
    next = λ q s x some e. (let f = found (q ++ s ∷ []) x e in absurd (some (same_from_push q [] s f.0 f.1).0));
  }
    where
      found : (q : List ℕ) (x : Member V) → find order q h.values ≡ Some x → (s : ℕ) × (q ≡ s ∷ []) × (x ≡ m)
      found q x e = root_found q m x (range_with_len 1 n) (sym (ap (λ (k : ValuedFamilies (Member V)). find order q k.values) is.held) ∙ e)

      longer : (q : List ℕ) (s z : ℕ) → q ≡ s ∷ [] → goes_on h.values q z ≡ true → ⊥
      longer q s z e goes =
          let c = goes_cell h is.kept q z goes in
          let v = is.kept.valued (q ++ z ∷ []) c.0 c.1 in
          let f = found (q ++ z ∷ []) v.0 v.1 in
          not_empty [] s (sym e ∙ (same_from_push q [] z f.0 f.1).0)

  pub root_seen : (n : ℕ) (m : Member V) (v : V) (h : ValuedFamilies (Member V)) → m.value ≡ v → IsRootAlone n m h → IsRootAlone n v (values_alone h)
  root_seen n m v h value is = record { held = ap values_alone is.held ∙ root_unlinked n m ∙ ap (root_alone n) value; kept = held_unlinked h is.kept }
