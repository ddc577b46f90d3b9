-- The members of a family that are given, and what is told of its cells.
use Rattle.std.proofs.Common.{◌≡◌, ◌≢◌, ℕ, ◌+◌, ◌<◌, ◌≤◌, inl, inr, Bool, true, false, not, cond, ◌&&◌, nat_eq, nat_lt, MatchBool, List, [], ◌∷◌, ◌++◌, length, get_or, Option, None, Some, refl, sym, ◌∙◌, ap, subst, arith}
use Rattle.std.proofs.lemmas.Bool.{cases_eq, cases_lt, eq-eqb, ne_eqb, eqb-true, both_ways, lt-ltb, false≢true}
use Rattle.std.proofs.lemmas.List.{same_from_push}
use Rattle.std.specs.Option.{is_some, option_map}
use Rattle.pg_types.specs.Placement.{Family, family_at, base_of}
use Rattle.pg_types.specs.Inside.PlacementSteps.{is_used}
use Rattle.pg_types.specs.Inside.Placing.{cell_of, joins_at}
use Rattle.pg_cells.specs.Inside.store.CellRows.{Row, sign_at, child_at}
use Rattle.pg_cells.specs.Inside.store.Store.{Extends}
use Rattle.pg_cells.specs.Inside.store.Writes.{Frees}
use Rattle.pg_cells.specs.Inside.linked.ValuedFamilies.{Trie, ValuedFamilies}
use Rattle.pg_cells.specs.Inside.families.Layouts.{IsTrie, signs_at_base}
use Rattle.pg_cells.specs.Inside.families.Removing.{CanRemoveSign}
use Rattle.pg_cells.specs.Inside.linked.Members.{IsNext, ArePassing, number_before, has_sign, IsAlone, HasOther}
use Rattle.pg_cells.proofs.LayoutLaws.{sign_stands, taken_used}
use Rattle.pg_cells.proofs.StringCells.{cell_parts, found_is}
use Rattle.pg_cells.proofs.Walking.{childless}
use Rattle.pg_cells.proofs.AddTrie.{grown, no_family, some_family, join_free}
use Rattle.pg_cells.proofs.RemoveTrie.{none_stands, some_stands, its_family, base_same}

pub next_alike : (f g : ℕ → Bool) (x y : ℕ) → ((z : ℕ) → 0 < z → f z ≡ g z) → IsNext f x y → IsNext g x y
next_alike f g x y same next = record {
  found = λ up. (let h = next.found up in (h.0, sym (same y up) ∙ h.1));
  least = λ z less is. next.least z less (same z (omega arith) ∙ is);
}

pub passing_alike : (f g : ℕ → Bool) (xs : List ℕ) → ((z : ℕ) → 0 < z → f z ≡ g z) → ArePassing f xs → ArePassing g xs
passing_alike f g xs same are = record {
  each = λ k lt. (let h = are.each k lt in (h.0, next_alike f g (number_before xs k) (get_or xs k 0) same h.1));
  last = next_alike f g (number_before xs (length xs)) 0 same are.last;
}

none_passing : (f : ℕ → Bool) (xs : List ℕ) → ((x : ℕ) → f x ≡ false) → ArePassing f xs → xs ≡ []
none_passing f [] none are = refl
none_passing f (x ∷ xs) none are = let h = are.each 0 (omega arith) in absurd (both_ways (f x) (none x) (h.1.found h.0).1)

shown : (b : Bool) (cell : ℕ) → is_some (cond b (Some cell) None) ≡ b
shown true cell = refl
shown false cell = refl

module _ {V : Type 0} (n : ℕ) (r : Row V) (t : Trie V) (trie : IsTrie n r t) (p : List ℕ) (base : ℕ) (has : base_of t.families p ≡ Some base) where
  -- a sign of the family stands at its base
  pub sign_told : (x : ℕ) → 0 < x → has_sign t.families p x ≡ nat_eq (sign_at r (base + x)) x
  sign_told x up = elim (cases_lt n x) [
    | inr le ↦ ap is_some (found_is n r t trie p base x has (omega arith) le) ∙ shown (nat_eq (sign_at r (base + x)) x) (base + x)
    | inl late ↦
        let le = trie.layout.small (base + x) in
        absent (cell_of t.families (p ++ x ∷ [])) refl late ∙ sym (ne_eqb (sign_at r (base + x)) x (λ z. omega arith))
  ]
    where
      absent : (o : Option ℕ) → cell_of t.families (p ++ x ∷ []) ≡ o → n < x → is_some (cell_of t.families (p ++ x ∷ [])) ≡ false
      absent None e late = ap is_some e
      absent (Some cell) e late =
          let c = cell_parts t.families (p ++ x ∷ []) cell e in
          let parts = same_from_push p c.front x c.last c.whole in
          let stands = sign_stands n r (family_at t.families) trie.layout c.front c.family c.last c.at c.has in
          absurd (let is = parts.1 in let le = stands.1 in omega arith)

  pub alone_told : (s : ℕ) (freed : Row V) → Frees r freed (base + s) → (b : Bool) → MatchBool b (IsAlone t.families p s) (HasOther t.families p s)
      → MatchBool b (signs_at_base n freed base ≡ []) (signs_at_base n freed base ≢ [])
  alone_told s freed frees true alone = none_stands freed base n (λ x up le is. elim (cases_eq x s) [
    | inl e ↦ let gone : sign_at freed (base + x) ≡ 0 = ap (λ z. sign_at freed (base + z)) e ∙ frees.sign_is in omega arith
    | inr other ↦
        let stays = frees.elsewhere.signs (base + x) (λ z. other (omega arith)) in
        both_ways (nat_eq (sign_at r (base + x)) x) (sym (sign_told x up) ∙ alone x other) (eq-eqb (sign_at r (base + x)) x (sym stays ∙ is))
  ])
  alone_told s freed frees false other =
      let x = other.0 in
      let cell = there x (cell_of t.families (p ++ x ∷ [])) refl other.2 in
      let stands : sign_at r (base + x) ≡ x = eqb-true (sign_at r (base + x)) x (sym (sign_told x cell.0) ∙ other.2) in
      let stays = frees.elsewhere.signs (base + x) (λ z. other.1 (omega arith)) in
      some_stands freed base n x cell.0 cell.1 (stays ∙ stands)
    where
      there : (x : ℕ) (o : Option ℕ) → cell_of t.families (p ++ x ∷ []) ≡ o → is_some (cell_of t.families (p ++ x ∷ [])) ≡ true → (0 < x) × (x ≤ n)
      there x None e some = absurd (false≢true (sym (ap is_some e) ∙ some))
      there x (Some cell) e some =
          let c = cell_parts t.families (p ++ x ∷ []) cell e in
          let parts = same_from_push p c.front x c.last c.whole in
          let stands = sign_stands n r (family_at t.families) trie.layout c.front c.family c.last c.at c.has in
          (let is = parts.1 in let up = stands.0 in omega arith, let is = parts.1 in let le = stands.1 in omega arith)

pub extends_itself : {V : Type 0} (r : Row V) → Extends r r
extends_itself r = record { longer = omega arith; signs = λ i. refl; children = λ i. refl; bases = λ i. refl; values = λ i lt. refl; taken = refl }

module _ {V : Type 0} (n : ℕ) (old r : Row V) (t : Trie V) (before : IsTrie n old t) (more : Extends old r) (p : List ℕ) (parent : ℕ) (parent_is : cell_of t.families p ≡ Some parent)
    (s : ℕ) (low : 1 ≤ s) (high : s ≤ n) (lacks : cell_of t.families (p ++ s ∷ []) ≡ None) (base : ℕ) (base_is_child : base ≡ child_at r parent) where
  -- whether the sign joins, told of the cells
  pub joins_told : (nat_lt 0 base && nat_eq (sign_at r (base + s)) 0) ≡ joins_at t.families p s
  joins_told = elim (cases_eq base 0) [
    | inl z ↦
        ap (λ b. nat_lt 0 b && nat_eq (sign_at r (b + s)) 0) z
        ∙ sym (ap (λ o. elim o as (λ _. Bool) [ None ↦ false | Some f ↦ not (is_used t.families (f.base + s)) ])
        (no_family n old r t before more p parent parent_is s low high lacks base base_is_child z))
    | inr up ↦
        let positive : 0 < base = omega arith in
        let f = some_family n old r t before more p parent parent_is s low high lacks base base_is_child positive in
        let told : joins_at t.families p s ≡ not (is_used t.families (f.0.base + s)) =
        ap (λ o. elim o as (λ _. Bool) [ None ↦ false | Some g ↦ not (is_used t.families (g.base + s)) ]) f.1 in
        ap (λ b. b && nat_eq (sign_at r (base + s)) 0) (lt-ltb 0 base positive) ∙ free_told f.0 f.1 f.2 ∙ sym told
  ]
    where
      trie : IsTrie n r t
      trie = grown n old r t before more p parent parent_is s low high lacks base base_is_child

      free_told : (f : Family) → family_at t.families p ≡ Some f → f.base ≡ base → nat_eq (sign_at r (base + s)) 0 ≡ not (is_used t.families (f.base + s))
      free_told f at is = elim (cases_eq (sign_at r (base + s)) 0) [
        | inl free ↦ eq-eqb (sign_at r (base + s)) 0 free ∙ sym (ap not (join_free n r t trie p parent parent_is s low high lacks f at (ap (λ b. sign_at r (b + s)) is ∙ free)))
        | inr taken ↦ ne_eqb (sign_at r (base + s)) 0 taken ∙ sym (ap not (taken_used n r t.families trie.sorted trie.layout (f.base + s) (λ z. taken (ap (λ b. sign_at r (b + s)) (sym is) ∙ z))))
      ]

  -- where there is no family, it has no members
  pub given_none : (xs : List ℕ) → base ≡ 0 → ArePassing (has_sign t.families p) xs → xs ≡ []
  given_none xs z are =
      let none = no_family n old r t before more p parent parent_is s low high lacks base base_is_child z in
      none_passing (has_sign t.families p) xs (λ x. ap is_some (childless t.families p x (ap (option_map (λ (f : Family). f.base)) none))) are

  -- and else they stand at its base
  pub given_some : (xs : List ℕ) → 0 < base → ArePassing (has_sign t.families p) xs → ArePassing (λ x. nat_eq (sign_at r (base + x)) x) xs
  given_some xs up are =
      let f = some_family n old r t before more p parent parent_is s low high lacks base base_is_child up in
      let has : base_of t.families p ≡ Some base = ap (option_map (λ (g : Family). g.base)) f.1 ∙ ap Some f.2 in
      passing_alike (has_sign t.families p) (λ x. nat_eq (sign_at r (base + x)) x) xs
      (sign_told n r t (grown n old r t before more p parent parent_is s low high lacks base base_is_child) p base has) are

  -- the members that are owed where the sign does not join
  pub given_are : (xs : List ℕ) (h : ValuedFamilies V) → ◌≡◌ {A = ValuedFamilies V} (record { signs = n; families = t.families; values = t.values }) h
      → ((q : List ℕ) → cell_of h.families q ≡ Some parent → joins_at h.families q s ≡ false → ArePassing (has_sign h.families q) xs)
      → (nat_lt 0 base && nat_eq (sign_at r (base + s)) 0) ≡ false → ArePassing (has_sign t.families p) xs
  given_are xs h view owed off =
      let told = subst (λ (k : ValuedFamilies V). (q : List ℕ) → cell_of k.families q ≡ Some parent → joins_at k.families q s ≡ false → ArePassing (has_sign k.families q) xs) (sym view) owed in
      told p parent_is (sym joins_told ∙ off)

module _ {V : Type 0} (n : ℕ) (r : Row V) (t : Trie V) (trie : IsTrie n r t) (parent s : ℕ) (can : CanRemoveSign t.families parent s)
    (base : ℕ) (base_is_child : base ≡ child_at r parent) where
  -- whether a family is left without a sign, as it was told
  pub removed_alone : (h : ValuedFamilies V) → ◌≡◌ {A = ValuedFamilies V} (record { signs = n; families = t.families; values = t.values }) h → (b : Bool)
      → ((q : List ℕ) → cell_of h.families q ≡ Some parent → MatchBool b (IsAlone h.families q s) (HasOther h.families q s))
      → (freed : Row V) → Frees r freed (base + s) → MatchBool b (signs_at_base n freed base ≡ []) (signs_at_base n freed base ≢ [])
  removed_alone h view b owed freed frees =
      let told = subst (λ (k : ValuedFamilies V). (q : List ℕ) → cell_of k.families q ≡ Some parent → MatchBool b (IsAlone k.families q s) (HasOther k.families q s)) (sym view) owed in
      let f = its_family n r t trie parent s can base base_is_child in
      let has : base_of t.families can.prefix ≡ Some base = ap (option_map (λ (g : Family). g.base)) f.1 ∙ ap Some (base_same n r t trie parent s can base base_is_child) in
      alone_told n r t trie can.prefix base has s freed frees b (told can.prefix can.at)
