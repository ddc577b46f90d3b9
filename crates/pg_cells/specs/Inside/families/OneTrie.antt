-- A row of cells holds at most one trie.
use Rattle.std.proofs.Common.{◌≡◌, ℕ, ◌+◌, ◌<◌, ◌≤◌, ◌⊎◌, inl, inr, List, [], ◌∷◌, ◌++◌, length, Option, None, Some, suc, zero, refl, sym, ◌∙◌, ap, subst, arith}
use Rattle.std.proofs.Math.Logic.{∥∥₁_prop, ∥∥₁_elim}
use Rattle.std.proofs.lemmas.List.{length_push}
use Rattle.std.proofs.lemmas.Cmp.{nat_list_cmp_total}
use Rattle.std.specs.Ordering.{nat_cmp}
use Rattle.std.specs.Cmp.Lexicographic.{slice_cmp}
use Rattle.std.specs.FinMap.{slice_cmp-IsAntisymmetric, nat_cmp-IsAntisymmetric}
use Rattle.std.specs.FinMap.Entries.{same_entries}
use Rattle.std.specs.List.{range_with_len}
use Rattle.std.specs.Coded.{Coded, Coded-set}
use mathlib.Core.HLevel.{Σ_prop_path}
use Rattle.pg_types.specs.Placement.{Family, family_at}
use Rattle.pg_types.specs.Inside.Placing.{cell_of}
use Rattle.pg_cells.specs.Inside.store.CellRows.{Row, child_at}
use Rattle.pg_cells.specs.Inside.linked.ValuedFamilies.{Trie, trie_code}
use Rattle.pg_cells.specs.Inside.families.Layouts.{AreLaidOut, IsTrie, signs_at_base, value_in}

-- a string has a last sign, and a front before it
pub record HasLast (p : List ℕ) : Type 0 where
  pub front : List ℕ
  pub last : ℕ
  pub whole : p ≡ front ++ last ∷ []

-- a string is empty, or has a last sign
pub last_of : (p : List ℕ) → (p ≡ []) ⊎ HasLast p
last_of [] = inl refl
last_of (x ∷ xs) = inr (elim (last_of xs) [
  | inl e ↦ record { front = []; last = x; whole = ap (λ l. x ∷ l) e }
  | inr h ↦ record { front = x ∷ h.front; last = h.last; whole = ap (λ l. x ∷ l) h.whole }
])

module _ {V : Type 0} (n : ℕ) (r : Row V) where
  -- a family of one placement is a family of the other
  found_too : (F G : List ℕ → Option Family) → AreLaidOut n r F
      → AreLaidOut n r G → (k : ℕ) (p : List ℕ) (f : Family)
      → length p ≤ k → F p ≡ Some f → G p ≡ Some f
  found_too F G a b k p f le at = by k p f le at (last_of p)
    where
      at_root : (p : List ℕ) (f : Family) → F p ≡ Some f → p ≡ [] → G p ≡ Some f
      at_root p f at e =
          let same : Some (record { base = 0; signs = range_with_len 1 n })
          ≡ Some f = sym a.root ∙ ap F (sym e) ∙ at in
          ap G e ∙ b.root ∙ same

      by : (k : ℕ) (p : List ℕ) (f : Family) → length p ≤ k
          → F p ≡ Some f → (p ≡ []) ⊎ HasLast p → G p ≡ Some f
      by k p f le at (inl e) = at_root p f at e
      by zero p f le at (inr h) =
          absurd (omega (arith, ap length h.whole, length_push h.front h.last))
      by (suc k) p f le at (inr h) =
          let up = a.parent h.front h.last f (ap F (sym h.whole) ∙ at) in
          let there : G h.front ≡ Some up.above =
          by k h.front up.above
          (omega (arith, ap length h.whole, length_push h.front h.last)) up.at (last_of h.front) in
          let base : 0 < child_at r (up.above.base + h.last) =
          let e = up.child in let q = up.base in omega arith in
          let down = b.child h.front h.last up.above there up.positive up.sign base in
          let bases : down.0.base ≡ f.base = down.2 ∙ up.child in
          let signs : down.0.signs
          ≡ f.signs = b.members (h.front ++ h.last ∷ []) down.0 down.1
          ∙ ap (signs_at_base n r) bases ∙ sym (a.members p f at) in
          let same : down.0 ≡ f = λ t. record { base = bases t; signs = signs t } in
          ap G h.whole ∙ down.1 ∙ ap Some same

  -- two placements in one row have the same families
  same_found : (F G : List ℕ → Option Family) → AreLaidOut n r F
      → AreLaidOut n r G → (p : List ℕ) → F p ≡ G p
  same_found F G a b p = by (F p) (G p) refl refl
    where
      by : (x y : Option Family) → F p ≡ x → G p ≡ y → F p ≡ G p
      by None None e d = e ∙ sym d
      by (Some f) y e d = e ∙ sym (found_too F G a b (length p) p f (omega arith) e)
      by None (Some g) e d = found_too G F b a (length p) p g (omega arith) d ∙ sym d

  -- two tries that one row holds are the same
  pub same_trie : (t u : Trie V) → IsTrie n r t → IsTrie n r u → t ≡ u
  same_trie t u a b =
      let families : t.families ≡ u.families =
      same_entries (slice_cmp nat_cmp) nat_list_cmp_total
      (slice_cmp-IsAntisymmetric nat_cmp-IsAntisymmetric) t.families u.families a.sorted b.sorted
      (same_found (family_at t.families) (family_at u.families) a.layout b.layout) in
      let values : t.values ≡ u.values =
      same_entries (slice_cmp nat_cmp) nat_list_cmp_total
      (slice_cmp-IsAntisymmetric nat_cmp-IsAntisymmetric) t.values u.values a.ordered b.ordered
      (λ q. a.has q ∙ ap (λ fs. value_in r (cell_of fs q)) families ∙ sym (b.has q)) in
      λ i. record { families = families i; values = values i }

-- the trie that a row holds
abbrev pub TrieOfRow : {V : Type 0} → ℕ → Row V → Type 0
TrieOfRow {V} n r = (t : Trie V) × ∥ IsTrie n r t ∥₁

-- a row holds one trie at most, so that a ghost field may keep it
pub TrieOfRow-prop : {V : Type 0} → Coded V → (n : ℕ) (r : Row V) → IsProp (TrieOfRow n r)
TrieOfRow-prop {V} code n r a b =
    Σ_prop_path (λ t. ∥∥₁_prop)
    (∥∥₁_elim a.1 (Coded-set (trie_code code) a.0 b.0)
    (λ x. ∥∥₁_elim b.1 (Coded-set (trie_code code) a.0 b.0) (λ y. same_trie n r a.0 b.0 x y)))

-- each trie that a row holds is the kept one
pub kept_is_only : {V : Type 0} → Coded V → (n : ℕ) (r : Row V) (kept : TrieOfRow n r) (t : Trie V)
    → IsTrie n r t → kept.0 ≡ t
kept_is_only code n r kept t is = ∥∥₁_elim kept.1 (Coded-set (trie_code code) kept.0 t)
    (λ x. same_trie n r kept.0 t x is)

-- a row that holds a trie holds the kept one
pub held_is_kept : {V : Type 0} → Coded V → (n : ℕ) (r : Row V) (kept : TrieOfRow n r) (t : Trie V)
    → IsTrie n r t → IsTrie n r kept.0
held_is_kept code n r kept t is = subst (IsTrie n r) (sym (kept_is_only code n r kept t is)) is
