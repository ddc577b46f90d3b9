-- The row whose cells the root has taken holds the root alone.
use Rattle.std.proofs.Common.{◌≡◌, ◌≢◌, ℕ, ◌+◌, ◌<◌, ◌≤◌, inl, inr, Bool, true, false, cond, ◌||◌, ◌&&◌, T, nat_eq, List, [], ◌∷◌, ◌++◌, length, map, filter, None, Some, slice_get, suc, zero, refl, sym, ◌∙◌, ap, subst, arith, zero-add}
use Rattle.std.proofs.lemmas.Bool.{cases_eq, cases_lt, false≢true, eq-eqb, ne_eqb}
use Rattle.std.proofs.lemmas.List.{length-map, append-nil}
use Rattle.std.proofs.lemmas.List.FromFn.{length-range_with_len}
use Rattle.std.specs.declared.cmp.Ordering.TheVariants.{Less, Equal}
use Rattle.std.specs.Ordering.{nat_cmp, is_lt, ordering_then}
use Rattle.std.specs.Cmp.{nat_cmp_is}
use Rattle.std.specs.List.{list_any, range_with_len}
use Rattle.std.specs.FinMap.{find, is_sorted}
use Rattle.std.specs.FinMap.Entries.{below_all}
use Rattle.pg_types.specs.Placement.{Family, family_at, root}
use Rattle.pg_types.specs.Inside.PlacementSteps.{taken_count}
use Rattle.pg_types.specs.Inside.Placing.{cell_after, cell_of}
use Rattle.pg_cells.specs.Inside.store.CellRows.{Row, sign_at, base_at}
use Rattle.pg_cells.specs.Inside.store.Writes.{SetsBase}
use Rattle.pg_cells.specs.Inside.families.Layouts.{AreLaidOut, IsParent, IsTrie, signs_at_base, value_in}
use Rattle.pg_cells.specs.Inside.families.Root.{IsRootTo}
use Rattle.pg_cells.proofs.StringMaps.{order, equal_or_not}
use Rattle.pg_types.proofs.BoolFacts.{both_halves}
use Rattle.pg_cells.proofs.LayoutLaws.{range_has, has_range}

-- a test that all numbers of a range pass keeps the range
filter_all : (test : ℕ → Bool) (a n : ℕ) → ((x : ℕ) → a ≤ x → x < a + n → test x ≡ true) → filter test (range_with_len a n) ≡ range_with_len a n
filter_all test a zero h = refl
filter_all test a (suc n) h =
    ap (λ b. cond b (a ∷ filter test (range_with_len (a + 1) n)) (filter test (range_with_len (a + 1) n))) (h a (omega arith) (omega arith))
    ∙ ap (λ l. a ∷ l) (filter_all test (a + 1) n (λ x le lt. h x (omega arith) (omega arith)))

pub any_range : (a n x : ℕ) → a ≤ x → x < a + n → list_any (nat_eq x) (range_with_len a n) ≡ true
any_range a n x le lt = ap (list_any (nat_eq x)) (sym (filter_all (λ _. true) a n (λ y p q. refl))) ∙ has_range (λ _. true) a n x le lt refl

pub range_any : (a n x : ℕ) → list_any (nat_eq x) (range_with_len a n) ≡ true → (a ≤ x) × (x < a + n)
range_any a n x e =
    let h = range_has (λ _. true) a n x (ap (list_any (nat_eq x)) (filter_all (λ _. true) a n (λ y p q. refl)) ∙ e) in (h.0, h.1)

-- strings of one sign, each with the same value
abbrev blanks : {V : Type 0} → V → List ℕ → List (List ℕ × V)
blanks blank xs = map (λ x. (x ∷ [], blank)) xs

less_than : (a b : ℕ) → a < b → nat_cmp a b ≡ Less
less_than a b lt = sym (nat_cmp_is a b Less lt)

blanks_below : {V : Type 0} (blank : V) (x a n : ℕ) → x < a → T (below_all order (x ∷ []) (blanks blank (range_with_len a n)))
blanks_below blank x a zero lt = tt
blanks_below blank x a (suc n) lt =
    subst (λ o. T (is_lt (ordering_then o Equal) && below_all order (x ∷ []) (blanks blank (range_with_len (a + 1) n)))) (sym (less_than x a lt)) (blanks_below blank x (a + 1) n (omega arith))

blanks_sorted : {V : Type 0} (blank : V) (a n : ℕ) → T (is_sorted order (blanks blank (range_with_len a n)))
blanks_sorted blank a zero = tt
blanks_sorted blank a (suc n) = both_halves (below_all order (a ∷ []) (blanks blank (range_with_len (a + 1) n))) (is_sorted order (blanks blank (range_with_len (a + 1) n)))
    (blanks_below blank a (a + 1) n (omega arith)) (blanks_sorted blank (a + 1) n)

module _ {V : Type 0} (blank : V) where
  find_empty : (xs : List ℕ) → find order [] (blanks blank xs) ≡ None
  find_empty [] = refl
  find_empty (x ∷ xs) = find_empty xs

  find_long : (y z : ℕ) (q xs : List ℕ) → find order (y ∷ z ∷ q) (blanks blank xs) ≡ None
  find_long y z q [] = refl
  find_long y z q (x ∷ xs) = elim (equal_or_not (y ∷ z ∷ q) (x ∷ [])) [
    | inl h ↦ absurd (let e = h.0 in cc)
    | inr h ↦ ap (λ b. cond b (Some blank) (find order (y ∷ z ∷ q) (blanks blank xs))) h.1 ∙ find_long y z q xs
  ]

  find_one : (y : ℕ) (xs : List ℕ) → find order (y ∷ []) (blanks blank xs) ≡ cond (list_any (nat_eq y) xs) (Some blank) None
  find_one y [] = refl
  find_one y (x ∷ xs) = elim (equal_or_not (y ∷ []) (x ∷ [])) [
    | inl h ↦
        let same : y ≡ x = let e = h.0 in cc in
        ap (λ b. cond b (Some blank) (find order (y ∷ []) (blanks blank xs))) h.1 ∙ ap (λ b. cond (b || list_any (nat_eq y) xs) (Some blank) None) (sym (eq-eqb y x same))
    | inr h ↦
        let other : nat_eq y x ≡ false = ne_eqb y x (λ z. h.0 (ap (λ n. n ∷ []) z)) in
        ap (λ b. cond b (Some blank) (find order (y ∷ []) (blanks blank xs))) h.1 ∙ find_one y xs ∙ ap (λ b. cond (b || list_any (nat_eq y) xs) (Some blank) None) (sym other)
  ]

  -- only the empty prefix has a family
  root_only : (n : ℕ) (p : List ℕ) (f : Family) → family_at (root n) p ≡ Some f → (p ≡ []) × (f ≡ record { base = 0; signs = range_with_len 1 n })
  root_only n [] f e = (refl, cc)
  root_only n (x ∷ xs) f e = cc

  no_cell_after : (n x : ℕ) (a q : List ℕ) → cell_after (root n) (x ∷ a) q ≡ None
  no_cell_after n x a [] = refl
  no_cell_after n x a (y ∷ []) = refl
  no_cell_after n x a (y ∷ z ∷ q) = no_cell_after n x (a ++ y ∷ []) (z ∷ q)

  module _ (n : ℕ) (old r : Row V) (some : 1 ≤ n) (root_to : IsRootTo (n + 1) blank old) (sets : SetsBase old r 0 true) where
    stands : (i : ℕ) → 0 < i → i < n + 1 → sign_at r i ≡ i
    stands i p lt = sets.signs i ∙ root_to.stand i p lt

    -- a taken cell is that of a sign of the root
    taken_in_root : (i : ℕ) → sign_at r i ≢ 0 → (0 < i) × (i < n + 1)
    taken_in_root i up = elim (cases_eq i 0) [
      | inl z ↦ absurd (up (ap (sign_at r) z ∙ sets.signs 0 ∙ root_to.zero_free))
      | inr p ↦ elim (cases_lt i (n + 1)) [
        | inl lt ↦ (omega arith, lt)
        | inr le ↦ absurd (up (sets.signs i ∙ root_to.free i le))
      ]
    ]

    whole_root : Family
    whole_root = record { base = 0; signs = range_with_len 1 n }

    root_laid : AreLaidOut n r (family_at (root n))
    root_laid = record {
      root = refl;
      members = λ p f at.
          let h = root_only n p f at in
          ap (λ (g : Family). g.signs) h.1
          ∙ sym (filter_all (λ x. nat_eq (sign_at r (0 + x)) x) 1 n (λ x le lt. eq-eqb (sign_at r (0 + x)) x (ap (sign_at r) (zero-add x) ∙ stands x (omega arith) (omega arith))))
          ∙ ap (λ (g : Family). signs_at_base n r g.base) (sym h.1);
      filled = λ p f at e.
          let h = root_only n p f at in
          let none : length (range_with_len 1 n) ≡ 0 = ap length (sym (ap (λ (g : Family). g.signs) h.1) ∙ e) in
          omega (arith, length-range_with_len 1 n);
      parent = no_parent;
      child = λ p x g at up is down. absurd (let none = sets.children (g.base + x) ∙ root_to.children (g.base + x) in omega arith);
      apart = λ p q f g a b e. (root_only n p f a).0 ∙ sym (root_only n q g b).0;
      owned = λ i up. let h = taken_in_root i up in ([], record { base = 0; signs = range_with_len 1 n }, refl, sym (zero-add i) ∙ ap (λ x. 0 + x) (sym (stands i h.0 h.1)));
      small = λ i. elim (cases_eq (sign_at r i) 0) [
        | inl z ↦ omega arith
        | inr up ↦ let h = taken_in_root i up in let s = stands i h.0 h.1 in omega (arith, h.1)
      ];
      flag = λ p f at. ap (λ (g : Family). base_at r g.base) (root_only n p f at).1 ∙ sets.base_is;
      flagged = λ b e. elim (cases_eq b 0) [
        | inl z ↦ ([], record { base = 0; signs = range_with_len 1 n }, refl, sym z)
        | inr up ↦ absurd (false≢true (sym (sets.bases b up ∙ root_to.bases b) ∙ e))
      ];
    }
      where
        no_parent : (p : List ℕ) (x : ℕ) (f : Family) → family_at (root n) (p ++ x ∷ []) ≡ Some f → IsParent r (family_at (root n)) p x f
        no_parent [] x f e = cc
        no_parent (y ∷ p) x f e = cc

    pub root_trie : IsTrie n r (record { families = root n; values = blanks blank (range_with_len 1 n) })
    root_trie = record {
      sorted = tt;
      layout = root_laid;
      count = omega (arith, sets.count, root_to.count, root_taken);
      ordered = blanks_sorted blank 1 n;
      has = has;
    }
      where
        root_taken : taken_count (root n) ≡ n
        root_taken = ap length (append-nil (map (λ s. 0 + s) (range_with_len 1 n))) ∙ length-map (range_with_len 1 n) (λ s. 0 + s) ∙ length-range_with_len 1 n

        value_here : (y : ℕ) (b : Bool) → list_any (nat_eq y) (range_with_len 1 n) ≡ b → cond b (Some blank) None ≡ value_in r (cond b (Some (0 + y)) None)
        value_here y true e =
            let in_range = range_any 1 n y e in
            sym (ap (slice_get r.values) (zero-add y) ∙ sets.values y ∙ root_to.values y (omega (arith, in_range.0)) (omega (arith, in_range.1)))
        value_here y false e = refl

        has : (q : List ℕ) → find order q (blanks blank (range_with_len 1 n)) ≡ value_in r (cell_of (root n) q)
        has [] = find_empty (range_with_len 1 n)
        has (y ∷ []) = find_one y (range_with_len 1 n) ∙ value_here y (list_any (nat_eq y) (range_with_len 1 n)) refl
        has (y ∷ z ∷ q) = find_long y z q (range_with_len 1 n) ∙ ap (value_in r) (sym (no_cell_after n y [] (z ∷ q)))
