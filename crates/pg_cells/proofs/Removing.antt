-- A sign is taken out of its family: what both cases of it rest on.
use Rattle.std.proofs.Common.{◌≡◌, ◌≢◌, ℕ, ◌+◌, ◌<◌, ◌≤◌, inl, inr, Bool, true, false, not, cond, ◌||◌, nat_eq, List, ◌∷◌, filter, length, Some, suc, zero, refl, sym, ◌∙◌, ap, arith}
use Rattle.std.proofs.lemmas.Bool.{cases_Bool, cases_eq, eq-eqb, ne_eqb, both_ways}
use Rattle.std.specs.List.{list_any, range_with_len}
use Rattle.pg_types.specs.Placement.{Family, family_at}
use Rattle.pg_types.specs.Inside.PlacementSteps.{with_one_sign}
use Rattle.pg_cells.specs.Inside.store.CellRows.{Row, sign_at}
use Rattle.pg_cells.specs.Inside.linked.ValuedFamilies.{Trie}
use Rattle.pg_cells.specs.Inside.families.Layouts.{IsTrie, signs_at_base}
use Rattle.pg_cells.proofs.LayoutLaws.{sign_stands, range_has}
use Rattle.pg_cells.proofs.OneSign.{filter_more, length_one_more, any_one_more}

-- the signs of a family but one
abbrev pub signs_left : ℕ → List ℕ → List ℕ
signs_left s signs = filter (λ x. not (nat_eq s x)) signs

-- two filters are one
pub filter_twice : (t u : ℕ → Bool) (s a n : ℕ) → 0 < a → ((x : ℕ) → 0 < x → x ≢ s → u x ≡ t x) → u s ≡ false → filter (λ x. not (nat_eq s x)) (filter t (range_with_len a n))
    ≡ filter u (range_with_len a n)
filter_twice t u s a zero up h gone = refl
filter_twice t u s a (suc n) up h gone =
    let rest = filter_twice t u s (a + 1) n (omega arith) h gone in
    elim (cases_eq a s) [
      | inl e ↦
          let out : not (nat_eq s a) ≡ false = ap not (eq-eqb s a (sym e)) in
          let off : u a ≡ false = ap u e ∙ gone in
          either_out (t a) out rest ∙ ap (λ b. cond b (a ∷ filter u (range_with_len (a + 1) n)) (filter u (range_with_len (a + 1) n))) (sym off)
      | inr other ↦
          let stay : not (nat_eq s a) ≡ true = ap not (ne_eqb s a (λ z. other (sym z))) in
          either_in (t a) stay rest ∙ ap (λ b. cond b (a ∷ filter u (range_with_len (a + 1) n)) (filter u (range_with_len (a + 1) n))) (sym (h a up other))
    ]
  where
    either_out : (b : Bool) → not (nat_eq s a) ≡ false → filter (λ x. not (nat_eq s x)) (filter t (range_with_len (a + 1) n)) ≡ filter u (range_with_len (a + 1) n)
        → filter (λ x. not (nat_eq s x)) (cond b (a ∷ filter t (range_with_len (a + 1) n)) (filter t (range_with_len (a + 1) n))) ≡ filter u (range_with_len (a + 1) n)
    either_out true out rest =
        ap (λ c. cond c (a ∷ filter (λ x. not (nat_eq s x)) (filter t (range_with_len (a + 1) n))) (filter (λ x. not (nat_eq s x)) (filter t (range_with_len (a + 1) n)))) out ∙ rest
    either_out false out rest = rest

    either_in : (b : Bool) → not (nat_eq s a) ≡ true → filter (λ x. not (nat_eq s x)) (filter t (range_with_len (a + 1) n)) ≡ filter u (range_with_len (a + 1) n)
        → filter (λ x. not (nat_eq s x)) (cond b (a ∷ filter t (range_with_len (a + 1) n)) (filter t (range_with_len (a + 1) n)))
        ≡ cond b (a ∷ filter u (range_with_len (a + 1) n)) (filter u (range_with_len (a + 1) n))
    either_in true stay rest =
        ap (λ c. cond c (a ∷ filter (λ x. not (nat_eq s x)) (filter t (range_with_len (a + 1) n))) (filter (λ x. not (nat_eq s x)) (filter t (range_with_len (a + 1) n)))) stay ∙ ap (λ l. a ∷ l) rest
    either_in false stay rest = rest

-- a sign of f's cells is freed in the new row, and no other sign is changed
module _ {V : Type 0} (n : ℕ) (r new : Row V) (t : Trie V) (trie : IsTrie n r t) (p : List ℕ) (f : Family) (at : family_at t.families p ≡ Some f)
    (s : ℕ) (has : list_any (nat_eq s) f.signs ≡ true) (gone : sign_at new (f.base + s) ≡ 0) (same : (i : ℕ) → i ≢ f.base + s → sign_at new i ≡ sign_at r i) where
  pub stood : (0 < s) × (s ≤ n) × (sign_at r (f.base + s) ≡ s)
  stood = sign_stands n r (family_at t.families) trie.layout p f s at has

  test_other : (x : ℕ) → 0 < x → x ≢ s → nat_eq (sign_at new (f.base + x)) x ≡ nat_eq (sign_at r (f.base + x)) x
  test_other x up other = ap (λ y. nat_eq y x) (same (f.base + x) (λ z. other (omega arith)))

  test_gone : nat_eq (sign_at new (f.base + s)) s ≡ false
  test_gone = ne_eqb (sign_at new (f.base + s)) s (λ z. let h = stood.0 in omega arith)

  pub left_stands : signs_left s f.signs ≡ signs_at_base n new f.base
  left_stands =
      ap (signs_left s) (trie.layout.members p f at)
      ∙ filter_twice (λ x. nat_eq (sign_at r (f.base + x)) x) (λ x. nat_eq (sign_at new (f.base + x)) x) s 1 n (omega arith) test_other test_gone

  -- the old signs are those that are left, with the one
  pub was_one_more : f.signs ≡ with_one_sign s (signs_left s f.signs)
  was_one_more =
      trie.layout.members p f at
      ∙ filter_more (λ x. nat_eq (sign_at new (f.base + x)) x) (λ x. nat_eq (sign_at r (f.base + x)) x) s 1 n (omega arith)
      (λ x up other. sym (test_other x up other)) (eq-eqb (sign_at r (f.base + s)) s stood.2) test_gone (let h = stood.0 in omega arith) (let h = stood.1 in omega arith)
      ∙ ap (with_one_sign s) (sym left_stands)

  pub not_left : list_any (nat_eq s) (signs_left s f.signs) ≡ false
  not_left = elim (cases_Bool (list_any (nat_eq s) (signs_left s f.signs))) [
    | inr e ↦ e
    | inl e ↦ absurd (
        let h = range_has (λ x. nat_eq (sign_at new (f.base + x)) x) 1 n s (ap (list_any (nat_eq s)) (sym left_stands) ∙ e) in
        both_ways (nat_eq (sign_at new (f.base + s)) s) test_gone h.2)
  ]

  pub one_less : length (signs_left s f.signs) + 1 ≡ length f.signs
  one_less = sym (length_one_more s (signs_left s f.signs) not_left) ∙ ap length (sym was_one_more)

  -- another sign is left where it was there
  pub left_has : (y : ℕ) → y ≢ s → list_any (nat_eq y) (signs_left s f.signs) ≡ list_any (nat_eq y) f.signs
  left_has y other =
      ap (λ b. b || list_any (nat_eq y) (signs_left s f.signs)) (sym (ne_eqb y s other))
      ∙ sym (any_one_more s y (signs_left s f.signs)) ∙ ap (list_any (nat_eq y)) (sym was_one_more)

  -- a sign of another family stands where it did
  pub others_test : (q : List ℕ) (g : Family) (y : ℕ) → q ≢ p → family_at t.families q ≡ Some g → 0 < y → nat_eq (sign_at new (g.base + y)) y ≡ nat_eq (sign_at r (g.base + y)) y
  others_test q g y other gat up = elim (cases_eq (g.base + y) (f.base + s)) [
    | inr n ↦ ap (λ x. nat_eq x y) (same (g.base + y) n)
    | inl e ↦
        let was : sign_at r (g.base + y) ≡ s = ap (sign_at r) e ∙ stood.2 in
        let now : sign_at new (g.base + y) ≡ 0 = ap (sign_at new) e ∙ gone in
        ne_eqb (sign_at new (g.base + y)) y (λ z. omega arith)
        ∙ sym (ne_eqb (sign_at r (g.base + y)) y (λ z. other (trie.layout.apart q p g f gat at (omega arith))))
  ]

  pub others_cell : (q : List ℕ) (g : Family) (y : ℕ) → q ≢ p → family_at t.families q ≡ Some g → sign_at r (g.base + y) ≡ y → g.base + y ≢ f.base + s
  others_cell q g y other gat is e =
      let sign : s ≡ y = sym stood.2 ∙ ap (sign_at r) (sym e) ∙ is in
      other (trie.layout.apart q p g f gat at (omega arith))

  pub small_left : (i : ℕ) → sign_at new i ≤ n
  small_left i = elim (cases_eq i (f.base + s)) [
    | inl e ↦ let z = ap (sign_at new) e ∙ gone in omega arith
    | inr other ↦ let z = same i other in let le = trie.layout.small i in omega arith
  ]

  -- the owner of a taken cell
  pub owner_left : (i : ℕ) → sign_at new i ≢ 0 → (i ≢ f.base + s) × ((q : List ℕ) × (g : Family) × (family_at t.families q ≡ Some g) × (i ≡ g.base + sign_at new i))
  owner_left i up =
      let other : i ≢ f.base + s = λ e. up (ap (sign_at new) e ∙ gone) in
      let z = same i other in
      let o = trie.layout.owned i (λ w. up (z ∙ w)) in
      (other, (o.0, o.1, o.2, o.3 ∙ ap (λ x. o.1.base + x) (sym z)))
