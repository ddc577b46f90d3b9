-- Lists that rise: what is found in them, also after a value or a mark is entered.
use Rattle.std.proofs.Common.{◌≡◌, ◌≢◌, ℕ, ◌+◌, ◌*◌, ◌<◌, ◌≤◌, Bool, true, false, cond, nat_lt, List, [], ◌∷◌, None, Some, inl, inr, refl, sym, ◌∙◌, ap, subst, arith}
use Rattle.std.proofs.lemmas.Bool.{ne_eqb, cases_Bool}
use Rattle.pg_trie.specs.declared.hopeless.TheConstants.{HOPELESS}
use Rattle.pg_trie.specs.Inside.Lists.{rank, Rises}
use Rattle.pg_trie.specs.Inside.Maps.{as_value, as_hopeless}
use Rattle.pg_trie.proofs.ListLaws.Found.{found_first, found_in, picks_rise, PicksRise}

pub rank_value : (x : ℕ × ℕ) → nat_lt x.0 HOPELESS ≡ true → rank x ≡ 2 * x.1
rank_value x e = rw e (omega arith)

pub rank_mark : (x : ℕ × ℕ) → nat_lt x.0 HOPELESS ≡ false → rank x ≡ 2 * x.1 + 1
rank_mark x e = rw e (omega arith)

pub as_value_is : (v : ℕ) (b : Bool) → nat_lt v HOPELESS ≡ b → as_value v ≡ cond b (Some v) None
as_value_is v b e = ap (λ t. cond t (Some v) None) e

pub as_mark_is : (v : ℕ) (b : Bool) → nat_lt v HOPELESS ≡ b → as_hopeless v ≡ cond b None (Some (tt {0}))
as_mark_is v b e = ap (λ t. cond t None (Some (tt {0}))) e

-- a list that rises from r on rises from less on
pub rises_less : (r s : ℕ) (xs : List (ℕ × ℕ)) → s ≤ r → Rises r xs → Rises s xs
rises_less r s [] le h = tt
rises_less r s (x ∷ xs) le h = (omega (arith, h.0), h.1, h.2, h.3)

-- the dots of its values rise
pub values_rise : (r d : ℕ) (xs : List (ℕ × ℕ)) → 2 * d ≤ r + 1 → Rises r xs → PicksRise as_value xs d
values_rise r d [] le h = tt
values_rise r d (x ∷ xs) le h = elim (cases_Bool (nat_lt x.0 HOPELESS)) [
  | inl e ↦
      let is : rank x ≡ 2 * x.1 = rank_value x e in
      subst (λ o. picks_rise as_value o d x.1 (PicksRise as_value xs)) (sym (as_value_is x.0 true e))
      (omega (arith, h.0), values_rise (rank x + 1) (x.1 + 1) xs (omega arith) h.3)
  | inr e ↦
      let is : rank x ≡ 2 * x.1 + 1 = rank_mark x e in
      subst (λ o. picks_rise as_value o d x.1 (PicksRise as_value xs)) (sym (as_value_is x.0 false e))
      (values_rise (rank x + 1) d xs (omega (arith, h.0)) h.3)
]

-- and so do those of its marks
pub marks_rise : (r d : ℕ) (xs : List (ℕ × ℕ)) → 2 * d ≤ r → Rises r xs → PicksRise as_hopeless xs d
marks_rise r d [] le h = tt
marks_rise r d (x ∷ xs) le h = elim (cases_Bool (nat_lt x.0 HOPELESS)) [
  | inl e ↦
      let is : rank x ≡ 2 * x.1 = rank_value x e in
      subst (λ o. picks_rise as_hopeless o d x.1 (PicksRise as_hopeless xs)) (sym (as_mark_is x.0 true e))
      (marks_rise (rank x + 1) d xs (omega (arith, h.0)) h.3)
  | inr e ↦
      let is : rank x ≡ 2 * x.1 + 1 = rank_mark x e in
      subst (λ o. picks_rise as_hopeless o d x.1 (PicksRise as_hopeless xs)) (sym (as_mark_is x.0 false e))
      (omega (arith, h.0), marks_rise (rank x + 1) (x.1 + 1) xs (omega arith) h.3)
]

-- no value before the start of a list
pub no_value : (r d : ℕ) (xs : List (ℕ × ℕ)) → 2 * d < r → Rises r xs → found_in as_value d xs ≡ None
no_value r d [] lt h = refl
no_value r d (x ∷ xs) lt h =
    let more = no_value (rank x + 1) d xs (omega (arith, h.0)) h.3 in
    elim (cases_Bool (nat_lt x.0 HOPELESS)) [
      | inl e ↦
          let is : rank x ≡ 2 * x.1 = rank_value x e in
          let other : d ≢ x.1 = λ z. omega (arith, h.0) in
          ap (λ o. found_first d x.1 o (found_in as_value d xs)) (as_value_is x.0 true e) ∙ ap (λ b. cond b (Some x.0) (found_in as_value d xs)) (ne_eqb d x.1 other) ∙ more
      | inr e ↦ ap (λ o. found_first d x.1 o (found_in as_value d xs)) (as_value_is x.0 false e) ∙ more
    ]

-- and no mark
pub no_mark : (r d : ℕ) (xs : List (ℕ × ℕ)) → 2 * d + 1 < r → Rises r xs → found_in as_hopeless d xs ≡ None
no_mark r d [] lt h = refl
no_mark r d (x ∷ xs) lt h =
    let more = no_mark (rank x + 1) d xs (omega (arith, h.0)) h.3 in
    elim (cases_Bool (nat_lt x.0 HOPELESS)) [
      | inl e ↦ ap (λ o. found_first d x.1 o (found_in as_hopeless d xs)) (as_mark_is x.0 true e) ∙ more
      | inr e ↦
          let is : rank x ≡ 2 * x.1 + 1 = rank_mark x e in
          let other : d ≢ x.1 = λ z. omega (arith, h.0) in
          ap (λ o. found_first d x.1 o (found_in as_hopeless d xs)) (as_mark_is x.0 false e) ∙ ap (λ b. cond b (Some (tt {0})) (found_in as_hopeless d xs)) (ne_eqb d x.1 other) ∙ more
    ]
