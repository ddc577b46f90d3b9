-- A list that rises is told by what is found in it at each dot.
use Rattle.std.proofs.Common.{◌≡◌, ◌≢◌, ℕ, suc, zero, ◌+◌, ◌*◌, ◌<◌, ◌≤◌, true, false, cond, nat_lt, List, [], ◌∷◌, ◌++◌, Option, None, Some, inl, inr, refl, sym, ◌∙◌, ap, arith}
use Rattle.std.proofs.lemmas.Bool.{ltb-false, ne_eqb, eq-eqb, cases_Bool, cases_eq}
use Rattle.std.specs.List.{flat_map, range_with_len}
use Rattle.pg_trie.specs.declared.hopeless.TheConstants.{HOPELESS}
use Rattle.pg_trie.specs.Inside.Lists.{rank, Rises, DotsUpTo, value_part, hopeless_part}
use Rattle.pg_trie.specs.Inside.Maps.{as_value, as_hopeless}
use Rattle.pg_trie.proofs.ListLaws.Found.{found_first, found_in}
use Rattle.pg_trie.proofs.ListLaws.Rising.{rank_value, rank_mark, as_value_is, as_mark_is, rises_less, no_value, no_mark}

-- what a list has at the dot d
abbrev pub part : List (ℕ × ℕ) → ℕ → List (ℕ × ℕ)
part l d = value_part (found_in as_value d l) d ++ hopeless_part (found_in as_hopeless d l) d

-- what stands at another dot is no part
past_first : (x : ℕ × ℕ) (xs : List (ℕ × ℕ)) (d : ℕ) → d ≢ x.1 → part (x ∷ xs) d ≡ part xs d
past_first x xs d n =
    let values : found_in as_value d (x ∷ xs) ≡ found_in as_value d xs = skipped (as_value x.0) (found_in as_value d xs) in
    let marks : found_in as_hopeless d (x ∷ xs) ≡ found_in as_hopeless d xs = skipped (as_hopeless x.0) (found_in as_hopeless d xs) in
    ap (λ o. value_part o d ++ hopeless_part (found_in as_hopeless d (x ∷ xs)) d) values ∙ ap (λ o. value_part (found_in as_value d xs) d ++ hopeless_part o d) marks
  where
    skipped : {X : Type 0} (o rest : Option X) → found_first d x.1 o rest ≡ rest
    skipped None rest = refl
    skipped (Some v) rest = ap (λ b. cond b (Some v) rest) (ne_eqb d x.1 n)

-- a list from the dot a on: what it has there, and its rest
record Cut (a n : ℕ) (l : List (ℕ × ℕ)) : Type 0 where
  rest : List (ℕ × ℕ)
  whole : l ≡ part l a ++ rest
  rises : Rises (2 * (a + 1)) rest
  dots : DotsUpTo n rest
  same : (d : ℕ) → a < d → part l d ≡ part rest d

-- a list that begins later has nothing at a
cut_later : (a n : ℕ) (l : List (ℕ × ℕ)) → Rises (2 * (a + 1)) l → DotsUpTo n l → Cut a n l
cut_later a n l h dots =
    let value : found_in as_value a l ≡ None = no_value (2 * (a + 1)) a l (omega arith) h in
    let mark : found_in as_hopeless a l ≡ None = no_mark (2 * (a + 1)) a l (omega arith) h in
    let nothing : part l a ≡ [] = ap (λ o. value_part o a ++ hopeless_part (found_in as_hopeless a l) a) value ∙ ap (λ o. hopeless_part o a) mark in
    record { rest = l; whole = sym (ap (λ p. p ++ l) nothing); rises = h; dots = dots; same = λ d lt. refl }

-- what a list has that begins with a mark of the dot a
marks_part : (a : ℕ) (x : ℕ × ℕ) (xs : List (ℕ × ℕ)) → nat_lt x.0 HOPELESS ≡ false → x.1 ≡ a → 2 * a < rank x + 1 → x.0 ≤ HOPELESS → Rises (rank x + 1) xs → part (x ∷ xs) a ≡ x ∷ []
marks_part a x xs e at lt le h =
    let value : found_in as_value a (x ∷ xs) ≡ None = ap (λ o. found_first a x.1 o (found_in as_value a xs)) (as_value_is x.0 false e) ∙ no_value (rank x + 1) a xs lt h in
    let mark : found_in as_hopeless a (x ∷ xs) ≡ Some (tt {0}) = ap (λ o. found_first a x.1 o (found_in as_hopeless a xs)) (as_mark_is x.0 false e)
    ∙ ap (λ b. cond b (Some (tt {0})) (found_in as_hopeless a xs)) (eq-eqb a x.1 (sym at)) in
    let is : x.0 ≡ HOPELESS = let ge : HOPELESS ≤ x.0 = ltb-false x.0 HOPELESS e in omega arith in
    ap (λ o. value_part o a ++ hopeless_part (found_in as_hopeless a (x ∷ xs)) a) value
    ∙ ap (λ o. hopeless_part o a) mark
    ∙ (λ i. (sym is i, sym at i) ∷ [])

cut_marks : (a n : ℕ) (x : ℕ × ℕ) (xs : List (ℕ × ℕ)) → nat_lt x.0 HOPELESS ≡ false → x.1 ≡ a → x.0 ≤ HOPELESS → Rises (rank x + 1) xs → DotsUpTo n xs → Cut a n (x ∷ xs)
cut_marks a n x xs e at le h dots =
    let is : rank x ≡ 2 * x.1 + 1 = rank_mark x e in
    record {
      rest = xs;
      whole = sym (ap (λ p. p ++ xs) (marks_part a x xs e at (omega arith) le h));
      rises = rises_less (rank x + 1) (2 * (a + 1)) xs (omega arith) h;
      dots = dots;
      same = λ d lt. past_first x xs d (λ z. omega arith);
    }

-- what a list has that begins with a value of the dot a
values_part : (a : ℕ) (x : ℕ × ℕ) (xs : List (ℕ × ℕ)) → nat_lt x.0 HOPELESS ≡ true → x.1 ≡ a → part (x ∷ xs) a ≡ x ∷ hopeless_part (found_in as_hopeless a xs) a
values_part a x xs e at =
    let value : found_in as_value a (x ∷ xs) ≡ Some x.0 = ap (λ o. found_first a x.1 o (found_in as_value a xs)) (as_value_is x.0 true e)
    ∙ ap (λ b. cond b (Some x.0) (found_in as_value a xs)) (eq-eqb a x.1 (sym at)) in
    let mark : found_in as_hopeless a (x ∷ xs) ≡ found_in as_hopeless a xs = ap (λ o. found_first a x.1 o (found_in as_hopeless a xs)) (as_mark_is x.0 true e) in
    ap (λ o. value_part o a ++ hopeless_part (found_in as_hopeless a (x ∷ xs)) a) value
    ∙ ap (λ o. (x.0, a) ∷ hopeless_part o a) mark
    ∙ (λ i. (x.0, sym at i) ∷ hopeless_part (found_in as_hopeless a xs) a)

-- behind a value of the dot a its mark may stand
cut_values : (a n : ℕ) (x : ℕ × ℕ) (xs : List (ℕ × ℕ)) → nat_lt x.0 HOPELESS ≡ true → x.1 ≡ a → Rises (rank x + 1) xs → DotsUpTo n xs → (c : Cut a n xs)
    → found_in as_value a xs ≡ None → Cut a n (x ∷ xs)
cut_values a n x xs e at h dots c none =
    let marks : part xs a ≡ hopeless_part (found_in as_hopeless a xs) a = ap (λ o. value_part o a ++ hopeless_part (found_in as_hopeless a xs) a) none in
    record {
      rest = c.rest;
      whole = ap (λ l. x ∷ l) c.whole ∙ ap (λ p. x ∷ (p ++ c.rest)) marks ∙ sym (ap (λ p. p ++ c.rest) (values_part a x xs e at));
      rises = c.rises;
      dots = c.dots;
      same = λ d lt. past_first x xs d (λ z. omega arith) ∙ c.same d lt;
    }

cut : (a n : ℕ) (l : List (ℕ × ℕ)) → Rises (2 * a) l → DotsUpTo n l → Cut a n l
cut a n [] h dots = cut_later a n [] tt tt
cut a n (x ∷ xs) h dots = elim (cases_Bool (nat_lt x.0 HOPELESS)) [
  | inl e ↦ elim (cases_eq x.1 a) [
    | inl at ↦
        let is : rank x ≡ 2 * x.1 = rank_value x e in
        let rest : Rises (2 * a + 1) xs = rises_less (rank x + 1) (2 * a + 1) xs (omega arith) h.3 in
        cut_values a n x xs e at h.3 dots.1 (behind a n xs rest dots.1) (no_value (2 * a + 1) a xs (omega arith) rest)
    | inr n' ↦
        let is : rank x ≡ 2 * x.1 = rank_value x e in
        cut_later a n (x ∷ xs) (omega (arith, h.0), h.1, h.2, h.3) dots
  ]
  | inr e ↦ elim (cases_eq x.1 a) [
    | inl at ↦ cut_marks a n x xs e at h.2 h.3 dots.1
    | inr n' ↦
        let is : rank x ≡ 2 * x.1 + 1 = rank_mark x e in
        cut_later a n (x ∷ xs) (omega (arith, h.0), h.1, h.2, h.3) dots
  ]
]
  where
    behind : (a n : ℕ) (l : List (ℕ × ℕ)) → Rises (2 * a + 1) l → DotsUpTo n l → Cut a n l
    behind a n [] h dots = cut_later a n [] tt tt
    behind a n (x ∷ xs) h dots = elim (cases_Bool (nat_lt x.0 HOPELESS)) [
      | inl e ↦
          let is : rank x ≡ 2 * x.1 = rank_value x e in
          cut_later a n (x ∷ xs) (omega (arith, h.0), h.1, h.2, h.3) dots
      | inr e ↦ elim (cases_eq x.1 a) [
        | inl at ↦ cut_marks a n x xs e at h.2 h.3 dots.1
        | inr n' ↦
            let is : rank x ≡ 2 * x.1 + 1 = rank_mark x e in
            cut_later a n (x ∷ xs) (omega (arith, h.0), h.1, h.2, h.3) dots
      ]
    ]

-- parts that agree from a on
pub same_parts : (f g : ℕ → List (ℕ × ℕ)) (a n : ℕ) → ((d : ℕ) → a ≤ d → f d ≡ g d) → flat_map f (range_with_len a n) ≡ flat_map g (range_with_len a n)
same_parts f g a zero same = refl
same_parts f g a (suc n) same = ap (λ l. l ++ flat_map f (range_with_len (a + 1) n)) (same a (omega arith)) ∙ ap (λ l. g a ++ l) (same_parts f g (a + 1) n (λ d le. same d (omega arith)))

-- the parts of a list, dot by dot, are the list
pub rebuilt : (n a m : ℕ) (l : List (ℕ × ℕ)) → Rises (2 * a) l → DotsUpTo m l → m < a + n → flat_map (part l) (range_with_len a n) ≡ l
rebuilt zero a m [] h dots lt = refl
rebuilt zero a m (x ∷ xs) h dots lt = elim (cases_Bool (nat_lt x.0 HOPELESS)) [
  | inl e ↦ let is : rank x ≡ 2 * x.1 = rank_value x e in absurd (omega (arith, h.0, dots.0))
  | inr e ↦ let is : rank x ≡ 2 * x.1 + 1 = rank_mark x e in absurd (omega (arith, h.0, dots.0))
]
rebuilt (suc n) a m l h dots lt =
    let c = cut a m l h dots in
    ap (λ t. part l a ++ t) (same_parts (part l) (part c.rest) (a + 1) n (λ d le. c.same d (omega arith)) ∙ rebuilt n (a + 1) m c.rest c.rises c.dots (omega arith))
    ∙ sym c.whole
