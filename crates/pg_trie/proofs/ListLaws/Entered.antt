-- A list with one value or mark more.
use Rattle.std.proofs.Common.{◌≡◌, ◌≢◌, ℕ, ◌+◌, ◌*◌, ◌<◌, ◌≤◌, ◌⊎◌, max, Bool, true, false, cond, nat_lt, nat_eq, List, [], ◌∷◌, Option, None, Some, unwrap_or, inl, inr, refl, sym, ◌∙◌, ap, subst, arith}
use Rattle.std.proofs.lemmas.Bool.{ltb-true, ltb-false, lt-ltb, le-ltb, eq-eqb, ne_eqb, eqb-true, cases_Bool, cases_order}
use Rattle.pg_trie.specs.declared.hopeless.TheConstants.{HOPELESS}
use Rattle.pg_trie.specs.Inside.Lists.{rank, list_with, Rises, DotsUpTo}
use Rattle.pg_trie.specs.Inside.Maps.{as_value, as_hopeless}
use Rattle.pg_trie.proofs.ListLaws.Found.{found_first, found_in}
use Rattle.pg_trie.proofs.ListLaws.Rising.{rank_value, rank_mark, as_value_is, as_mark_is, no_value}

-- where x stands: before y, beside it, or behind it
cases_entered : (x y : ℕ × ℕ) (ys : List (ℕ × ℕ))
    → ((rank x < rank y) × (list_with x (y ∷ ys) ≡ x ∷ y ∷ ys)) ⊎ (((rank x ≡ rank y) × (list_with x (y ∷ ys) ≡ (max x.0 y.0, y.1) ∷ ys))
    ⊎ ((rank y < rank x) × (list_with x (y ∷ ys) ≡ y ∷ list_with x ys)))
cases_entered x y ys =
    let later = cond (nat_eq (rank x) (rank y)) ((max x.0 y.0, y.1) ∷ ys) (y ∷ list_with x ys) in
    elim (cases_order (rank x) (rank y)) [
      | inl e ↦ inr (inl (
        e,
        ap (λ b. cond b (x ∷ y ∷ ys) later) (le-ltb (rank x) (rank y) (omega arith))
            ∙ ap (λ b. cond b ((max x.0 y.0, y.1) ∷ ys) (y ∷ list_with x ys)) (eq-eqb (rank x) (rank y) e),
      ))
      | inr o ↦ elim o [
        | inl lt ↦ inl (lt, ap (λ b. cond b (x ∷ y ∷ ys) later) (lt-ltb (rank x) (rank y) lt))
        | inr gt ↦
            let other : rank x ≢ rank y = λ z. omega arith in
            inr (inr (
              gt,
              ap (λ b. cond b (x ∷ y ∷ ys) later) (le-ltb (rank x) (rank y) (omega arith))
                  ∙ ap (λ b. cond b ((max x.0 y.0, y.1) ∷ ys) (y ∷ list_with x ys)) (ne_eqb (rank x) (rank y) other),
            ))
      ]
    ]

-- values and marks of one rank are of one kind
same_kind : (x y : ℕ × ℕ) (b : Bool) → rank x ≡ rank y → nat_lt x.0 HOPELESS ≡ b → (nat_lt y.0 HOPELESS ≡ b) × (x.1 ≡ y.1)
same_kind x y true e is =
    let r : rank x ≡ 2 * x.1 = rank_value x is in
    elim (cases_Bool (nat_lt y.0 HOPELESS)) [
      | inl h ↦ let s : rank y ≡ 2 * y.1 = rank_value y h in (h, omega arith)
      | inr h ↦ let s : rank y ≡ 2 * y.1 + 1 = rank_mark y h in absurd (omega arith)
    ]
same_kind x y false e is =
    let r : rank x ≡ 2 * x.1 + 1 = rank_mark x is in
    elim (cases_Bool (nat_lt y.0 HOPELESS)) [
      | inl h ↦ let s : rank y ≡ 2 * y.1 = rank_value y h in absurd (omega arith)
      | inr h ↦ let s : rank y ≡ 2 * y.1 + 1 = rank_mark y h in (h, omega arith)
    ]

greater_kind : (x y : ℕ) (b : Bool) → nat_lt x HOPELESS ≡ b → nat_lt y HOPELESS ≡ b → nat_lt (max x y) HOPELESS ≡ b
greater_kind x y true e d =
    let low : x < HOPELESS = ltb-true x HOPELESS e in
    let low' : y < HOPELESS = ltb-true y HOPELESS d in
    lt-ltb (max x y) HOPELESS (omega arith)
greater_kind x y false e d = let high : HOPELESS ≤ x = ltb-false x HOPELESS e in le-ltb (max x y) HOPELESS (omega arith)

greater_rank : (x y : ℕ × ℕ) → rank x ≡ rank y → rank (max x.0 y.0, y.1) ≡ rank y
greater_rank x y e = elim (cases_Bool (nat_lt x.0 HOPELESS)) [
  | inl is ↦
      let y_is = same_kind x y true e is in
      rank_value (max x.0 y.0, y.1) (greater_kind x.0 y.0 true is y_is.0) ∙ sym (rank_value y y_is.0)
  | inr is ↦
      let y_is = same_kind x y false e is in
      rank_mark (max x.0 y.0, y.1) (greater_kind x.0 y.0 false is y_is.0) ∙ sym (rank_mark y y_is.0)
]

-- the list rises still
pub rises-entered : (x : ℕ × ℕ) → 1 ≤ x.0 → x.0 ≤ HOPELESS → (r : ℕ) (xs : List (ℕ × ℕ)) → r ≤ rank x → Rises r xs → Rises r (list_with x xs)
rises-entered x low high r [] le h = (le, low, high, tt)
rises-entered x low high r (y ∷ ys) le h = elim (cases_entered x y ys) [
  | inl c ↦ subst (Rises r) (sym c.1) (le, low, high, (omega (arith, c.0), h.1, h.2, h.3))
  | inr o ↦ elim o [
    | inl c ↦
        let same : rank (max x.0 y.0, y.1) ≡ rank y = greater_rank x y c.0 in
        subst (Rises r) (sym c.1) (omega (arith, h.0), omega arith, omega (arith, h.2), subst (λ n. Rises (n + 1) ys) (sym same) h.3)
    | inr c ↦ subst (Rises r) (sym c.1) (h.0, h.1, h.2, rises-entered x low high (rank y + 1) ys (omega (arith, c.0)) h.3)
  ]
]

pub dots-entered : (x : ℕ × ℕ) (n : ℕ) → x.1 ≤ n → (xs : List (ℕ × ℕ)) → DotsUpTo n xs → DotsUpTo n (list_with x xs)
dots-entered x n le [] h = (le, tt)
dots-entered x n le (y ∷ ys) h = elim (cases_entered x y ys) [
  | inl c ↦ subst (DotsUpTo n) (sym c.1) (le, h)
  | inr o ↦ elim o [
    | inl c ↦ subst (DotsUpTo n) (sym c.1) h
    | inr c ↦ subst (DotsUpTo n) (sym c.1) (h.0, dots-entered x n le ys h.1)
  ]
]

-- what is found behind a first value, or a first mark
value_first : (d : ℕ) (x : ℕ × ℕ) (xs : List (ℕ × ℕ)) → nat_lt x.0 HOPELESS ≡ true → found_in as_value d (x ∷ xs) ≡ cond (nat_eq d x.1) (Some x.0) (found_in as_value d xs)
value_first d x xs e = ap (λ o. found_first d x.1 o (found_in as_value d xs)) (as_value_is x.0 true e)

mark_passed : (d : ℕ) (x : ℕ × ℕ) (xs : List (ℕ × ℕ)) → nat_lt x.0 HOPELESS ≡ false → found_in as_value d (x ∷ xs) ≡ found_in as_value d xs
mark_passed d x xs e = ap (λ o. found_first d x.1 o (found_in as_value d xs)) (as_value_is x.0 false e)

mark_first : (d : ℕ) (x : ℕ × ℕ) (xs : List (ℕ × ℕ)) → nat_lt x.0 HOPELESS ≡ false → found_in as_hopeless d (x ∷ xs) ≡ cond (nat_eq d x.1) (Some (tt {0})) (found_in as_hopeless d xs)
mark_first d x xs e = ap (λ o. found_first d x.1 o (found_in as_hopeless d xs)) (as_mark_is x.0 false e)

value_passed : (d : ℕ) (x : ℕ × ℕ) (xs : List (ℕ × ℕ)) → nat_lt x.0 HOPELESS ≡ true → found_in as_hopeless d (x ∷ xs) ≡ found_in as_hopeless d xs
value_passed d x xs e = ap (λ o. found_first d x.1 o (found_in as_hopeless d xs)) (as_mark_is x.0 true e)

module _ {X : Type 0} where
  swapped : (a b : Bool) (x y z : X) → (a ≡ true → b ≡ true → ⊥) → cond a x (cond b y z) ≡ cond b y (cond a x z)
  swapped true true x y z n = absurd (n refl refl)
  swapped true false x y z n = refl
  swapped false b x y z n = refl

  repeated : (b : Bool) (x y z : X) → cond b x (cond b y z) ≡ cond b x z
  repeated true x y z = refl
  repeated false x y z = refl

-- a value in the list: at its dot the greater one, and the others
pub value-entered : (x : ℕ × ℕ) → nat_lt x.0 HOPELESS ≡ true → (d r : ℕ) (xs : List (ℕ × ℕ)) → Rises r xs
    → found_in as_value d (list_with x xs) ≡ cond (nat_eq d x.1) (Some (max x.0 (unwrap_or (found_in as_value x.1 xs) 0))) (found_in as_value d xs)
value-entered x is d r [] h =
    let same : x.0 ≡ max x.0 0 = omega arith in
    value_first d x [] is ∙ ap (λ n. cond (nat_eq d x.1) (Some n) None) same
value-entered x is d r (y ∷ ys) h = elim (cases_entered x y ys) [
  | inl c ↦
      let r : rank x ≡ 2 * x.1 = rank_value x is in
      let none : found_in as_value x.1 (y ∷ ys) ≡ None = no_value (rank y) x.1 (y ∷ ys) (omega (arith, c.0)) (omega arith, h.1, h.2, h.3) in
      let same : x.0 ≡ max x.0 0 = omega arith in
      ap (found_in as_value d) c.1
      ∙ value_first d x (y ∷ ys) is
      ∙ ap (λ n. cond (nat_eq d x.1) (Some n) (found_in as_value d (y ∷ ys))) same
      ∙ ap (λ o. cond (nat_eq d x.1) (Some (max x.0 (unwrap_or o 0))) (found_in as_value d (y ∷ ys))) (sym none)
  | inr o ↦ elim o [
    | inl c ↦
        let y_is = same_kind x y true c.0 is in
        let found : found_in as_value x.1 (y ∷ ys) ≡ Some y.0 = value_first x.1 y ys y_is.0 ∙ ap (λ b. cond b (Some y.0) (found_in as_value x.1 ys)) (eq-eqb x.1 y.1 y_is.1) in
        ap (found_in as_value d) c.1
        ∙ value_first d (max x.0 y.0, y.1) ys (greater_kind x.0 y.0 true is y_is.0)
        ∙ sym (repeated (nat_eq d y.1) (Some (max x.0 y.0)) (Some y.0) (found_in as_value d ys))
        ∙ ap (λ e. cond (nat_eq d e) (Some (max x.0 y.0)) (cond (nat_eq d y.1) (Some y.0) (found_in as_value d ys))) (sym y_is.1)
        ∙ ap (cond (nat_eq d x.1) (Some (max x.0 y.0))) (sym (value_first d y ys y_is.0))
        ∙ ap (λ o. cond (nat_eq d x.1) (Some (max x.0 (unwrap_or o 0))) (found_in as_value d (y ∷ ys))) (sym found)
    | inr c ↦
        let more = value-entered x is d (rank y + 1) ys h.3 in
        let r : rank x ≡ 2 * x.1 = rank_value x is in
        elim (cases_Bool (nat_lt y.0 HOPELESS)) [
          | inl e ↦
              let s : rank y ≡ 2 * y.1 = rank_value y e in
              let other : x.1 ≢ y.1 = λ z. omega (arith, c.0) in
              let past : found_in as_value x.1 (y ∷ ys) ≡ found_in as_value x.1 ys = value_first x.1 y ys e ∙ ap (λ b. cond b (Some y.0) (found_in as_value x.1 ys)) (ne_eqb x.1 y.1 other) in
              ap (found_in as_value d) c.1
              ∙ value_first d y (list_with x ys) e
              ∙ ap (cond (nat_eq d y.1) (Some y.0)) more
              ∙ swapped (nat_eq d y.1) (nat_eq d x.1) (Some y.0) (Some (max x.0 (unwrap_or (found_in as_value x.1 ys) 0))) (found_in as_value d ys)
              (λ p q. other (sym (eqb-true d x.1 q) ∙ eqb-true d y.1 p))
              ∙ ap (cond (nat_eq d x.1) (Some (max x.0 (unwrap_or (found_in as_value x.1 ys) 0)))) (sym (value_first d y ys e))
              ∙ ap (λ o. cond (nat_eq d x.1) (Some (max x.0 (unwrap_or o 0))) (found_in as_value d (y ∷ ys))) (sym past)
          | inr e ↦
              ap (found_in as_value d) c.1
              ∙ mark_passed d y (list_with x ys) e
              ∙ more
              ∙ ap (cond (nat_eq d x.1) (Some (max x.0 (unwrap_or (found_in as_value x.1 ys) 0)))) (sym (mark_passed d y ys e))
              ∙ ap (λ o. cond (nat_eq d x.1) (Some (max x.0 (unwrap_or o 0))) (found_in as_value d (y ∷ ys))) (sym (mark_passed x.1 y ys e))
        ]
  ]
]

-- and its marks stay
pub marks_stay : (x : ℕ × ℕ) → nat_lt x.0 HOPELESS ≡ true → (d : ℕ) (xs : List (ℕ × ℕ)) → found_in as_hopeless d (list_with x xs) ≡ found_in as_hopeless d xs
marks_stay x is d [] = value_passed d x [] is
marks_stay x is d (y ∷ ys) = elim (cases_entered x y ys) [
  | inl c ↦ ap (found_in as_hopeless d) c.1 ∙ value_passed d x (y ∷ ys) is
  | inr o ↦ elim o [
    | inl c ↦
        let y_is = same_kind x y true c.0 is in
        ap (found_in as_hopeless d) c.1 ∙ value_passed d (max x.0 y.0, y.1) ys (greater_kind x.0 y.0 true is y_is.0) ∙ sym (value_passed d y ys y_is.0)
    | inr c ↦
        let more = marks_stay x is d ys in
        ap (found_in as_hopeless d) c.1 ∙ ap (found_first d y.1 (as_hopeless y.0)) more
  ]
]

-- a mark in the list
pub mark-entered : (x : ℕ × ℕ) → nat_lt x.0 HOPELESS ≡ false → (d : ℕ) (xs : List (ℕ × ℕ)) → found_in as_hopeless d (list_with x xs) ≡ cond (nat_eq d x.1) (Some (tt {0})) (found_in as_hopeless d xs)
mark-entered x is d [] = mark_first d x [] is
mark-entered x is d (y ∷ ys) = elim (cases_entered x y ys) [
  | inl c ↦ ap (found_in as_hopeless d) c.1 ∙ mark_first d x (y ∷ ys) is
  | inr o ↦ elim o [
    | inl c ↦
        let y_is = same_kind x y false c.0 is in
        ap (found_in as_hopeless d) c.1
        ∙ mark_first d (max x.0 y.0, y.1) ys (greater_kind x.0 y.0 false is y_is.0)
        ∙ sym (repeated (nat_eq d y.1) (Some (tt {0})) (Some (tt {0})) (found_in as_hopeless d ys))
        ∙ ap (λ e. cond (nat_eq d e) (Some (tt {0})) (cond (nat_eq d y.1) (Some (tt {0})) (found_in as_hopeless d ys))) (sym y_is.1)
        ∙ ap (cond (nat_eq d x.1) (Some (tt {0}))) (sym (mark_first d y ys y_is.0))
    | inr c ↦
        let more = mark-entered x is d ys in
        ap (found_in as_hopeless d) c.1 ∙ elim (cases_Bool (nat_lt y.0 HOPELESS)) [
          | inl e ↦ value_passed d y (list_with x ys) e ∙ more ∙ ap (cond (nat_eq d x.1) (Some (tt {0}))) (sym (value_passed d y ys e))
          | inr e ↦
              mark_first d y (list_with x ys) e
              ∙ ap (cond (nat_eq d y.1) (Some (tt {0}))) more
              ∙ turned (nat_eq d y.1) (nat_eq d x.1) (found_in as_hopeless d ys)
              ∙ ap (cond (nat_eq d x.1) (Some (tt {0}))) (sym (mark_first d y ys e))
        ]
  ]
]
  where
    turned : (a b : Bool) (o : Option (Unit {0})) → cond a (Some (tt {0})) (cond b (Some (tt {0})) o) ≡ cond b (Some (tt {0})) (cond a (Some (tt {0})) o)
    turned true true o = refl
    turned true false o = refl
    turned false b o = refl

-- and the values stay
pub values_stay : (x : ℕ × ℕ) → nat_lt x.0 HOPELESS ≡ false → (d : ℕ) (xs : List (ℕ × ℕ)) → found_in as_value d (list_with x xs) ≡ found_in as_value d xs
values_stay x is d [] = mark_passed d x [] is
values_stay x is d (y ∷ ys) = elim (cases_entered x y ys) [
  | inl c ↦ ap (found_in as_value d) c.1 ∙ mark_passed d x (y ∷ ys) is
  | inr o ↦ elim o [
    | inl c ↦
        let y_is = same_kind x y false c.0 is in
        ap (found_in as_value d) c.1 ∙ mark_passed d (max x.0 y.0, y.1) ys (greater_kind x.0 y.0 false is y_is.0) ∙ sym (mark_passed d y ys y_is.0)
    | inr c ↦
        let more = values_stay x is d ys in
        ap (found_in as_value d) c.1 ∙ ap (found_first d y.1 (as_value y.0)) more
  ]
]
