-- One sign more of a family is collected.
use Rattle.std.proofs.Common.{◌≡◌, ◌≢◌, ℕ, ◌+◌, ◌-◌, ◌<◌, ◌≤◌, inl, inr, Bool, true, false, cond, nat_eq, List, [], ◌∷◌, ◌++◌, filter, length, take, get_or, None, Some, suc, zero, refl, sym, ◌∙◌, ap, subst, arith, add-zero, add-one}
use Rattle.std.proofs.lemmas.Bool.{cases_lt, eq-eqb, eqb-true, ne_eqb}
use Rattle.std.proofs.lemmas.List.{append-nil, length_push, map_push, take-append-le, take_at, get_or_append_left, get_or_push, length-map}
use Rattle.std.specs.List.{range_with_len}
use Rattle.pg_cells.specs.declared.store.fit.Slot.{Slot}
use Rattle.pg_cells.specs.Inside.store.CellRows.{Row, sign_at}
use Rattle.pg_cells.specs.Inside.store.Fit.{slot_signs, slot_of}
use Rattle.pg_cells.specs.Inside.linked.Members.{IsNext, ArePassing, number_before}
use Rattle.pg_cells.specs.Inside.families.Moves.{AreDistinct, TellsCell, AreSlotsOf, Collects}
use Rattle.pg_cells.proofs.Slots.{slot_push, slot_back}

-- the last number of a range passes, or it does not
filter_last : (t : ℕ → Bool) (a n : ℕ) → filter t (range_with_len a (suc n)) ≡ filter t (range_with_len a n) ++ cond (t (a + n)) ((a + n) ∷ []) []
filter_last t a zero = ap (λ x. cond (t x) (x ∷ []) []) (sym (add-zero a))
filter_last t a (suc n) =
    let rest = filter_last t (a + 1) n in
    let last : (a + 1) + n ≡ a + suc n = omega arith in
    let whole : filter t (range_with_len (a + 1) (suc n)) ≡ filter t (range_with_len (a + 1) n) ++ cond (t (a + suc n)) ((a + suc n) ∷ []) [] =
    rest ∙ ap (λ x. filter t (range_with_len (a + 1) n) ++ cond (t x) (x ∷ []) []) last in
    ap (λ l. cond (t a) (a ∷ l) l) whole ∙ out (t a) (filter t (range_with_len (a + 1) n)) (cond (t (a + suc n)) ((a + suc n) ∷ []) [])
  where
    out : (b : Bool) (xs ys : List ℕ) → cond b (a ∷ (xs ++ ys)) (xs ++ ys) ≡ cond b (a ∷ xs) xs ++ ys
    out true xs ys = refl
    out false xs ys = refl

-- the number before the index after k
pub number_next : (xs : List ℕ) (k : ℕ) → number_before xs (k + 1) ≡ get_or xs k 0
number_next xs k = ap (λ j. get_or (0 ∷ xs) j 0) (add-one k)

module _ {V : Type 0} (r : Row V) (base : ℕ) where
  pub collected_none : AreSlotsOf 0 r base []
  collected_none = record {
    signs = refl;
    told = λ x s e. cc;
    distinct = λ k lt. absurd (omega arith);
    late = λ y lt. refl;
  }

  -- a sign that does not stand
  collected_less : (m : ℕ) (slots : List (Slot V)) → AreSlotsOf m r base slots → sign_at r (base + (m + 1)) ≢ m + 1 → AreSlotsOf (m + 1) r base slots
  collected_less m slots c off = record {
    signs =
        c.signs ∙ sym (append-nil (filter (λ x. nat_eq (sign_at r (base + x)) x) (range_with_len 1 m)))
        ∙ ap (λ b. filter (λ x. nat_eq (sign_at r (base + x)) x) (range_with_len 1 m) ++ cond b ((1 + m) ∷ []) []) (sym fails)
        ∙ sym (filter_last (λ x. nat_eq (sign_at r (base + x)) x) 1 m)
        ∙ ap (λ k. filter (λ x. nat_eq (sign_at r (base + x)) x) (range_with_len 1 k)) more;
    told = c.told;
    distinct = c.distinct;
    late = λ y lt. c.late y (omega arith);
  }
    where
      same : 1 + m ≡ m + 1
      same = omega arith

      more : suc m ≡ m + 1
      more = omega arith

      fails : nat_eq (sign_at r (base + (1 + m))) (1 + m) ≡ false
      fails = ne_eqb (sign_at r (base + (1 + m))) (1 + m) (λ z. off (ap (λ k. sign_at r (base + k)) (sym same) ∙ z ∙ same))

  distinct_push : (m : ℕ) (slots : List (Slot V)) (y : Slot V) → AreSlotsOf m r base slots → y.sign ≡ m + 1 → AreDistinct (slots ++ y ∷ [])
  distinct_push m slots y c is k lt = elim (cases_lt k (length slots)) [
    | inl early ↦
        let front : take k (slots ++ y ∷ []) ≡ take k slots = take-append-le k slots (y ∷ []) (omega arith) in
        let sign : get_or (slot_signs (slots ++ y ∷ [])) k 0 ≡ get_or (slot_signs slots) k 0 =
        ap (λ l. get_or l k 0) (map_push (λ (z : Slot V). z.sign) slots y) ∙ get_or_append_left (slot_signs slots) (y.sign ∷ []) 0 k (omega (arith, length-map slots (λ (z : Slot V). z.sign))) in
        (λ t. slot_of (front t) (sign t)) ∙ c.distinct k early
    | inr late ↦
        let size : length slots ≡ k = omega (arith, length_push slots y) in
        let front : take k (slots ++ y ∷ []) ≡ slots = take_at slots (y ∷ []) k size in
        let sign : get_or (slot_signs (slots ++ y ∷ [])) k 0 ≡ y.sign =
        ap (λ l. get_or l k 0) (map_push (λ (z : Slot V). z.sign) slots y) ∙ get_or_push (slot_signs slots) y.sign 0 k (length-map slots (λ (z : Slot V). z.sign) ∙ size) in
        (λ t. slot_of (front t) (sign t)) ∙ c.late y.sign (omega arith)
  ]

  -- a sign that stands
  collected_more : (m : ℕ) (slots : List (Slot V)) (y : Slot V) → AreSlotsOf m r base slots → TellsCell r base (m + 1) y → y.sign ≡ m + 1 → AreSlotsOf (m + 1) r base (slots ++ y ∷ [])
  collected_more m slots y c tells is = record {
    signs =
        map_push (λ (z : Slot V). z.sign) slots y ∙ ap (λ k. slot_signs slots ++ k ∷ []) (is ∙ sym same) ∙ ap (λ l. l ++ (1 + m) ∷ []) c.signs
        ∙ ap (λ b. filter (λ x. nat_eq (sign_at r (base + x)) x) (range_with_len 1 m) ++ cond b ((1 + m) ∷ []) []) (sym passes)
        ∙ sym (filter_last (λ x. nat_eq (sign_at r (base + x)) x) 1 m)
        ∙ ap (λ k. filter (λ x. nat_eq (sign_at r (base + x)) x) (range_with_len 1 k)) more;
    told = λ x s e. elim (slot_push slots y x s e) [
      | inl h ↦ c.told x s h
      | inr h ↦ subst (λ z. TellsCell r base z s) (sym (h.1 ∙ is)) (subst (TellsCell r base (m + 1)) (sym h.2) tells)
    ];
    distinct = distinct_push m slots y c is;
    late = λ z lt.
        slot_back slots (y ∷ []) z (c.late z (omega arith))
        ∙ ap (λ b. cond b (Some y) None) (ne_eqb y.sign z (λ e. omega arith));
  }
    where
      same : 1 + m ≡ m + 1
      same = omega arith

      more : suc m ≡ m + 1
      more = omega arith

      passes : nat_eq (sign_at r (base + (1 + m))) (1 + m) ≡ true
      passes = eq-eqb (sign_at r (base + (1 + m))) (1 + m) (ap (λ k. sign_at r (base + k)) same ∙ tells.sign ∙ sym same)

  -- signs that do not stand
  collected_gap : (m gap : ℕ) (slots : List (Slot V)) → ((y : ℕ) → m < y → y ≤ m + gap → sign_at r (base + y) ≢ y) → AreSlotsOf m r base slots → AreSlotsOf (m + gap) r base slots
  collected_gap m zero slots none c = let same : m ≡ m + 0 = omega arith in subst (λ k. AreSlotsOf k r base slots) same c
  collected_gap m (suc gap) slots none c =
      let same : m + gap + 1 ≡ m + suc gap = omega arith in
      subst (λ k. AreSlotsOf k r base slots) same
      (collected_less (m + gap) slots (collected_gap m gap slots (λ y low le. none y low (omega arith)) c) (none (m + gap + 1) (omega arith) (omega arith)))

  collected_up : (m k : ℕ) (slots : List (Slot V)) → m ≤ k → ((y : ℕ) → m < y → y ≤ k → sign_at r (base + y) ≢ y) → AreSlotsOf m r base slots → AreSlotsOf k r base slots
  collected_up m k slots le none c =
      let same : m + (k - m) ≡ k = omega arith in
      subst (λ j. AreSlotsOf j r base slots) same (collected_gap m (k - m) slots (λ y low up. none y low (omega arith)) c)

  -- the next sign that stands
  pub collected_next : (m x : ℕ) (slots new : List (Slot V)) → IsNext (λ z. nat_eq (sign_at r (base + z)) z) m x → 0 < x → AreSlotsOf m r base slots
      → Collects r base x slots new → AreSlotsOf x r base new
  collected_next m x slots new next up c step =
      let found = next.found up in
      let same : x - 1 + 1 ≡ x = omega arith in
      let before : AreSlotsOf (x - 1) r base slots = collected_up m (x - 1) slots (let less = found.0 in omega arith)
      (λ y low le e. let least = next.least y low (eq-eqb (sign_at r (base + y)) y e) in let most = least.1 in omega arith) c in
      elim step [
        | inl h ↦ absurd (h.0 (eqb-true (sign_at r (base + x)) x found.1))
        | inr h ↦ subst (λ j. AreSlotsOf j r base new) same (subst (AreSlotsOf (x - 1 + 1) r base) (sym h.3)
            (collected_more (x - 1) slots h.0 before (subst (λ j. TellsCell r base j h.0) (sym same) h.1) (h.2 ∙ sym same)))
      ]

  -- no further sign stands
  pub collected_end : (m n : ℕ) (slots : List (Slot V)) → m ≤ n → IsNext (λ z. nat_eq (sign_at r (base + z)) z) m 0 → AreSlotsOf m r base slots → AreSlotsOf n r base slots
  collected_end m n slots le next c =
      collected_up m n slots le (λ y low up e. let least = next.least y low (eq-eqb (sign_at r (base + y)) y e) in let no = least.0 in omega arith) c

  -- the last sign that is collected is within the table
  pub last_within : (n : ℕ) (xs : List ℕ) → ((i : ℕ) → sign_at r i ≤ n) → ArePassing (λ z. nat_eq (sign_at r (base + z)) z) xs → number_before xs (length xs) ≤ n
  last_within n [] small are = omega arith
  last_within n (x ∷ xs) small are =
      let k = length xs in
      let last = are.each k (omega arith) in
      let stands : sign_at r (base + get_or (x ∷ xs) k 0) ≡ get_or (x ∷ xs) k 0 = eqb-true (sign_at r (base + get_or (x ∷ xs) k 0)) (get_or (x ∷ xs) k 0) (last.1.found last.0).1 in
      let le = small (base + get_or (x ∷ xs) k 0) in
      omega arith
