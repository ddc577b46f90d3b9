-- Laws of heads: what one more record changes, and that equal lists have equal heads.
use Rattle.std.proofs.Common.{◌≡◌, ℕ, ◌+◌, ◌<◌, ◌≤◌, List, [], ◌∷◌, ◌++◌, length, get_or, fold, take, drop, slice_get, Some, suc, zero, refl, sym, ◌∙◌, ap, arith, inl, inr}
use Rattle.std.proofs.lemmas.List.{get_or_append_left, get_or_push, length_push, append_assoc, append-nil, take-append-drop, drop_more, length-take-le}
use Rattle.std.proofs.lemmas.List.Sums.{fold-append}
use Rattle.std.proofs.lemmas.Option.{slice_get_within, get_or_from_slice_get, slice_get_cases}
use Rattle.pg_outputs.specs.declared.records.Record.{Record}
use Rattle.pg_outputs.specs.Lists.{list_of}
use Rattle.pg_outputs.specs.Inside.Heads.{Grows, OneHeadEach}
use Rattle.pg_outputs.specs.Inside.Records.{AreShared}

-- the lists by their heads, with that of one more record
abbrev with_record : List (List (ℕ × ℕ)) → Record → List (List (ℕ × ℕ))
with_record lists r = lists ++ ((r.value, r.dot) ∷ get_or lists r.next []) ∷ []

-- the lists of the heads 0, 1, 2 and so on
abbrev pub lists : List Record → List (List (ℕ × ℕ))
lists records = fold with_record ([] ∷ []) records

-- each step adds one list
length-fold_lists : (ls : List (List (ℕ × ℕ))) (rs : List Record) → length (fold with_record ls rs) ≡ length ls + length rs
length-fold_lists ls [] = omega arith
length-fold_lists ls (r ∷ rs) = omega (arith, length-fold_lists (with_record ls r) rs, length_push ls ((r.value, r.dot) ∷ get_or ls r.next []))

pub length-lists : (rs : List Record) → length (lists rs) ≡ length rs + 1
length-lists rs = omega (arith, length-fold_lists ([] ∷ []) rs)

-- head 0 is the empty list
pub list_of-zero : (rs : List Record) → list_of rs 0 ≡ []
unfolding list_of
list_of-zero rs = kept ([] ∷ []) rs (omega arith)
  where
    kept : (ls : List (List (ℕ × ℕ))) (rs : List Record) → 0 < length ls → get_or (fold with_record ls rs) 0 [] ≡ get_or ls 0 []
    kept ls [] h = refl
    kept ls (r ∷ rs) h =
        kept (with_record ls r) rs (omega (arith, length_push ls ((r.value, r.dot) ∷ get_or ls r.next [])))
        ∙ get_or_append_left ls (((r.value, r.dot) ∷ get_or ls r.next []) ∷ []) [] 0 h

-- one more record leaves the lists of the old heads
pub list_of-old : (rs : List Record) (r : Record) (h : ℕ) → h ≤ length rs → list_of (rs ++ r ∷ []) h ≡ list_of rs h
unfolding list_of
list_of-old rs r h le =
    ap (λ ls. get_or ls h []) (fold-append with_record ([] ∷ []) rs (r ∷ []))
    ∙ get_or_append_left (lists rs) (((r.value, r.dot) ∷ get_or (lists rs) r.next []) ∷ []) [] h (omega (arith, length-lists rs))

-- and its own head stands for its value and dot, and then the list at its next
pub list_of-new : (rs : List Record) (r : Record) → list_of (rs ++ r ∷ []) (length rs + 1) ≡ (r.value, r.dot) ∷ list_of rs r.next
unfolding list_of
list_of-new rs r =
    ap (λ ls. get_or ls (length rs + 1) []) (fold-append with_record ([] ∷ []) rs (r ∷ []))
    ∙ get_or_push (lists rs) ((r.value, r.dot) ∷ get_or (lists rs) r.next []) [] (length rs + 1) (length-lists rs)

-- further records leave the lists of the old heads
pub list_of-append : (rs ts : List Record) (h : ℕ) → h ≤ length rs → list_of (rs ++ ts) h ≡ list_of rs h
list_of-append rs [] h le = ap (λ l. list_of l h) (append-nil rs)
list_of-append rs (t ∷ ts) h le =
    ap (λ l. list_of l h) (sym (append_assoc rs (t ∷ []) ts))
    ∙ list_of-append (rs ++ t ∷ []) ts h (omega (arith, length_push rs t))
    ∙ list_of-old rs t h le

-- the list at the head of a record that leads back
pub list_of-at : (rs : List Record) (i : ℕ) (r : Record) → slice_get rs i ≡ Some r → r.next ≤ i → list_of rs (i + 1) ≡ (r.value, r.dot) ∷ list_of rs r.next
list_of-at rs i r at back =
    let inside : i < length rs = slice_get_within rs i r at in
    let size : length (take i rs) ≡ i = length-take-le i rs (omega arith) in
    let whole : (take i rs ++ r ∷ []) ++ drop (i + 1) rs ≡ rs =
    append_assoc (take i rs) (r ∷ []) (drop (i + 1) rs)
    ∙ ap (λ x. take i rs ++ x ∷ drop (i + 1) rs) (sym (get_or_from_slice_get rs i r r at))
    ∙ ap (λ l. take i rs ++ l) (sym (drop_more rs i r inside))
    ∙ take-append-drop i rs in
    let front : take i rs ++ drop i rs ≡ rs = take-append-drop i rs in
    ap (λ l. list_of l (i + 1)) (sym whole)
    ∙ list_of-append (take i rs ++ r ∷ []) (drop (i + 1) rs) (i + 1) (omega (arith, length_push (take i rs) r))
    ∙ ap (λ n. list_of (take i rs ++ r ∷ []) (n + 1)) (sym size)
    ∙ list_of-new (take i rs) r
    ∙ ap (λ l. (r.value, r.dot) ∷ l) (sym (list_of-append (take i rs) (drop i rs) r.next (omega arith)) ∙ ap (λ l. list_of l r.next) front)

pub grows_none : (rs : List Record) → Grows rs rs
grows_none rs = record { longer = omega arith; same = λ h le. refl }

pub grows_push : (rs : List Record) (r : Record) → Grows rs (rs ++ r ∷ [])
grows_push rs r = record { longer = omega (arith, length_push rs r); same = list_of-old rs r }

parts_of : (x y : Record) (xs ys : List (ℕ × ℕ)) → (x.value, x.dot) ∷ xs ≡ (y.value, y.dot) ∷ ys → (x.value ≡ y.value) × (x.dot ≡ y.dot) × (xs ≡ ys)
parts_of x y xs ys e =
    let first : (x.value, x.dot) ≡ (y.value, y.dot) = cc in
    (ap (λ (p : ℕ × ℕ). p.0) first, ap (λ (p : ℕ × ℕ). p.1) first, cc)

-- equal lists have equal heads, where each record leads back and no two are equal
pub one_head_each : (rs : List Record) → AreShared rs → OneHeadEach rs
one_head_each rs shared h k = below h h k (omega arith)
  where
    at : (i : ℕ) → i < length rs → (r : Record) × (slice_get rs i ≡ Some r) × (list_of rs (i + 1) ≡ (r.value, r.dot) ∷ list_of rs r.next) × (r.next ≤ i)
    at i lt = elim ((slice_get_cases rs i).1) [
      | inl g ↦ (g.0, g.2, list_of-at rs i g.0 g.2 (shared.back i g.0 g.2), shared.back i g.0 g.2)
      | inr g ↦ absurd (omega (arith, g.0))
    ]

    below : (n h k : ℕ) → h ≤ n → h ≤ length rs → k ≤ length rs → list_of rs h ≡ list_of rs k → h ≡ k
    below n zero zero lt hin kin e = refl
    below n zero (suc j) lt hin kin e =
        let b = at j (omega arith) in
        let x : [] ≡ (b.0.value, b.0.dot) ∷ list_of rs b.0.next = sym (list_of-zero rs) ∙ e ∙ ap (list_of rs) (omega arith) ∙ b.2 in cc
    below n (suc i) zero lt hin kin e =
        let a = at i (omega arith) in
        let x : [] ≡ (a.0.value, a.0.dot) ∷ list_of rs a.0.next = sym (list_of-zero rs) ∙ sym e ∙ ap (list_of rs) (omega arith) ∙ a.2 in cc
    below zero (suc i) (suc j) lt hin kin e = absurd (omega arith)
    below (suc n) (suc i) (suc j) lt hin kin e =
        let a = at i (omega arith) in
        let b = at j (omega arith) in
        let both : (a.0.value, a.0.dot) ∷ list_of rs a.0.next ≡ (b.0.value, b.0.dot) ∷ list_of rs b.0.next =
        sym a.2 ∙ ap (list_of rs) (omega arith) ∙ e ∙ ap (list_of rs) (omega arith) ∙ b.2 in
        let parts = parts_of a.0 b.0 (list_of rs a.0.next) (list_of rs b.0.next) both in
        let next : a.0.next ≡ b.0.next = below n a.0.next b.0.next (omega (arith, a.3)) (omega (arith, a.3)) (omega (arith, b.3)) parts.2 in
        let same : a.0 ≡ b.0 = λ t. record { value = parts.0 t; dot = parts.1 t; next = next t } in
        let place : i ≡ j = shared.apart i j b.0 (a.1 ∙ ap Some same) b.1 in
        omega arith
