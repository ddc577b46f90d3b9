-- What the store keeps, when a cell is taken, given up, written or added.
use Rattle.std.proofs.Common.{◌≡◌, ◌≢◌, ℕ, ◌+◌, ◌-◌, ◌<◌, ◌≤◌, min, max, List, [], ◌∷◌, ◌++◌, inl, inr, refl, sym, ◌∙◌, ap, subst, arith, length, get_or, set, take, drop, zero, suc, slice_get, false}
use Rattle.std.proofs.lemmas.Bool.{cases_eq}
use Rattle.std.proofs.lemmas.List.{take_at, length-set, length-map, length_push, get_or-set_same, get_or-set_other, get_or_default}
use Rattle.pg_cells.specs.declared.store.cell.TheConstants.{CELLS_END}
use Rattle.pg_cells.specs.declared.store.cell.Cell.{Cell}
use Rattle.pg_cells.specs.declared.store.member.Member.{Member}
use Rattle.pg_cells.specs.Inside.store.CellRows.{sign_seen, Row, row_of, without_links, member_seen, sign_at, IsFree, with_taken, with_free, with_more}
use Rattle.pg_cells.proofs.RowCells.{taken_within}
use Rattle.pg_cells.specs.Inside.store.Store.{IsTop, IsKept, Extends, how_many, taken_in}

-- what a vector holds after its slice was lent and given back
pub given_back : {X : Type 0} (xs ys : List X) (n : ℕ) → length xs ≡ n → take n (xs ++ drop (length xs) ys) ≡ xs
given_back xs ys n e = take_at xs (drop (length xs) ys) n e

-- one number of the list is changed
pub how_many_set : (xs : List ℕ) (i y : ℕ) → i < length xs → how_many (set xs i y) + min (get_or xs i 0) 1 ≡ how_many xs + min y 1
how_many_set [] i y lt = absurd (omega arith)
how_many_set (x ∷ xs) zero y lt = omega arith
how_many_set (x ∷ xs) (suc i) y lt = let rest = how_many_set xs i y (omega arith) in omega arith

how_many_push : (xs : List ℕ) → how_many (xs ++ 0 ∷ []) ≡ how_many xs
how_many_push [] = refl
how_many_push (x ∷ xs) = ap (λ n. min x 1 + n) (how_many_push xs)

how_many_le : (xs : List ℕ) → how_many xs ≤ length xs
how_many_le [] = omega arith
how_many_le (x ∷ xs) = let rest = how_many_le xs in omega arith

pub taken_le : {V : Type 0} (cells : List (Cell V)) → taken_in (row_of cells) ≤ length cells
taken_le cells = omega (arith, how_many_le (row_of cells).signs, length-map cells sign_seen)

module _ {V : Type 0} (old new : List (Cell V)) (top taken : ℕ) (kept : IsKept old top taken) (size : length new ≡ length old) where
  -- a cell is written and keeps its sign
  pub kept_write : (row_of new).signs ≡ (row_of old).signs → IsKept new top taken
  kept_write signs = record {
    small = let h = kept.small in omega arith;
    greatest = subst (λ ss. IsTop ss top) (sym signs) kept.greatest;
    count = kept.count ∙ ap how_many (sym signs);
  }

  -- a free cell is taken
  pub kept_taken : (i sign : ℕ) (value : Member V) (child r : ℕ) → i < length old → IsFree (row_of old) i → sign ≢ 0 → row_of new ≡ with_taken (row_of old) i sign value child → r ≡ max top i
      → IsKept new r (taken + 1)
  kept_taken i sign value child r lt free positive e is = record {
    small = let h = kept.small in omega arith;
    greatest = subst (λ ss. IsTop ss r) (sym signs) (record { most = most; within = within; used = used });
    count = omega (arith, was, kept.count, how_many_set (row_of old).signs i sign in_i, ap how_many signs);
  }
    where
      signs : (row_of new).signs ≡ set (row_of old).signs i sign
      signs = ap (λ (x : Row (Member V)). x.signs) e

      in_i : i < length (row_of old).signs
      in_i = omega (arith, length-map old sign_seen)

      was : get_or (row_of old).signs i 0 ≡ 0
      was = get_or_default (row_of old).signs i 0 1 in_i ∙ free

      most : (j : ℕ) → get_or (set (row_of old).signs i sign) j 0 ≢ 0 → j ≤ r
      most j up = elim (cases_eq j i) [
        | inl here ↦ omega arith
        | inr n ↦ let h = kept.greatest.most j (λ z. up (get_or-set_other (row_of old).signs i j sign 0 n ∙ z)) in omega arith
      ]

      within : r < length (set (row_of old).signs i sign)
      within = let h = kept.greatest.within in omega (arith, in_i, length-set (row_of old).signs i sign)

      used : 0 < r → get_or (set (row_of old).signs i sign) r 0 ≢ 0
      used up = elim (cases_eq r i) [
        | inl here ↦ λ z. positive (sym (get_or-set_same (row_of old).signs i sign 0 in_i) ∙ ap (λ j. get_or (set (row_of old).signs i sign) j 0) (sym here) ∙ z)
        | inr n ↦
            let same : r ≡ top = omega arith in
            λ z. kept.greatest.used (omega arith) (ap (λ j. get_or (row_of old).signs j 0) (sym same) ∙ sym (get_or-set_other (row_of old).signs i r sign 0 n) ∙ z)
      ]

  -- a taken cell is given up
  pub kept_freed : (i r : ℕ) → i < length old → sign_at (row_of old) i ≢ 0 → row_of new ≡ with_free (row_of old) i
      → r ≤ top → (0 < r → sign_at (row_of new) r ≢ 0) → ((k : ℕ) → k ≤ top → sign_at (row_of new) k ≢ 0 → k ≤ r) → IsKept new r (taken - 1)
  kept_freed i r lt up e le used most = record {
    small = let h = kept.small in omega arith;
    greatest = record { most = all; within = let h = kept.greatest.within in omega (arith, ap length signs, length-set (row_of old).signs i 0); used = used };
    count = omega (arith, kept.count, how_many_set (row_of old).signs i 0 in_i, ap how_many signs);
  }
    where
      signs : (row_of new).signs ≡ set (row_of old).signs i 0
      signs = ap (λ (x : Row (Member V)). x.signs) e

      in_i : i < length (row_of old).signs
      in_i = omega (arith, length-map old sign_seen)

      all : (k : ℕ) → sign_at (row_of new) k ≢ 0 → k ≤ r
      all k here = most k (kept.greatest.most k (λ z. here (ap (λ ss. get_or ss k 0) signs ∙ elim (cases_eq k i) [
        | inl same ↦ ap (λ j. get_or (set (row_of old).signs i 0) j 0) same ∙ get_or-set_same (row_of old).signs i 0 0 in_i
        | inr n ↦ get_or-set_other (row_of old).signs i k 0 0 n ∙ z
      ]))) here

pub some_taken : {V : Type 0} (cells : List (Cell V)) (top taken i : ℕ) → IsKept cells top taken → sign_at (row_of cells) i ≢ 0 → 1 ≤ taken
some_taken cells top taken i kept up = omega (arith, kept.count, how_many_set (row_of cells).signs i 0 (taken_within (row_of cells) i up))

-- the default, put at the end, is not seen
pub get_or_push : {A : Type 0} (xs : List A) (d : A) (j : ℕ) → get_or (xs ++ d ∷ []) j d ≡ get_or xs j d
get_or_push [] d zero = refl
get_or_push [] d (suc j) = refl
get_or_push (x ∷ xs) d zero = refl
get_or_push (x ∷ xs) d (suc j) = get_or_push xs d j

slice_get_append : {A : Type 0} (xs ys : List A) (i : ℕ) → i < length xs → slice_get (xs ++ ys) i ≡ slice_get xs i
slice_get_append [] ys i lt = absurd (omega arith)
slice_get_append (x ∷ xs) ys zero lt = refl
slice_get_append (x ∷ xs) ys (suc i) lt = slice_get_append xs ys i (omega arith)

module _ {V : Type 0} where
  pub extends_more : (r : Row V) (value : V) → length r.values ≡ length r.signs → Extends r (with_more r value)
  extends_more r value even = record {
    longer = omega (arith, length_push r.signs 0);
    signs = get_or_push r.signs 0;
    children = get_or_push r.children 0;
    bases = get_or_push r.bases false;
    values = λ i lt. slice_get_append r.values (value ∷ []) i (omega arith);
    taken = how_many_push r.signs;
  }

  pub extends_same : (r : Row V) → Extends r r
  extends_same r = record { longer = omega arith; signs = λ i. refl; children = λ i. refl; bases = λ i. refl; values = λ i lt. refl; taken = refl }

  pub extends_trans : (a b c : Row V) → Extends a b → Extends b c → Extends a c
  extends_trans a b c p q = record {
    longer = let h = p.longer in let k = q.longer in omega arith;
    signs = λ i. q.signs i ∙ p.signs i;
    children = λ i. q.children i ∙ p.children i;
    bases = λ i. q.bases i ∙ p.bases i;
    values = λ i lt. q.values i (let h = p.longer in omega arith) ∙ p.values i lt;
    taken = q.taken ∙ p.taken;
  }

module _ {V : Type 0} where
  pub kept_extended : (old new : List (Cell V)) (top taken : ℕ) → IsKept old top taken → length new < CELLS_END → Extends (row_of old) (row_of new) → IsKept new top taken
  kept_extended old new top taken kept small more = record {
    small = small;
    greatest = record {
      most = λ i up. kept.greatest.most i (λ z. up (more.signs i ∙ z));
      within = let h = kept.greatest.within in let k = more.longer in omega arith;
      used = λ up z. kept.greatest.used up (sym (more.signs top) ∙ z);
    };
    count = kept.count ∙ sym more.taken;
  }

  -- one cell more
  pub extended_once : (start : Row (Member V)) (cells new : List (Cell V)) (value : V) → Extends start (row_of cells) → row_of new ≡ with_more (row_of cells) (without_links value)
      → Extends start (row_of new)
  extended_once start cells new value more e = subst (Extends start) (sym e)
      (extends_trans start (row_of cells) (with_more (row_of cells) (without_links value)) more
      (extends_more (row_of cells) (without_links value) (length-map cells member_seen ∙ sym (length-map cells sign_seen))))

  pub longer_once : (cells new : List (Cell V)) (value : V) → row_of new ≡ with_more (row_of cells) (without_links value) → length new ≡ length cells + 1
  longer_once cells new value e =
      omega (arith, length-map new sign_seen, length-map cells sign_seen, length_push (row_of cells).signs 0, ap (λ (r : Row (Member V)). length r.signs) e)
