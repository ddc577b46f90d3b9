-- What is found among the entries of the lists of strings.
use Rattle.std.proofs.Common.{◌≡◌, ◌≢◌, ℕ, ◌+◌, ◌≤◌, true, false, cond, T, nat_eq, List, [], ◌∷◌, ◌++◌, Option, None, Some, inl, inr, refl, sym, ◌∙◌, ap, subst, arith}
use Rattle.std.proofs.lemmas.Bool.{false_from_ne_true, lt-ltb}
use Rattle.std.proofs.lemmas.Cmp.{nat_list_cmp_total}
use Rattle.std.specs.declared.cmp.Ordering.TheVariants.{Less, Equal, Greater}
use Rattle.std.specs.Ordering.{nat_cmp, eq_by_cmp, is_eq, is_lt, ordering_then}
use Rattle.std.specs.Cmp.{tied_itself, unsigned_tied}
use Rattle.std.specs.FinMap.Entries.{find, is_sorted, below_all}
use Rattle.pg_patterns.specs.DottedSigns.{dotted_cmp}
use Rattle.pg_patterns.specs.Inside.DottedOrder.{dotted_exact}
use Rattle.pg_types.proofs.BoolFacts.{equal_is, first_half, second_half, is_true, less_is, both_halves}
use Rattle.pg_cells.proofs.StringMaps.{order, equal_or_not, find_below, head_below, tail_sorted}
use Rattle.pg_trie.specs.Inside.Maps.{entry_ahead, entries_in, entries}

-- dotted strings of one string are told apart by their dots
pub same_by_dots : (q : List ℕ) (d e : ℕ) → eq_by_cmp dotted_cmp (q, d) (q, e) ≡ nat_eq d e
same_by_dots q d e = ap (λ r. is_eq (ordering_then r (nat_cmp d e))) (tied_itself nat_list_cmp_total q) ∙ unsigned_tied d e

-- and those of two strings are not the same
pub other_dotted : (q p : List ℕ) (d e : ℕ) → q ≢ p → eq_by_cmp dotted_cmp (q, d) (p, e) ≡ false
other_dotted q p d e n = false_from_ne_true (eq_by_cmp dotted_cmp (q, d) (p, e)) (λ t. n (ap (λ (k : List ℕ × ℕ). k.0) (dotted_exact (q, d) (p, e) (equal_is (dotted_cmp (q, d) (p, e)) t))))

module _ {X : Type 0} where
  abbrev pub found_first : ℕ → ℕ → Option X → Option X → Option X
  found_first d e None rest = rest
  found_first d e (Some v) rest = cond (nat_eq d e) (Some v) rest

  abbrev pub or_else : Option X → Option X → Option X
  or_else None rest = rest
  or_else (Some v) rest = Some v

  pub or_none : (o : Option X) → or_else o None ≡ o
  or_none None = refl
  or_none (Some v) = refl

module _ {X : Type 0} (pick : ℕ → Option X) where
  -- what a list has at the dot d
  abbrev pub found_in : ℕ → List (ℕ × ℕ) → Option X
  found_in d [] = None
  found_in d (x ∷ xs) = found_first d x.1 (pick x.0) (found_in d xs)

  -- what a string has, by the list of its head
  abbrev pub found_at : (ℕ → List (ℕ × ℕ)) → ℕ → Option ℕ → Option X
  found_at f d None = None
  found_at f d (Some head) = found_in d (f head)

  find_in_string : (q : List ℕ) (d : ℕ) (xs : List (ℕ × ℕ)) (rest : List ((List ℕ × ℕ) × X)) → find dotted_cmp (q, d) (entries_in pick q xs ++ rest)
      ≡ or_else (found_in d xs) (find dotted_cmp (q, d) rest)
  find_in_string q d [] rest = refl
  find_in_string q d (x ∷ xs) rest =
      let more = find_in_string q d xs rest in
      elim (pick x.0) as (λ o. find dotted_cmp (q, d) (entry_ahead pick (q, x.1) o (entries_in pick q xs) ++ rest) ≡ or_else (found_first d x.1 o (found_in d xs)) (find dotted_cmp (q, d) rest)) [
        | None ↦ more
        | Some v ↦
            ap (λ b. cond b (Some v) (find dotted_cmp (q, d) (entries_in pick q xs ++ rest))) (same_by_dots q d x.1)
            ∙ elim (nat_eq d x.1) as (λ b. cond b (Some v) (find dotted_cmp (q, d) (entries_in pick q xs ++ rest))
            ≡ or_else (cond b (Some v) (found_in d xs)) (find dotted_cmp (q, d) rest)) [ true ↦ refl | false ↦ more ]
      ]

  find_past_string : (q p : List ℕ) (d : ℕ) (xs : List (ℕ × ℕ)) (rest : List ((List ℕ × ℕ) × X)) → q ≢ p → find dotted_cmp (q, d) (entries_in pick p xs ++ rest) ≡ find dotted_cmp (q, d) rest
  find_past_string q p d [] rest n = refl
  find_past_string q p d (x ∷ xs) rest n =
      let more = find_past_string q p d xs rest n in
      elim (pick x.0) as (λ o. find dotted_cmp (q, d) (entry_ahead pick (p, x.1) o (entries_in pick p xs) ++ rest) ≡ find dotted_cmp (q, d) rest) [
        | None ↦ more
        | Some v ↦ ap (λ b. cond b (Some v) (find dotted_cmp (q, d) (entries_in pick p xs ++ rest))) (other_dotted q p d x.1 n) ∙ more
      ]

  -- what the entries have at a dotted string is what its string's list has
  pub find-entries : (f : ℕ → List (ℕ × ℕ)) (es : List (List ℕ × ℕ)) (q : List ℕ) (d : ℕ) → T (is_sorted order es) → find dotted_cmp (q, d) (entries pick f es) ≡ found_at f d (find order q es)
  unfolding entries
  find-entries f [] q d sorted = refl
  find-entries f (e ∷ es) q d sorted =
      let more = find-entries f es q d (tail_sorted e es sorted) in
      elim (equal_or_not q e.0) [
        | inl h ↦
            let none : find order q es ≡ None = ap (λ p. find order p es) h.0 ∙ find_below e.0 es (head_below e es sorted) in
            ap (λ p. find dotted_cmp (q, d) (entries_in pick p (f e.1) ++ entries pick f es)) (sym h.0)
            ∙ find_in_string q d (f e.1) (entries pick f es)
            ∙ ap (or_else (found_in d (f e.1))) (more ∙ ap (found_at f d) none)
            ∙ or_none (found_in d (f e.1))
            ∙ sym (ap (λ b. found_at f d (cond b (Some e.1) (find order q es))) h.1)
        | inr h ↦
            find_past_string q e.0 d (f e.1) (entries pick f es) h.0
            ∙ more
            ∙ sym (ap (λ b. found_at f d (cond b (Some e.1) (find order q es))) h.1)
      ]

  -- the dots of what is picked rise from r on
  abbrev pub picks_rise : Option X → ℕ → ℕ → (ℕ → Type 0) → Type 0
  picks_rise None r e rest = rest r
  picks_rise (Some v) r e rest = (r ≤ e) × rest (e + 1)

  abbrev pub PicksRise : List (ℕ × ℕ) → ℕ → Type 0
  PicksRise [] r = Unit {0}
  PicksRise (x ∷ xs) r = picks_rise (pick x.0) r x.1 (PicksRise xs)

  below_dots : (q : List ℕ) (d e : ℕ) → d + 1 ≤ e → T (is_lt (dotted_cmp (q, d) (q, e)))
  below_dots q d e le =
      subst (λ r. T (is_lt (ordering_then r (nat_cmp d e)))) (sym (tied_itself nat_list_cmp_total q))
      (subst (λ b. T (is_lt (cond b Less (cond (nat_eq d e) Equal Greater)))) (sym (lt-ltb d e (omega arith))) tt)

  below_string : (q : List ℕ) (d r : ℕ) (xs : List (ℕ × ℕ)) (rest : List ((List ℕ × ℕ) × X)) → d + 1 ≤ r → PicksRise xs r → T (below_all dotted_cmp (q, d) rest)
      → T (below_all dotted_cmp (q, d) (entries_in pick q xs ++ rest))
  below_string q d r [] rest le rise below = below
  below_string q d r (x ∷ xs) rest le rise below =
      elim (pick x.0) as (λ o. picks_rise o r x.1 (PicksRise xs) → T (below_all dotted_cmp (q, d) (entry_ahead pick (q, x.1) o (entries_in pick q xs) ++ rest))) [
        | None ↦ λ h. below_string q d r xs rest le h below
        | Some v ↦ λ h. both_halves (is_lt (dotted_cmp (q, d) (q, x.1))) (below_all dotted_cmp (q, d) (entries_in pick q xs ++ rest))
            (below_dots q d x.1 (omega (arith, h.0))) (below_string q d (x.1 + 1) xs rest (omega (arith, h.0)) h.1 below)
      ] rise

  sorted_string : (q : List ℕ) (r : ℕ) (xs : List (ℕ × ℕ)) (rest : List ((List ℕ × ℕ) × X)) → PicksRise xs r → T (is_sorted dotted_cmp rest)
      → ((d : ℕ) → T (below_all dotted_cmp (q, d) rest)) → T (is_sorted dotted_cmp (entries_in pick q xs ++ rest))
  sorted_string q r [] rest rise sorted below = sorted
  sorted_string q r (x ∷ xs) rest rise sorted below =
      elim (pick x.0) as (λ o. picks_rise o r x.1 (PicksRise xs) → T (is_sorted dotted_cmp (entry_ahead pick (q, x.1) o (entries_in pick q xs) ++ rest))) [
        | None ↦ λ h. sorted_string q r xs rest h sorted below
        | Some v ↦ λ h. both_halves (below_all dotted_cmp (q, x.1) (entries_in pick q xs ++ rest)) (is_sorted dotted_cmp (entries_in pick q xs ++ rest))
            (below_string q x.1 (x.1 + 1) xs rest (omega arith) h.1 (below x.1)) (sorted_string q (x.1 + 1) xs rest h.1 sorted below)
      ] rise

  -- the dotted strings of a string are before those of a greater one
  before_string : (p q : List ℕ) (d : ℕ) (xs : List (ℕ × ℕ)) (rest : List ((List ℕ × ℕ) × X)) → T (is_lt (order p q)) → T (below_all dotted_cmp (p, d) rest)
      → T (below_all dotted_cmp (p, d) (entries_in pick q xs ++ rest))
  before_string p q d [] rest lt below = below
  before_string p q d (x ∷ xs) rest lt below =
      let more = before_string p q d xs rest lt below in
      elim (pick x.0) as (λ o. T (below_all dotted_cmp (p, d) (entry_ahead pick (q, x.1) o (entries_in pick q xs) ++ rest))) [
        | None ↦ more
        | Some v ↦ both_halves (is_lt (dotted_cmp (p, d) (q, x.1))) (below_all dotted_cmp (p, d) (entries_in pick q xs ++ rest))
            (subst (λ r. T (is_lt (ordering_then r (nat_cmp d x.1)))) (sym (less_is (order p q) (is_true (is_lt (order p q)) lt))) tt) more
      ]

  below_entries : (f : ℕ → List (ℕ × ℕ)) (p : List ℕ) (d : ℕ) (es : List (List ℕ × ℕ)) → T (below_all order p es) → T (below_all dotted_cmp (p, d) (entries pick f es))
  unfolding entries
  below_entries f p d [] below = tt
  below_entries f p d (e ∷ es) below =
      before_string p e.0 d (f e.1) (entries pick f es) (first_half (is_lt (order p e.0)) (below_all order p es) below)
      (below_entries f p d es (second_half (is_lt (order p e.0)) (below_all order p es) below))

  -- the entries stand in order where the strings do and the dots of each list rise
  pub sorted-entries : (f : ℕ → List (ℕ × ℕ)) (es : List (List ℕ × ℕ)) → T (is_sorted order es) → ((q : List ℕ) (head : ℕ) → find order q es ≡ Some head → PicksRise (f head) 0)
      → T (is_sorted dotted_cmp (entries pick f es))
  unfolding entries
  sorted-entries f [] sorted rise = tt
  sorted-entries f (e ∷ es) sorted rise =
      let first : find order e.0 (e ∷ es) ≡ Some e.1 = ap (λ r. cond (is_eq r) (Some e.1) (find order e.0 es)) (tied_itself nat_list_cmp_total e.0) in
      let rest = sorted-entries f es (tail_sorted e es sorted) (λ q head at. rise q head (later q head at)) in
      sorted_string e.0 0 (f e.1) (entries pick f es) (rise e.0 e.1 first) rest (λ d. below_entries f e.0 d es (head_below e es sorted))
    where
      later : (q : List ℕ) (head : ℕ) → find order q es ≡ Some head → find order q (e ∷ es) ≡ Some head
      later q head at = elim (equal_or_not q e.0) [
        | inl h ↦ absurd (let no : None ≡ Some head = sym (ap (λ p. find order p es) h.0 ∙ find_below e.0 es (head_below e es sorted)) ∙ at in cc)
        | inr h ↦ ap (λ b. cond b (Some e.1) (find order q es)) h.1 ∙ at
      ]
