-- The records that are left are the tails of the patterns.
use Rattle.std.proofs.Common.{◌≡◌, ℕ, zero, suc, ◌+◌, ◌<◌, ◌≤◌, Bool, true, false, cond, ◌&&◌, ◌||◌, nat_eq, nat_lt, T, List, [], ◌∷◌, ◌++◌, length, map, filter, take, drop, get_or, slice_get, Option, None, Some, inl, inr, refl, sym, ◌∙◌, ap, arith, append_assoc}
use Rattle.std.proofs.lemmas.Bool.{cases_Bool, cases_lt, or_cases, or_left, or_right, and_parts, eqb-true}
use Rattle.std.proofs.lemmas.List.{append-nil, map-append, length_push, take-append-drop, drop_more, length-take-le}
use Rattle.std.proofs.lemmas.List.Folds.{list_any-append}
use Rattle.std.proofs.lemmas.List.FromFn.{length-map-range_with_len}
use Rattle.std.proofs.lemmas.Map.Made.{length-from_keys}
use Rattle.std.proofs.lemmas.Option.{get_or_from_slice_get}
use Rattle.std.specs.Cmp.{IsEquivalence, and_equiv, on_equiv, nat_eq_equiv, both_ways}
use Rattle.std.specs.Cmp.Lexicographic.{pointwise, lists_equiv, texts_ties}
use Rattle.std.specs.List.{list_any, flat_map, range_with_len, IsDistinct, AllByRecursion}
use Rattle.std.specs.FinMap.Entries.{find, is_sorted}
use Rattle.std.specs.Set.{is_member}
use Rattle.pg_types.specs.Tails.{outputs_of, suffixes, same_pair, tails}
use Rattle.pg_patterns.specs.Values.{Patterns}
use Rattle.pg_outputs.specs.declared.records.Record.{Record}
use Rattle.pg_outputs.specs.Lists.{list_of}
use Rattle.pg_outputs.specs.Inside.Heads.{OneHeadEach}
use Rattle.pg_outputs.proofs.ListLaws.{lists, list_of-zero, list_of-append, list_of-new, length-lists}
use Rattle.pg_cells.specs.Inside.linked.ValuedFamilies.{ValuedFamilies}
use Rattle.pg_cells.proofs.StringMaps.{order, equal_or_not, find_below, head_below, tail_sorted}
use Rattle.pg_trie.specs.declared.hopeless.TheConstants.{HOPELESS}
use Rattle.pg_trie.specs.Inside.IsPatternTrie.{IsPatternTrie}
use Rattle.pg_trie.specs.Inside.Maps.{maps_of, entries_in, entry_ahead, entries, as_value}
use Rattle.pg_trie.specs.Inside.FreshLists.{values_in, IsEnd}
use Rattle.pg_trie.proofs.ListLaws.Rising.{as_value_is}
use Rattle.pg_trie.proofs.TrieLaws.Listing.{get_there}
use Rattle.pg_trie.proofs.DeletingLaws.Renewing.{value_kept, mark_left}
use Rattle.pg_trie.proofs.DeletingLaws.KeptStrings.{signs_same, has_value, without_values, any_entries, any_find, find_any}
use Rattle.pg_trie.proofs.DeletingLaws.Deleted.{HasFresh}

-- a value and its dot, the dot first
abbrev turned : ℕ × ℕ → ℕ × ℕ
turned x = (x.1, x.0)

turned_back : (l : List (ℕ × ℕ)) → map turned (map turned l) ≡ l
turned_back [] = refl
turned_back (x ∷ xs) = ap (λ l. x ∷ l) (turned_back xs)

abbrev same_list : List (ℕ × ℕ) → List (ℕ × ℕ) → Bool
same_list = pointwise same_pair

same_list_equiv : IsEquivalence same_list
same_list_equiv = lists_equiv (and_equiv (on_equiv (λ (k : ℕ × ℕ). k.0) nat_eq_equiv) (on_equiv (λ (k : ℕ × ℕ). k.1) nat_eq_equiv))

-- the test of two lists is equality
exact : (xs ys : List (ℕ × ℕ)) → same_list xs ys ≡ true → xs ≡ ys
exact [] [] e = refl
exact [] (y ∷ ys) e = absurd (let n : false ≡ true = e in cc)
exact (x ∷ xs) [] e = absurd (let n : false ≡ true = e in cc)
exact (x ∷ xs) (y ∷ ys) e =
    let parts = and_parts (same_pair x y) (same_list xs ys) e in
    let pair = and_parts (nat_eq x.0 y.0) (nat_eq x.1 y.1) parts.0 in
    let first : x.0 ≡ y.0 = eqb-true x.0 y.0 pair.0 in
    let second : x.1 ≡ y.1 = eqb-true x.1 y.1 pair.1 in
    let rest : xs ≡ ys = exact xs ys parts.1 in
    λ i. (first i, second i) ∷ rest i

itself : (xs : List (ℕ × ℕ)) → same_list xs xs ≡ true
itself xs = same_list_equiv.refl xs

-- a list at a number of a range
range_has : (g : ℕ → List (ℕ × ℕ)) (s : List (ℕ × ℕ)) (a n : ℕ) → is_member same_list (map g (range_with_len a n)) s ≡ true → (h : ℕ) × (a ≤ h) × (h < a + n) × (s ≡ g h)
range_has g s a zero e = absurd (let n : false ≡ true = e in cc)
range_has g s a (suc n) e = elim (or_cases (same_list s (g a)) (is_member same_list (map g (range_with_len (a + 1) n)) s) e) [
  | inl here ↦ (a, omega arith, omega arith, exact s (g a) here)
  | inr there ↦ let r = range_has g s (a + 1) n there in (r.0, omega (arith, r.1), omega (arith, r.2), r.3)
]

has_range : (g : ℕ → List (ℕ × ℕ)) (s : List (ℕ × ℕ)) (h a n : ℕ) → a ≤ h → h < a + n → s ≡ g h → is_member same_list (map g (range_with_len a n)) s ≡ true
has_range g s h a zero low high e = absurd (omega arith)
has_range g s h a (suc n) low high e = elim (cases_lt a h) [
  | inl lt ↦ or_right (same_list s (g a)) (is_member same_list (map g (range_with_len (a + 1) n)) s) (has_range g s h (a + 1) n (omega arith) (omega arith) e)
  | inr ge ↦ let at : h ≡ a = omega arith in or_left (same_list s (g a)) (is_member same_list (map g (range_with_len (a + 1) n)) s) (ap (same_list s) (ap g (sym at) ∙ sym e) ∙ itself s)
]

-- the lists of heads are distinct
distinct : (fresh : List Record) → OneHeadEach fresh → (a n : ℕ) → a + n ≤ length fresh + 1 → IsDistinct same_list (map (λ h. map turned (list_of fresh h)) (range_with_len a n))
unfolding IsDistinct
distinct fresh one a zero le = tt
distinct fresh one a (suc n) le = (apart (a + 1) n (omega arith) (omega arith), distinct fresh one (a + 1) n (omega arith))
  where
    differ : (b : ℕ) → a < b → b ≤ length fresh → (t : Bool) → same_list (map turned (list_of fresh a)) (map turned (list_of fresh b)) ≡ t → t ≡ false
    differ b lt high false e = refl
    differ b lt high true e =
        let same : list_of fresh a ≡ list_of fresh b = sym (turned_back (list_of fresh a)) ∙ ap (map turned) (exact (map turned (list_of fresh a)) (map turned (list_of fresh b)) e)
        ∙ turned_back (list_of fresh b) in
        let at : a ≡ b = one a b (omega arith) high same in
        absurd (omega arith)

    apart : (b m : ℕ) → a < b → b + m ≤ length fresh + 1 → AllByRecursion (λ y. same_list (map turned (list_of fresh a)) y ≡ false) (map (λ h. map turned (list_of fresh h)) (range_with_len b m))
    apart b zero lt high = tt
    apart b (suc m) lt high =
        (differ b lt (omega arith) (same_list (map turned (list_of fresh a)) (map turned (list_of fresh b))) refl ∙ refl, apart (b + 1) m (omega arith) (omega arith))

-- the non-empty ends of a list are its suffixes
record HasEnd (l s : List (ℕ × ℕ)) : Type 0 where
  front : List (ℕ × ℕ)
  first : ℕ × ℕ
  rest : List (ℕ × ℕ)
  whole : l ≡ front ++ first ∷ rest
  is : s ≡ first ∷ rest

suffix_end : (s l : List (ℕ × ℕ)) → is_member same_list (suffixes l) s ≡ true → HasEnd l s
suffix_end s [] e = absurd (let n : false ≡ true = e in cc)
suffix_end s (x ∷ xs) e = elim (or_cases (same_list s (x ∷ xs)) (is_member same_list (suffixes xs) s) e) [
  | inl here ↦ record { front = []; first = x; rest = xs; whole = refl; is = exact s (x ∷ xs) here }
  | inr there ↦ let r = suffix_end s xs there in record { front = x ∷ r.front; first = r.first; rest = r.rest; whole = ap (λ l. x ∷ l) r.whole; is = r.is }
]

end_suffix : (front : List (ℕ × ℕ)) (x : ℕ × ℕ) (xs : List (ℕ × ℕ)) → is_member same_list (suffixes (front ++ x ∷ xs)) (x ∷ xs) ≡ true
end_suffix [] x xs = or_left (same_list (x ∷ xs) (x ∷ xs)) (is_member same_list (suffixes xs) (x ∷ xs)) (itself (x ∷ xs))
end_suffix (y ∷ front) x xs = or_right (same_list (x ∷ xs) (y ∷ (front ++ x ∷ xs))) (is_member same_list (suffixes (front ++ x ∷ xs)) (x ∷ xs)) (end_suffix front x xs)

-- a member of lists that the strings of entries give
any_flat : (G : List ℕ → List (List (ℕ × ℕ))) (s : List (ℕ × ℕ)) (P : Patterns) → is_member same_list (flat_map (λ e. G e.0.0) P) s
    ≡ list_any (λ q. is_member same_list (G q) s) (map (λ e. e.0.0) P)
any_flat G s [] = refl
any_flat G s (e ∷ es) = list_any-append (same_list s) (G e.0.0) (flat_map (λ e. G e.0.0) es) ∙ ap (λ b. is_member same_list (G e.0.0) s || b) (any_flat G s es)

-- the outputs of a string are its values
outs_here : (q : List ℕ) (l : List (ℕ × ℕ)) (rest : List ((List ℕ × ℕ) × ℕ)) → outputs_of (entries_in as_value q l ++ rest) q ≡ map turned (values_in l) ++ outputs_of rest q
outs_here q [] rest = refl
outs_here q (x ∷ xs) rest =
    let more = outs_here q xs rest in
    elim (cases_Bool (nat_lt x.0 HOPELESS)) [
      | inl e ↦
          ap (λ o. outputs_of (entry_ahead as_value (q, x.1) o (entries_in as_value q xs) ++ rest) q) (as_value_is x.0 true e)
          ∙ ap (λ b. map (λ (y : (List ℕ × ℕ) × ℕ). (y.0.1, y.1)) (cond b (((q, x.1), x.0) ∷ filter (λ y. pointwise nat_eq q y.0.0) (entries_in as_value q xs ++ rest))
          (filter (λ y. pointwise nat_eq q y.0.0) (entries_in as_value q xs ++ rest)))) (signs_same q)
          ∙ ap (λ l. (x.1, x.0) ∷ l) more
          ∙ sym (ap (λ l. map turned l ++ outputs_of rest q) (value_kept x.0 x.1 xs e))
      | inr e ↦
          ap (λ o. outputs_of (entry_ahead as_value (q, x.1) o (entries_in as_value q xs) ++ rest) q) (as_value_is x.0 false e)
          ∙ more
          ∙ sym (ap (λ l. map turned l ++ outputs_of rest q) (mark_left x.0 x.1 xs e))
    ]

outs_other : (q p : List ℕ) (l : List (ℕ × ℕ)) (rest : List ((List ℕ × ℕ) × ℕ)) → pointwise nat_eq q p ≡ false → outputs_of (entries_in as_value p l ++ rest) q ≡ outputs_of rest q
outs_other q p [] rest n = refl
outs_other q p (x ∷ xs) rest n =
    let more = outs_other q p xs rest n in
    elim (as_value x.0) as (λ o. outputs_of (entry_ahead as_value (p, x.1) o (entries_in as_value p xs) ++ rest) q ≡ outputs_of rest q) [
      | None ↦ more
      | Some v ↦
          ap (λ b. map (λ (y : (List ℕ × ℕ) × ℕ). (y.0.1, y.1)) (cond b (((p, x.1), v) ∷ filter (λ y. pointwise nat_eq q y.0.0) (entries_in as_value p xs ++ rest))
          (filter (λ y. pointwise nat_eq q y.0.0) (entries_in as_value p xs ++ rest)))) n ∙ more
    ]

abbrev outs_at : (ℕ → List (ℕ × ℕ)) → Option ℕ → List (ℕ × ℕ)
outs_at f None = []
outs_at f (Some head) = map turned (values_in (f head))

outs_is : (f : ℕ → List (ℕ × ℕ)) (es : List (List ℕ × ℕ)) (q : List ℕ) → T (is_sorted order es) → outputs_of (entries as_value f es) q ≡ outs_at f (find order q es)
unfolding entries
outs_is f [] q sorted = refl
outs_is f (e ∷ es) q sorted =
    let more = outs_is f es q (tail_sorted e es sorted) in
    elim (equal_or_not q e.0) [
      | inl h ↦
          let none : find order q es ≡ None = ap (λ p. find order p es) h.0 ∙ find_below e.0 es (head_below e es sorted) in
          ap (λ p. outputs_of (entries_in as_value p (f e.1) ++ entries as_value f es) q) (sym h.0)
          ∙ outs_here q (f e.1) (entries as_value f es)
          ∙ ap (λ l. map turned (values_in (f e.1)) ++ l) (more ∙ ap (outs_at f) none)
          ∙ append-nil (map turned (values_in (f e.1)))
          ∙ sym (ap (λ b. outs_at f (cond b (Some e.1) (find order q es))) h.1)
      | inr h ↦
          outs_other q e.0 (f e.1) (entries as_value f es) (texts_ties q e.0 ∙ h.1)
          ∙ more
          ∙ sym (ap (λ b. outs_at f (cond b (Some e.1) (find order q es))) h.1)
    ]

get_past : {X : Type 0} (xs : List X) (i : ℕ) (d : X) → length xs ≤ i → get_or xs i d ≡ d
get_past [] i d le = refl
get_past (x ∷ xs) zero d le = absurd (omega arith)
get_past (x ∷ xs) (suc i) d le = get_past xs i d (omega arith)

-- what follows the first of a head's list has a head
record HasTail (records : List Record) (h : ℕ) : Type 0 where
  first : ℕ × ℕ
  next : ℕ
  inside : next ≤ length records
  list : list_of records h ≡ first ∷ list_of records next

tail_head : (records : List Record) (i : ℕ) → i < length records → HasTail records (i + 1)
unfolding list_of
tail_head records i lt = by (get_there records i lt)
  where
    by : (r : Record) × (slice_get records i ≡ Some r) → HasTail records (i + 1)
    by g =
        let r = g.0 in
        let size : length (take i records) ≡ i = length-take-le i records (omega arith) in
        let whole : (take i records ++ r ∷ []) ++ drop (i + 1) records ≡ records =
        append_assoc (take i records) (r ∷ []) (drop (i + 1) records)
        ∙ ap (λ x. take i records ++ x ∷ drop (i + 1) records) (sym (get_or_from_slice_get records i r r g.1))
        ∙ ap (λ l. take i records ++ l) (sym (drop_more records i r lt))
        ∙ take-append-drop i records in
        let list : list_of records (i + 1) ≡ (r.value, r.dot) ∷ list_of (take i records) r.next =
        ap (λ l. list_of l (i + 1)) (sym whole)
        ∙ list_of-append (take i records ++ r ∷ []) (drop (i + 1) records) (i + 1) (omega (arith, length_push (take i records) r))
        ∙ ap (λ n. list_of (take i records ++ r ∷ []) (n + 1)) (sym size)
        ∙ list_of-new (take i records) r in
        elim (cases_lt i r.next) [
          | inl past ↦
              record {
                first = (r.value, r.dot);
                next = 0;
                inside = omega arith;
                list = list ∙ ap (λ l. (r.value, r.dot) ∷ l) (get_past (lists (take i records)) r.next [] (omega (arith, length-lists (take i records))) ∙ sym (list_of-zero records));
              }
          | inr back ↦
              let front : take i records ++ drop i records ≡ records = take-append-drop i records in
              record {
                first = (r.value, r.dot);
                next = r.next;
                inside = omega arith;
                list = list ∙ ap (λ l. (r.value, r.dot) ∷ l) (sym (list_of-append (take i records) (drop i records) r.next (omega arith)) ∙ ap (λ l. list_of l r.next) front);
              }
        ]

-- each end of a head's list has a head
end_head : (records : List Record) (front l : List (ℕ × ℕ)) (h : ℕ) → h ≤ length records → list_of records h ≡ front ++ l → (k : ℕ) × (k ≤ length records) × (list_of records k ≡ l)
end_head records [] l h le e = (h, le, e)
end_head records (y ∷ ys) l zero le e = absurd (let n : [] ≡ y ∷ (ys ++ l) = sym (list_of-zero records) ∙ e in cc)
end_head records (y ∷ ys) l (suc i) le e =
    let t = tail_head records i (omega arith) in
    let both : t.first ∷ list_of records t.next ≡ y ∷ (ys ++ l) = sym t.list ∙ ap (list_of records) (omega arith) ∙ e in
    let rest : list_of records t.next ≡ ys ++ l = cc in
    end_head records ys l t.next t.inside rest

-- as many records as tails
pub tails_is : (cells : ValuedFamilies ℕ) (records : List Record) → IsPatternTrie cells records → (cells' : ValuedFamilies ℕ) (fresh : List Record) → HasFresh cells records cells' fresh
    → OneHeadEach fresh
    → ((h : ℕ) → 0 < h → h ≤ length fresh → (q : List ℕ) × (old : ℕ) × (find order q cells.values ≡ Some old) × IsEnd (list_of fresh h) (values_in (list_of records old)))
    → length fresh ≡ tails (maps_of cells records).patterns
tails_is cells records is cells' fresh new one needed =
    sym (length-map-range_with_len (λ h. map turned (list_of fresh h)) 1 (length fresh))
    ∙ length-from_keys same_list_equiv (map (λ h. map turned (list_of fresh h)) (range_with_len 1 (length fresh)))
    (flat_map (λ e. suffixes (outputs_of (maps_of cells records).patterns e.0.0)) (maps_of cells records).patterns) (distinct fresh one 1 (length fresh) (omega arith))
    (λ s. both_ways (is_member same_list (map (λ h. map turned (list_of fresh h)) (range_with_len 1 (length fresh))) s)
    (is_member same_list (flat_map (λ e. suffixes (outputs_of (maps_of cells records).patterns e.0.0)) (maps_of cells records).patterns) s)
    (λ e. there s (range_has (λ h. map turned (list_of fresh h)) s 1 (length fresh) e))
    (λ e. back s (any_find (λ q. is_member same_list (suffixes (outputs_of (maps_of cells records).patterns q)) s) (λ h. has_value (list_of records h)) cells.values is.held.ordered
    (sym (any_there s) ∙ e))))
  where
    any_there : (s : List (ℕ × ℕ)) → is_member same_list (flat_map (λ e. suffixes (outputs_of (maps_of cells records).patterns e.0.0)) (maps_of cells records).patterns) s
        ≡ list_any (λ e. is_member same_list (suffixes (outputs_of (maps_of cells records).patterns e.0)) s && has_value (list_of records e.1)) cells.values
    any_there s =
        any_flat (λ q. suffixes (outputs_of (maps_of cells records).patterns q)) s (maps_of cells records).patterns
        ∙ any_entries (λ q. is_member same_list (suffixes (outputs_of (maps_of cells records).patterns q)) s) (list_of records) cells.values

    outs : (q : List ℕ) (u : ℕ) → find order q cells.values ≡ Some u → outputs_of (maps_of cells records).patterns q ≡ map turned (values_in (list_of records u))
    outs q u at = outs_is (list_of records) cells.values q is.held.ordered ∙ ap (outs_at (list_of records)) at

    there : (s : List (ℕ × ℕ)) → (h : ℕ) × (1 ≤ h) × (h < 1 + length fresh) × (s ≡ map turned (list_of fresh h))
        → is_member same_list (flat_map (λ e. suffixes (outputs_of (maps_of cells records).patterns e.0.0)) (maps_of cells records).patterns) s ≡ true
    there s r = by (list_of fresh r.0) refl
      where
        by : (l : List (ℕ × ℕ)) → list_of fresh r.0 ≡ l → is_member same_list (flat_map (λ e. suffixes (outputs_of (maps_of cells records).patterns e.0.0)) (maps_of cells records).patterns) s ≡ true
        by [] e =
            let zero_is : r.0 ≡ 0 = one r.0 0 (omega (arith, r.2)) (omega arith) (e ∙ sym (list_of-zero fresh)) in
            absurd (omega (arith, r.1))
        by (x ∷ xs) e =
            let n = needed r.0 (omega (arith, r.1)) (omega (arith, r.2)) in
            let ending : values_in (list_of records n.1) ≡ n.3.0 ++ x ∷ xs = n.3.1 ∙ ap (λ l. n.3.0 ++ l) e in
            let value : has_value (list_of records n.1) ≡ true = elim (cases_Bool (has_value (list_of records n.1)))
            [ inl v ↦ v | inr v ↦ absurd (no_end n.3.0 x xs (sym (without_values (list_of records n.1) v) ∙ ending)) ] in
            let whole : outputs_of (maps_of cells records).patterns n.0 ≡ map turned n.3.0 ++ turned x ∷ map turned xs = outs n.0 n.1 n.2 ∙ ap (map turned) ending ∙ map-append turned n.3.0 (x ∷ xs) in
            let s_is : s ≡ turned x ∷ map turned xs = r.3 ∙ ap (map turned) e in
            any_there s
            ∙ find_any (λ q. is_member same_list (suffixes (outputs_of (maps_of cells records).patterns q)) s) (λ h. has_value (list_of records h)) cells.values n.0 n.1 n.2
            (ap (λ l. is_member same_list (suffixes l) s) whole ∙ ap (is_member same_list (suffixes (map turned n.3.0 ++ turned x ∷ map turned xs))) s_is
            ∙ end_suffix (map turned n.3.0) (turned x) (map turned xs))
            value
          where
            no_end : (f : List (ℕ × ℕ)) (x : ℕ × ℕ) (xs : List (ℕ × ℕ)) → [] ≡ f ++ x ∷ xs → ⊥
            no_end [] x xs e = cc
            no_end (y ∷ f) x xs e = cc

    back : (s : List (ℕ × ℕ)) → (q : List ℕ) × (u : ℕ) × (find order q cells.values ≡ Some u) × (is_member same_list (suffixes (outputs_of (maps_of cells records).patterns q)) s ≡ true)
        × (has_value (list_of records u) ≡ true)
        → is_member same_list (map (λ h. map turned (list_of fresh h)) (range_with_len 1 (length fresh))) s ≡ true
    back s f =
        let e = suffix_end s (map turned (values_in (list_of records f.1))) (ap (λ l. is_member same_list (suffixes l) s) (sym (outs f.0 f.1 f.2)) ∙ f.3) in
        let l = new.lists f.0 f.1 f.2 in
        let list : list_of fresh l.0 ≡ map turned e.front ++ map turned (e.first ∷ e.rest) = l.3 ∙ sym (turned_back (values_in (list_of records f.1)))
        ∙ ap (map turned) e.whole ∙ map-append turned e.front (e.first ∷ e.rest) in
        let h = end_head fresh (map turned e.front) (map turned (e.first ∷ e.rest)) l.0 l.2 list in
        has_range (λ h. map turned (list_of fresh h)) s h.0 1 (length fresh) (some_head h.0 (turned e.first) (map turned e.rest) h.2) (omega (arith, h.1))
        (e.is ∙ sym (turned_back (e.first ∷ e.rest)) ∙ ap (map turned) (sym h.2))
      where
        some_head : (h : ℕ) (x : ℕ × ℕ) (xs : List (ℕ × ℕ)) → list_of fresh h ≡ x ∷ xs → 1 ≤ h
        some_head zero x xs e = absurd (let n : [] ≡ x ∷ xs = sym (list_of-zero fresh) ∙ e in cc)
        some_head (suc h) x xs e = omega arith
