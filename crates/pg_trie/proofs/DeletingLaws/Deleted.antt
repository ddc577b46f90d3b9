-- A trie whose hopeless marks are deleted.
use Rattle.std.proofs.Common.{◌≡◌, ◌≢◌, ℕ, ◌+◌, ◌<◌, ◌≤◌, Bool, true, false, nat_eq, nat_lt, nat_le, List, [], ◌∷◌, ◌++◌, length, map, drop, Option, None, Some, inl, inr, refl, sym, ◌∙◌, ap, subst, arith, append_assoc, get_or}
use Rattle.std.proofs.lemmas.Bool.{cases_Bool, or_cases, or_left, or_right, le-leb, leb-true}
use Rattle.std.proofs.lemmas.List.{append-nil, length_push}
use Rattle.std.specs.List.{flat_map, list_any, starts_with}
use Rattle.std.specs.FinMap.Entries.{find, same_entries}
use Rattle.pg_types.specs.Placement.{keeps_cell, kept_families}
use Rattle.pg_types.specs.Inside.PlacementSteps.{kept_family}
use Rattle.pg_types.proofs.PlacementLaws.{kept_is}
use Rattle.pg_types.specs.Inside.Placing.{cell_of}
use Rattle.pg_patterns.specs.DottedSigns.{dotted_cmp}
use Rattle.pg_patterns.specs.Inside.DottedOrder.{dotted_total, dotted_exact}
use Rattle.pg_outputs.specs.declared.records.Record.{Record}
use Rattle.pg_outputs.specs.Lists.{list_of}
use Rattle.pg_outputs.specs.Inside.Heads.{OneHeadEach}
use Rattle.pg_outputs.proofs.ListLaws.{list_of-zero}
use Rattle.pg_cells.specs.Inside.linked.ValuedFamilies.{ValuedFamilies}
use Rattle.pg_cells.specs.Inside.linked.AreValuedFamilies.{AreValuedFamilies}
use Rattle.pg_cells.proofs.StringMaps.{order}
use Rattle.pg_trie.specs.declared.hopeless.TheConstants.{HOPELESS}
use Rattle.pg_trie.specs.Inside.IsPatternTrie.{IsPatternTrie}
use Rattle.pg_trie.specs.Inside.Lists.{rank, Rises, DotsUpTo}
use Rattle.pg_trie.specs.Inside.Maps.{Maps, maps_of, as_value, as_hopeless}
use Rattle.pg_trie.specs.Inside.PrunedFamilies.{IsKeep, Prunes}
use Rattle.pg_trie.specs.Inside.FreshLists.{values_in, AreFresh, Renews}
use Rattle.pg_trie.proofs.ListLaws.Found.{found_first, found_in, found_at, find-entries}
use Rattle.pg_trie.proofs.ListLaws.Rising.{rises_less, as_value_is, as_mark_is}
use Rattle.pg_trie.proofs.TrieLaws.Changes.{sorted_values, sorted_marks}
use Rattle.pg_trie.proofs.DeletingLaws.Pruning.{not_both, none_some}
use Rattle.pg_trie.proofs.DeletingLaws.Renewing.{value_kept, mark_left}
use Rattle.pg_trie.proofs.DeletingLaws.KeptStrings.{begins, begun, begun_less, has_value, without_values, with_values, any_entries, any_find, find_any}

-- a list's values rise, and their dots are those of the list
values_rising : (r : ℕ) (l : List (ℕ × ℕ)) → Rises r l → Rises r (values_in l)
values_rising r [] h = tt
values_rising r (x ∷ xs) h = elim (cases_Bool (nat_lt x.0 HOPELESS)) [
  | inl e ↦ subst (Rises r) (sym (value_kept x.0 x.1 xs e)) (h.0, h.1, h.2, values_rising (rank x + 1) xs h.3)
  | inr e ↦ subst (Rises r) (sym (mark_left x.0 x.1 xs e)) (rises_less (rank x + 1) r (values_in xs) (omega (arith, h.0)) (values_rising (rank x + 1) xs h.3))
]

values_dots : (n : ℕ) (l : List (ℕ × ℕ)) → DotsUpTo n l → DotsUpTo n (values_in l)
values_dots n [] h = tt
values_dots n (x ∷ xs) h = elim (cases_Bool (nat_lt x.0 HOPELESS)) [
  | inl e ↦ subst (DotsUpTo n) (sym (value_kept x.0 x.1 xs e)) (h.0, values_dots n xs h.1)
  | inr e ↦ subst (DotsUpTo n) (sym (mark_left x.0 x.1 xs e)) (values_dots n xs h.1)
]

-- the values are found still, and no mark is
values_found : (d : ℕ) (l : List (ℕ × ℕ)) → found_in as_value d (values_in l) ≡ found_in as_value d l
values_found d [] = refl
values_found d (x ∷ xs) =
    let more = values_found d xs in
    elim (cases_Bool (nat_lt x.0 HOPELESS)) [
      | inl e ↦ ap (found_in as_value d) (value_kept x.0 x.1 xs e) ∙ ap (found_first d x.1 (as_value x.0)) more
      | inr e ↦ ap (found_in as_value d) (mark_left x.0 x.1 xs e) ∙ more ∙ sym (ap (λ o. found_first d x.1 o (found_in as_value d xs)) (as_value_is x.0 false e))
    ]

no_marks : (d : ℕ) (l : List (ℕ × ℕ)) → found_in as_hopeless d (values_in l) ≡ None
no_marks d [] = refl
no_marks d (x ∷ xs) =
    let more = no_marks d xs in
    elim (cases_Bool (nat_lt x.0 HOPELESS)) [
      | inl e ↦ ap (found_in as_hopeless d) (value_kept x.0 x.1 xs e) ∙ ap (λ o. found_first d x.1 o (found_in as_hopeless d (values_in xs))) (as_mark_is x.0 true e) ∙ more
      | inr e ↦ ap (found_in as_hopeless d) (mark_left x.0 x.1 xs e) ∙ more
    ]

-- the strings with new heads for their values
pub record HasFresh (cells : ValuedFamilies ℕ) (records : List Record) (cells' : ValuedFamilies ℕ) (fresh : List Record) : Type 0 where
  pub held : AreValuedFamilies cells'
  pub signs : cells'.signs ≡ cells.signs
  pub families : cells'.families ≡ cells.families
  pub lists : (q : List ℕ) (u : ℕ) → find order q cells.values ≡ Some u → (head : ℕ) × (find order q cells'.values ≡ Some head) × (head ≤ length fresh)
      × (list_of fresh head ≡ values_in (list_of records u))
  pub back : (q : List ℕ) (head : ℕ) → find order q cells'.values ≡ Some head → (u : ℕ) × (find order q cells.values ≡ Some u)

pub has_fresh : (cells : ValuedFamilies ℕ) (records : List Record) (fresh : List Record) (heads : List ℕ) (cells' : ValuedFamilies ℕ) → AreValuedFamilies cells
    → AreFresh cells records fresh heads → Renews cells heads cells' → HasFresh cells records cells' fresh
has_fresh cells records fresh heads cells' held f r = record {
  held = r.held;
  signs = r.signs;
  families = r.families;
  lists = λ q u at.
      let cell = held.celled q u at in
      let head = f.1.lists q cell.0 u cell.1 (f.2 q cell.0 cell.1) at in
      (get_or heads u 0, r.given q u at, head.inside, head.list);
  back = λ q head at.
      let cell = r.held.celled q head at in
      held.valued q cell.0 (ap (λ fs. cell_of fs q) (sym r.families) ∙ cell.1);
}

module _ (cells : ValuedFamilies ℕ) (records : List Record) (is : IsPatternTrie cells records) (cells' : ValuedFamilies ℕ) (fresh : List Record)
    (new : HasFresh cells records cells' fresh) (one_head : OneHeadEach fresh) where
  -- the strings of the patterns, and whether a string keeps its cell
  abbrev strings_of : List (List ℕ)
  strings_of = map (λ e. e.0.0) (maps_of cells records).patterns

  abbrev pub keeps : List ℕ → Bool
  keeps = keeps_cell strings_of

  -- a string from which one with a value goes on is kept
  kept_front : (q more : List ℕ) (u : ℕ) → find order (q ++ more) cells.values ≡ Some u → has_value (list_of records u) ≡ true → keeps q ≡ true
  kept_front q more u at value =
      or_right (nat_le (length q) 1) (list_any (λ t. starts_with nat_eq t q) strings_of)
      (any_entries (λ t. starts_with nat_eq t q) (list_of records) cells.values
      ∙ find_any (λ t. starts_with nat_eq t q) (λ h. has_value (list_of records h)) cells.values (q ++ more) u at (begins q more) value)

  -- and a longer string that is kept goes on to one
  front_kept : (q : List ℕ) → 1 < length q → keeps q ≡ true → (t : List ℕ) × (u : ℕ) × (find order t cells.values ≡ Some u) × (starts_with nat_eq t q ≡ true) × (has_value (list_of records u) ≡ true)
  front_kept q long kept_is = elim (or_cases (nat_le (length q) 1) (list_any (λ t. starts_with nat_eq t q) strings_of) kept_is) [
    | inl short ↦ absurd (let le : length q ≤ 1 = leb-true (length q) 1 short in omega arith)
    | inr any ↦ any_find (λ t. starts_with nat_eq t q) (λ h. has_value (list_of records h)) cells.values is.held.ordered
        (sym (any_entries (λ t. starts_with nat_eq t q) (list_of records) cells.values) ∙ any)
  ]

  single : (q : List ℕ) → length q ≤ 1 → keeps q ≡ true
  single q le = or_left (nat_le (length q) 1) (list_any (λ t. starts_with nat_eq t q) strings_of) (le-leb (length q) 1 le)

  -- a string whose list has no value has the head 0
  no_head : (q : List ℕ) (u head : ℕ) → find order q cells.values ≡ Some u → find order q cells'.values ≡ Some head → has_value (list_of records u) ≡ false → head ≡ 0
  no_head q u head at at' none =
      let l = new.lists q u at in
      let both : Some l.0 ≡ Some head = sym l.1 ∙ at' in
      let same : l.0 ≡ head = cc in
      sym same ∙ one_head l.0 0 l.2 (omega arith) (l.3 ∙ without_values (list_of records u) none ∙ sym (list_of-zero fresh))

  listed : (q : List ℕ) (v : ℕ) → find order q cells'.values ≡ Some v → v ≢ 0 → keeps q ≡ true
  listed q v at other =
      let b = new.back q v at in
      elim (cases_Bool (has_value (list_of records b.0))) [
        | inl value ↦ kept_front q [] b.0 (ap (λ p. find order p cells.values) (append-nil q) ∙ b.1) value
        | inr none ↦ absurd (other (no_head q b.0 v b.1 at none))
      ]

  goes_on : (q : List ℕ) (x : ℕ) → keeps (q ++ x ∷ []) ≡ true → keeps q ≡ true
  goes_on q x kept_is = elim (or_cases (nat_le (length (q ++ x ∷ [])) 1) (list_any (λ t. starts_with nat_eq t (q ++ x ∷ [])) strings_of) kept_is) [
    | inl short ↦ let le : length (q ++ x ∷ []) ≤ 1 = leb-true (length (q ++ x ∷ [])) 1 short in single q (omega (arith, length_push q x))
    | inr any ↦
        let t = any_find (λ t. starts_with nat_eq t (q ++ x ∷ [])) (λ h. has_value (list_of records h)) cells.values is.held.ordered
        (sym (any_entries (λ t. starts_with nat_eq t (q ++ x ∷ [])) (list_of records) cells.values) ∙ any) in
        let whole = begun t.0 q (begun_less t.0 q x t.3) in
        kept_front q (drop (length q) t.0) t.1 (ap (λ p. find order p cells.values) (sym whole) ∙ t.2) t.4
  ]

  blank : (q : List ℕ) → 1 < length q → find order q cells'.values ≡ Some 0 → ((x v : ℕ) → find order (q ++ x ∷ []) cells'.values ≡ Some v → keeps (q ++ x ∷ []) ≡ false) → keeps q ≡ false
  blank q long at none = by (keeps q) refl
    where
      none_goes_on : (t : List ℕ) (u : ℕ) → find order t cells.values ≡ Some u → has_value (list_of records u) ≡ true → (rest : List ℕ) → t ≡ q ++ rest → ⊥
      none_goes_on t u there value [] e =
          let l = new.lists q u (ap (λ p. find order p cells.values) (sym (e ∙ append-nil q)) ∙ there) in
          let both : Some l.0 ≡ Some 0 = sym l.1 ∙ at in
          let zero_is : l.0 ≡ 0 = cc in
          with_values (list_of records u) value (sym l.3 ∙ ap (list_of fresh) zero_is ∙ list_of-zero fresh)
      none_goes_on t u there value (x ∷ more) e =
          let cell = is.held.celled t u there in
          let whole : t ≡ (q ++ x ∷ []) ++ more = e ∙ sym (append_assoc q (x ∷ []) more) in
          fronted (cell_of cells.families (q ++ x ∷ [])) refl (ap (cell_of cells.families) (sym whole) ∙ cell.1)
          (kept_front (q ++ x ∷ []) more u (ap (λ p. find order p cells.values) (sym whole) ∙ there) value)
        where
          fronted : (o : Option ℕ) → cell_of cells.families (q ++ x ∷ []) ≡ o → cell_of cells.families ((q ++ x ∷ []) ++ more) ≡ Some (is.held.celled t u there).0 → keeps (q ++ x ∷ []) ≡ true → ⊥
          fronted None nothing long_cell kept_is = none_some (cell_of cells.families ((q ++ x ∷ []) ++ more)) (is.held.celled t u there).0 (is.held.none_longer q x more nothing) long_cell
          fronted (Some c) some long_cell kept_is =
              let v = new.held.valued (q ++ x ∷ []) c (ap (λ fs. cell_of fs (q ++ x ∷ [])) new.families ∙ some) in
              not_both (keeps (q ++ x ∷ [])) kept_is (none x v.0 v.1)

      by : (b : Bool) → keeps q ≡ b → keeps q ≡ false
      by false e = e
      by true e = let t = front_kept q long e in absurd (none_goes_on t.0 t.1 t.2 t.4 (drop (length q) t.0) (begun t.0 q t.3))

  pub is_keep : IsKeep keeps cells'
  is_keep = record { single = single; listed = listed; goes_on = goes_on; blank = blank }

  module _ (left : ValuedFamilies ℕ) (p : Prunes keeps cells' left) where
    -- the head of a string that is left
    left_head : (q : List ℕ) (head : ℕ) → find order q left.values ≡ Some head → find order q cells'.values ≡ Some head
    left_head q head at = by (keeps q) refl
      where
        by : (b : Bool) → keeps q ≡ b → find order q cells'.values ≡ Some head
        by true e = sym (p.stays q e) ∙ at
        by false e = absurd (none_some (find order q left.values) head (p.gone q e) at)

    pub left_trie : IsPatternTrie left fresh
    left_trie = record {
      signs = omega (arith, is.signs, p.signs, new.signs);
      held = p.held;
      heads = λ q head at.
          let at' = left_head q head at in
          let b = new.back q head at' in
          let l = new.lists q b.0 b.1 in
          let both : Some l.0 ≡ Some head = sym l.1 ∙ at' in
          let same : l.0 ≡ head = cc in
          let list : list_of fresh head ≡ values_in (list_of records b.0) = ap (list_of fresh) (sym same) ∙ l.3 in
          let h = is.heads q b.0 b.1 in
          record {
            inside = omega (arith, l.2, same);
            short = h.short;
            rises = subst (Rises 0) (sym list) (values_rising 0 (list_of records b.0) h.rises);
            dots = subst (DotsUpTo (length q)) (sym list) (values_dots (length q) (list_of records b.0) h.dots);
          };
    }

    -- the values that are left
    left_values : (q : List ℕ) (d : ℕ) → found_at as_value (list_of fresh) d (find order q left.values) ≡ found_at as_value (list_of records) d (find order q cells.values)
    left_values q d = by (find order q cells.values) refl (keeps q) refl
      where
        by : (o : Option ℕ) → find order q cells.values ≡ o → (b : Bool) → keeps q ≡ b → found_at as_value (list_of fresh) d (find order q left.values)
            ≡ found_at as_value (list_of records) d (find order q cells.values)
        by None none b e = ap (found_at as_value (list_of fresh) d) (nothing (find order q left.values) refl) ∙ sym (ap (found_at as_value (list_of records) d) none)
          where
            nothing : (o : Option ℕ) → find order q left.values ≡ o → find order q left.values ≡ None
            nothing None at = at
            nothing (Some head) at = let u = new.back q head (left_head q head at) in absurd (none_some (find order q cells.values) u.0 none u.1)
        by (Some u) some true e =
            let l = new.lists q u some in
            ap (found_at as_value (list_of fresh) d) (p.stays q e ∙ l.1) ∙ ap (found_in as_value d) l.3 ∙ values_found d (list_of records u) ∙ sym (ap (found_at as_value (list_of records) d) some)
        by (Some u) some false e =
            let value : has_value (list_of records u) ≡ false = elim (cases_Bool (has_value (list_of records u)))
            [ inl v ↦ absurd (not_both (keeps q) (kept_front q [] u (ap (λ p. find order p cells.values) (append-nil q) ∙ some) v) e) | inr v ↦ v ] in
            ap (found_at as_value (list_of fresh) d) (p.gone q e)
            ∙ sym (ap (found_in as_value d) (without_values (list_of records u) value))
            ∙ values_found d (list_of records u)
            ∙ sym (ap (found_at as_value (list_of records) d) some)

    pub left_patterns : (maps_of left fresh).patterns ≡ (maps_of cells records).patterns
    left_patterns =
        same_entries dotted_cmp dotted_total dotted_exact (maps_of left fresh).patterns (maps_of cells records).patterns (sorted_values left fresh left_trie) (sorted_values cells records is)
        (λ k. find-entries as_value (list_of fresh) left.values k.0 k.1 p.held.ordered ∙ left_values k.0 k.1 ∙ sym (find-entries as_value (list_of records) cells.values k.0 k.1 is.held.ordered))

    pub left_hopeless : (maps_of left fresh).hopeless ≡ []
    left_hopeless =
        same_entries dotted_cmp dotted_total dotted_exact (maps_of left fresh).hopeless [] (sorted_marks left fresh left_trie) tt
        (λ k. find-entries as_hopeless (list_of fresh) left.values k.0 k.1 p.held.ordered ∙ none k.0 k.1 (find order k.0 left.values) refl)
      where
        none : (q : List ℕ) (d : ℕ) (o : Option ℕ) → find order q left.values ≡ o → found_at as_hopeless (list_of fresh) d (find order q left.values) ≡ None
        none q d None at = ap (found_at as_hopeless (list_of fresh) d) at
        none q d (Some head) at =
            let at' = left_head q head at in
            let b = new.back q head at' in
            let l = new.lists q b.0 b.1 in
            let both : Some l.0 ≡ Some head = sym l.1 ∙ at' in
            let same : l.0 ≡ head = cc in
            ap (found_at as_hopeless (list_of fresh) d) at ∙ ap (λ h. found_in as_hopeless d (list_of fresh h)) (sym same) ∙ ap (found_in as_hopeless d) l.3 ∙ no_marks d (list_of records b.0)

    pub left_families : left.families ≡ kept_families strings_of cells.families
    left_families = p.families ∙ ap (flat_map (kept_family keeps)) new.families ∙ sym (kept_is strings_of cells.families)

    -- what is seen of the trie that is left
    pub left_view : (m : Maps) → maps_of cells records ≡ m → maps_of left fresh ≡ record m { hopeless = []; families = kept_families (map (λ e. e.0.0) m.patterns) m.families; records = fresh }
    left_view m seen =
        let signs_are : left.signs ≡ m.signs = p.signs ∙ new.signs ∙ ap (λ (m : Maps). m.signs) seen in
        let families_are : left.families ≡ kept_families (map (λ e. e.0.0) m.patterns) m.families = left_families ∙ ap (λ (m : Maps). kept_families (map (λ e. e.0.0) m.patterns) m.families) seen in
        let patterns_are : (maps_of left fresh).patterns ≡ m.patterns = left_patterns ∙ ap (λ (m : Maps). m.patterns) seen in
        λ i. record { signs = signs_are i; families = families_are i; patterns = patterns_are i; hopeless = left_hopeless i; records = fresh }

-- what a trie is whose hopeless marks were deleted
pub record IsDeleted (m : Maps) (left : ValuedFamilies ℕ) (fresh : List Record) : Type 0 where
  pub trie : IsPatternTrie left fresh
  pub view : maps_of left fresh ≡ record m { hopeless = []; families = kept_families (map (λ e. e.0.0) m.patterns) m.families; records = fresh }

pub deleted : (cells : ValuedFamilies ℕ) (records : List Record) (is : IsPatternTrie cells records) (cells' : ValuedFamilies ℕ) (fresh : List Record)
    (new : HasFresh cells records cells' fresh) (one_head : OneHeadEach fresh) (left : ValuedFamilies ℕ)
    → ((keep : List ℕ → Bool) → IsKeep keep cells' → Prunes keep cells' left) → (m : Maps) → maps_of cells records ≡ m → IsDeleted m left fresh
deleted cells records is cells' fresh new one_head left prunes m seen =
    let p = prunes (keeps cells records is cells' fresh new one_head) (is_keep cells records is cells' fresh new one_head) in
    record {
      trie = left_trie cells records is cells' fresh new one_head left p;
      view = left_view cells records is cells' fresh new one_head left p m seen;
    }
