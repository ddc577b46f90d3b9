-- The entries of one string, from its first dot on.
use Rattle.std.proofs.Common.{◌≡◌, ℕ, ◌+◌, true, false, not, T, List, [], ◌∷◌, max, ◌||◌, nat_eq, nat_cmp, sym, refl, ap, subst, ◌∙◌}
use Rattle.std.specs.declared.ops.Bound.TheVariants.{Included, Unbounded}
use Rattle.std.specs.BTreeMap.Range.{entries_between, range_contains}
use Rattle.std.specs.Cmp.Lexicographic.{slice_cmp, pointwise, bytes_decides}
use Rattle.std.specs.Ordering.{is_le, is_gt}
use Rattle.std.specs.FinMap.Entries.{is_sorted, is_sorted-where_key}
use Rattle.std.specs.List.{starts_with, list_all, list_any}
use Rattle.pg_patterns.specs.DottedSigns.{dotted_cmp}
use Rattle.pg_select.specs.Inside.words.Positions.{Positions, RaisesAt, values_of, covers_of}
use Rattle.pg_plain.specs.Inside.Greatest.{RaisesBy}
use Rattle.pg_plain.specs.Inside.Walks.{has_signs_at, is_extension}
use Rattle.pg_plain.proofs.Bools.{any_none, any_filter, all_filter}
use Rattle.pg_plain.proofs.Greatest.{Level, greatest-filter, level_end, level_first}
use Rattle.pg_plain.proofs.Orders.{upto_itself, prefix_upto, prefix_between, both_upto, from_string, string_from, behind}
use Rattle.pg_types.proofs.BoolFacts.{and_first, and_second, no_test, all_weaker, second_half, first_half}
use Rattle.std.proofs.lemmas.Bool.{and_from, not_from_false, not-true}

-- the entries of q that are left are the first of rest
pub record StringLeft {X : Type 0} (value cover : (List ℕ × ℕ) × X → ℕ) (q : List ℕ) (i : ℕ) (es rest : List ((List ℕ × ℕ) × X)) (before now : Positions) : Type 0 where
  pub sorted : T (is_sorted dotted_cmp rest)
  pub from : list_all (λ e. is_le (dotted_cmp (q, 0) e.0)) rest ≡ true
  pub going : list_any (λ e. is_extension q e.0.0) rest ≡ list_any (λ e. is_extension q e.0.0) es
  pub values : Level value (values_of now) (has_signs_at q i) rest (values_of before) (has_signs_at q i) es
  pub covers : Level cover (covers_of now) (has_signs_at q i) rest (covers_of before) (has_signs_at q i) es

-- what is known when the entries of q were all met
pub record StringDone {X : Type 0} (value cover : (List ℕ × ℕ) × X → ℕ) (q : List ℕ) (i : ℕ) (es : List ((List ℕ × ℕ) × X)) (before now : Positions) : Type 0 where
  pub values : RaisesBy value (has_signs_at q i) es (values_of before) (values_of now)
  pub covers : RaisesBy cover (has_signs_at q i) es (covers_of before) (covers_of now)

same_is : (q r : List ℕ) → pointwise nat_eq q r ≡ true → q ≡ r
same_is q r same = (bytes_decides q r).0 same

-- strings that are q come not before its first dot
string_at : (q : List ℕ) (i p : ℕ) (k : List ℕ × ℕ) → has_signs_at q i p k ≡ true → is_gt (slice_cmp nat_cmp q k.0) ≡ false
string_at q i p k row =
    subst (λ r. is_gt (slice_cmp nat_cmp q r) ≡ false) (sym (same_is k.0 q (and_first _ _ row))) (upto_itself q)

kept_from : (q : List ℕ) (k f : List ℕ × ℕ) → f ≡ (q, 0) → is_gt (slice_cmp nat_cmp q k.0) ≡ false → range_contains dotted_cmp (Included f) Unbounded k ≡ true
kept_from q k f is low =
    and_from _ _ (subst (λ x. is_le (dotted_cmp x k) ≡ true) (sym is) (from_string q k low)) refl

module _ {X : Type 0} (value cover : (List ℕ × ℕ) × X → ℕ) (q : List ℕ) (i : ℕ) (es : List ((List ℕ × ℕ) × X)) where
  pub string_begins : (f : List ℕ × ℕ) (rest : List ((List ℕ × ℕ) × X)) (before : Positions) → f ≡ (q, 0) → T (is_sorted dotted_cmp es) → rest
      ≡ entries_between dotted_cmp (Included f) Unbounded es → StringLeft value cover q i es rest before before
  string_begins f rest before is sorted cut =
      subst (λ x. StringLeft value cover q i es x before before) (sym cut) (record {
        sorted = is_sorted-where_key dotted_cmp (range_contains dotted_cmp (Included f) Unbounded) es sorted;
        from = all_weaker (λ (e : (List ℕ × ℕ) × X). range_contains dotted_cmp (Included f) Unbounded e.0) (λ (e : (List ℕ × ℕ) × X). is_le (dotted_cmp (q, 0) e.0))
            (entries_between dotted_cmp (Included f) Unbounded es)
            (λ e in_range. subst (λ x. is_le (dotted_cmp x e.0) ≡ true) is (and_first _ _ in_range)) (all_filter (λ (e : (List ℕ × ℕ) × X). range_contains dotted_cmp (Included f) Unbounded e.0) es);
        going = any_filter (λ (e : (List ℕ × ℕ) × X). is_extension q e.0.0) (λ (e : (List ℕ × ℕ) × X). range_contains dotted_cmp (Included f) Unbounded e.0) es
            (λ e goes. kept_from q e.0 f is (prefix_upto q e.0.0 (and_first _ _ goes)));
        values = λ p inside. ap (λ n. max (values_of before p) n) (greatest-filter value (has_signs_at q i p)
            (λ (e : (List ℕ × ℕ) × X). range_contains dotted_cmp (Included f) Unbounded e.0) es (λ e row. kept_from q e.0 f is (string_at q i p e.0 row)));
        covers = λ p inside. ap (λ n. max (covers_of before p) n) (greatest-filter cover (has_signs_at q i p)
            (λ (e : (List ℕ × ℕ) × X). range_contains dotted_cmp (Included f) Unbounded e.0) es (λ e row. kept_from q e.0 f is (string_at q i p e.0 row)));
      })

  pub string_steps : (e : (List ℕ × ℕ) × X) (rest left : List ((List ℕ × ℕ) × X)) (before now new : Positions) → left ≡ e ∷ rest
      → StringLeft value cover q i es left before now → pointwise nat_eq e.0.0 q ≡ true
      → RaisesAt (i + e.0.1) (value e) (values_of now) (values_of new) → RaisesAt (i + e.0.1) (cover e) (covers_of now) (covers_of new) → StringLeft value cover q i es rest before new
  string_steps e rest left before now new cut held same raised covered =
      let here = subst (λ x. StringLeft value cover q i es x before now) cut held in
      let ends : is_extension q e.0.0 ≡ false = no_test (is_extension q e.0.0) (λ goes. sym (not-true _ (and_second _ _ goes)) ∙ same) in
      record {
        sorted = second_half _ _ here.sorted;
        from = and_second _ _ here.from;
        going = ap (λ b. b || list_any (λ e. is_extension q e.0.0) rest) (sym ends) ∙ here.going;
        values = level_first value q i (has_signs_at q i) e rest es (values_of now) (values_of new) (values_of before) same here.values raised;
        covers = level_first cover q i (has_signs_at q i) e rest es (covers_of now) (covers_of new) (covers_of before) same here.covers covered;
      }

  -- no entry from one of another string on is of q
  other_string : (e : (List ℕ × ℕ) × X) → is_gt (slice_cmp nat_cmp q e.0.0) ≡ false → pointwise nat_eq e.0.0 q ≡ false → (p : ℕ) (k : List ℕ × ℕ)
      → not (is_gt (slice_cmp nat_cmp e.0.0 k.0)) ≡ true → has_signs_at q i p k ≡ false
  other_string e low other p k upto =
      no_test (has_signs_at q i p k) (λ row.
      let there : k.0 ≡ q = same_is k.0 q (and_first _ _ row) in
      let high : is_gt (slice_cmp nat_cmp e.0.0 q) ≡ false = subst (λ r. is_gt (slice_cmp nat_cmp e.0.0 r) ≡ false) there (not-true _ upto) in
      let same : e.0.0 ≡ q = both_upto e.0.0 q high low in
      sym other ∙ (bytes_decides e.0.0 q).1 same)

  pub string_stops : (e : (List ℕ × ℕ) × X) (rest left : List ((List ℕ × ℕ) × X)) (before now : Positions) → left ≡ e ∷ rest → StringLeft value cover q i es left before now
      → pointwise nat_eq e.0.0 q ≡ false → StringDone value cover q i es before now
  string_stops e rest left before now cut held other =
      let here = subst (λ x. StringLeft value cover q i es x before now) cut held in
      let low : is_gt (slice_cmp nat_cmp q e.0.0) ≡ false = string_from q e.0 (and_first _ _ here.from) in
      let sound : list_all (λ (y : (List ℕ × ℕ) × X). not (is_gt (slice_cmp nat_cmp e.0.0 y.0.0))) (e ∷ rest)
      ≡ true = and_from _ _ (not_from_false _ (upto_itself e.0.0)) (behind e rest (first_half _ _ here.sorted)) in
      record {
        values = level_end value (λ k. not (is_gt (slice_cmp nat_cmp e.0.0 k.0))) (has_signs_at q i) (has_signs_at q i) (e ∷ rest) es (values_of now)
            (values_of before) sound (other_string e low other) here.values;
        covers = level_end cover (λ k. not (is_gt (slice_cmp nat_cmp e.0.0 k.0))) (has_signs_at q i) (has_signs_at q i) (e ∷ rest) es (covers_of now)
            (covers_of before) sound (other_string e low other) here.covers;
      }

  -- where the next string does not begin with q, no later one does
  pub string_stops_ends : (e : (List ℕ × ℕ) × X) (rest left : List ((List ℕ × ℕ) × X)) (before now : Positions) → left ≡ e ∷ rest
      → StringLeft value cover q i es left before now → starts_with nat_eq e.0.0 q ≡ false → list_any (λ e. is_extension q e.0.0) es ≡ false
  string_stops_ends e rest left before now cut held apart =
      let here = subst (λ x. StringLeft value cover q i es x before now) cut held in
      let low : is_gt (slice_cmp nat_cmp q e.0.0) ≡ false = string_from q e.0 (and_first _ _ here.from) in
      let sound : list_all (λ (y : (List ℕ × ℕ) × X). not (is_gt (slice_cmp nat_cmp e.0.0 y.0.0))) (e ∷ rest)
      ≡ true = and_from _ _ (not_from_false _ (upto_itself e.0.0)) (behind e rest (first_half _ _ here.sorted)) in
      sym here.going ∙ any_none (λ (y : (List ℕ × ℕ) × X). not (is_gt (slice_cmp nat_cmp e.0.0 y.0.0))) (λ (y : (List ℕ × ℕ) × X). is_extension q y.0.0) (e ∷ rest) sound
      (λ y upto. no_test (is_extension q y.0.0) (λ goes. sym apart ∙ prefix_between q e.0.0 y.0.0 low (not-true _ upto) (and_first _ _ goes)))

  pub string_ends : (left : List ((List ℕ × ℕ) × X)) (before now : Positions) → left ≡ [] → StringLeft value cover q i es left before now → StringDone value cover q i es before now
  string_ends left before now cut held =
      let here = subst (λ x. StringLeft value cover q i es x before now) cut held in
      record {
        values = level_end value (λ k. false) (has_signs_at q i) (has_signs_at q i) [] es (values_of now) (values_of before) refl (λ p k good. cc) here.values;
        covers = level_end cover (λ k. false) (has_signs_at q i) (has_signs_at q i) [] es (covers_of now) (covers_of before) refl (λ p k good. cc) here.covers;
      }

  pub string_ends_going : (left : List ((List ℕ × ℕ) × X)) (before now : Positions) → left ≡ [] → StringLeft value cover q i es left before now → list_any (λ e. is_extension q e.0.0) es ≡ false
  string_ends_going left before now cut held =
      let here = subst (λ x. StringLeft value cover q i es x before now) cut held in
      sym here.going
