-- The records of a table: what their lists are, and the values of a string by its list.
use Rattle.std.proofs.Common.{◌≡◌, ℕ, suc, zero, ◌+◌, ◌<◌, ◌≤◌, ◌⊎◌, inl, inr, max, cond, ◌&&◌, nat_eq, List, [], ◌∷◌, length, map, filter, get_or, slice_get, Some, refl, sym, ◌∙◌, ap, subst, arith}
use Rattle.std.specs.Option.{option_map}
use Rattle.std.specs.Cmp.Lexicographic.{pointwise}
use Rattle.std.proofs.lemmas.Bool.{cases_Bool, cases_eq, eq-eqb, ne_eqb}
use Rattle.std.proofs.lemmas.List.{length-map, same_lists}
use Rattle.std.proofs.lemmas.Option.{slice_get-map, get_or_from_slice_get, slice_get-get_or}
use Rattle.pg_types.specs.declared.limits.TheConstants.{LEVEL_MAX, PATTERN_SIGNS_MAX}
use Rattle.pg_types.specs.Tails.{outputs_of}
use Rattle.pg_patterns.specs.Inside.DottedOrder.{same_dotted}
use Rattle.pg_patterns.specs.Values.{Patterns, greatest_value, value_of}
use Rattle.pg_patterns.specs.Inside.PatternMaps.{IsPatternMap}
use Rattle.pg_patterns.proofs.Kept.{value_of_sorted}
use Rattle.pg_outputs.specs.declared.records.Record.{Record}
use Rattle.pg_outputs.specs.Lists.{list_of}
use Rattle.pg_outputs.proofs.ListLaws.{list_of-at, list_of-zero}
use Rattle.pg_table.specs.Inside.view.Greatest.{value_in_list}
use Rattle.pg_table.specs.Inside.text.Sharing.{Lists, value_and_dot, Shares}
use Rattle.pg_table.specs.Texts.{head_among}
use Rattle.pg_table.specs.Inside.text.Files.{record_of}
use Rattle.pg_table.proofs.parts.FormLaws.{IsSoundRecord}
use Rattle.pg_table.proofs.text.Recorded.{Among, AreOrdered, head_cases, head_within}

-- the dot and the value of a pattern
pub record IsGood (x : ℕ × ℕ) : Type 0 where
  pub low : 1 ≤ x.1
  pub high : x.1 ≤ LEVEL_MAX
  pub dot : x.0 ≤ PATTERN_SIGNS_MAX

pub turned_apart : (l m : List (ℕ × ℕ)) → map value_and_dot l ≡ map value_and_dot m → l ≡ m
turned_apart l m e = sym (back l) ∙ ap (map value_and_dot) e ∙ back m
  where
    back : (l : List (ℕ × ℕ)) → map value_and_dot (map value_and_dot l) ≡ l
    back [] = refl
    back (x ∷ xs) = ap (λ l. x ∷ l) (back xs)

module _ (lists : Lists) (ordered : AreOrdered IsGood lists) where
  abbrev records : List Record
  records = map (record_of lists) lists

  there : (i : ℕ) (l : List (ℕ × ℕ)) → slice_get lists i ≡ Some l → slice_get records i ≡ Some (record_of lists l)
  there i l at = slice_get-map (record_of lists) lists i ∙ ap (option_map (record_of lists)) at

  -- the empty list has the head 0
  pub head_of_none : head_among lists [] ≡ 0
  head_of_none = elim (head_cases lists []) [
    | inl some ↦ absurd (let is = ordered.each some.0 [] some.2 in let e : [] ≡ is.first ∷ is.rest = is.whole in cc)
    | inr none ↦ none.0
  ]

  -- the rest of a list has a head before its own
  rest_before : (i : ℕ) (rest : List (ℕ × ℕ)) → (rest ≡ []) ⊎ ((j : ℕ) × (j < i) × (slice_get lists j ≡ Some rest)) → head_among lists rest ≤ i
  rest_before i rest (inl none) = omega (arith, ap (head_among lists) none, head_of_none)
  rest_before i rest (inr some) = elim (head_cases lists rest) [
    | inl found ↦ omega (arith, found.1, found.3 some.0 some.2, some.1)
    | inr none ↦ omega (arith, none.0)
  ]

  -- a record may stand at its place
  pub sound_record : (i : ℕ) (l : List (ℕ × ℕ)) → slice_get lists i ≡ Some l → IsSoundRecord i (record_of lists l)
  sound_record i l at =
      let is = ordered.each i l at in
      subst (λ m. IsSoundRecord i (record_of lists m)) (sym is.whole) (record { low = is.good.low; high = is.good.high; dot = is.good.dot; back = rest_before i is.rest is.before })

  -- and its head stands for the list
  pub list_at : (i : ℕ) (l : List (ℕ × ℕ)) → slice_get lists i ≡ Some l → list_of records (i + 1) ≡ map value_and_dot l
  list_at i l at = below (suc i) i l (omega arith) at
    where
      below : (n i : ℕ) (l : List (ℕ × ℕ)) → i < n → slice_get lists i ≡ Some l → list_of records (i + 1) ≡ map value_and_dot l
      below zero i l lt at = absurd (omega arith)
      below (suc n) i l lt at =
          let is = ordered.each i l at in
          let r : Record = record_of lists (is.first ∷ is.rest) in
          let here : slice_get records i ≡ Some r = there i l at ∙ ap (λ m. Some (record_of lists m)) is.whole in
          let back : r.next ≤ i = rest_before i is.rest is.before in
          let rest : list_of records (head_among lists is.rest) ≡ map value_and_dot is.rest = elim is.before [
            | inl none ↦ ap (list_of records) (ap (head_among lists) none ∙ head_of_none) ∙ list_of-zero records ∙ ap (map value_and_dot) (sym none)
            | inr some ↦ elim (head_cases lists is.rest) [
              | inl found ↦ ap (list_of records) found.1 ∙ below n found.0 is.rest (omega (arith, found.3 some.0 some.2, some.1)) found.2
              | inr missing ↦ absurd (missing.1 some.0 some.2)
            ]
          ] in
          list_of-at records i r here back ∙ ap (λ m. value_and_dot is.first ∷ m) rest ∙ ap (map value_and_dot) (sym is.whole)

  -- the list of the head of a list that is recorded, or empty
  pub listed : (l : List (ℕ × ℕ)) → (l ≡ []) ⊎ Among lists l → list_of records (head_among lists l) ≡ map value_and_dot l
  listed l (inl none) = ap (list_of records) (ap (head_among lists) none ∙ head_of_none) ∙ list_of-zero records ∙ ap (map value_and_dot) (sym none)
  listed l (inr some) = elim (head_cases lists l) [
    | inl found ↦ ap (list_of records) found.1 ∙ list_at found.0 l found.2
    | inr none ↦ absurd (none.1 some.0 some.1)
  ]

module _ (records : List Record) (lists : Lists) (ordered : AreOrdered IsGood lists) (shares : Shares records lists) where
  -- a head that stands for a list is the list's
  pub head_is : (l : List (ℕ × ℕ)) (head : ℕ) → (l ≡ []) ⊎ Among lists l → head ≤ length records → list_of records head ≡ map value_and_dot l → head ≡ head_among lists l
  head_is l head known inside is =
      let within : head_among lists l ≤ length records = omega (arith, head_within lists l, shares.size) in
      shares.one_head head (head_among lists l) inside within (is ∙ sym (same known))
    where
      same : (l ≡ []) ⊎ Among lists l → list_of records (head_among lists l) ≡ map value_and_dot l
      same (inl none) = ap (list_of records) (ap (head_among lists) none ∙ head_of_none lists ordered) ∙ list_of-zero records ∙ ap (map value_and_dot) (sym none)
      same (inr some) = elim (head_cases lists l) [
        | inl found ↦ ap (list_of records) found.1 ∙ shares.each found.0 l found.2
        | inr missing ↦ absurd (missing.1 some.0 some.1)
      ]

  -- so the records are those of the lists
  pub records_are : records ≡ map (record_of lists) lists
  records_are = same_lists records (map (record_of lists) lists) (shares.size ∙ sym (length-map lists (record_of lists))) each
    where
      each : (i : ℕ) (d : Record) → i < length records → get_or records i d ≡ get_or (map (record_of lists) lists) i d
      each i d inside =
          let r : Record = get_or records i d in
          let at : slice_get records i ≡ Some r = slice_get-get_or records i d inside in
          let within : i < length lists = omega (arith, shares.size) in
          let l : List (ℕ × ℕ) = get_or lists i [] in
          let l_at : slice_get lists i ≡ Some l = slice_get-get_or lists i [] within in
          let is = ordered.each i l l_at in
          let back : r.next ≤ i = shares.shared.back i r at in
          let list : (r.value, r.dot) ∷ list_of records r.next ≡ value_and_dot is.first ∷ map value_and_dot is.rest = sym (list_of-at records i r at back)
          ∙ shares.each i l l_at ∙ ap (map value_and_dot) is.whole in
          let first : (r.value, r.dot) ≡ value_and_dot is.first = cc in
          let rest : list_of records r.next ≡ map value_and_dot is.rest = cc in
          let known : (is.rest ≡ []) ⊎ Among lists is.rest = elim is.before [ inl none ↦ inl none | inr some ↦ inr (some.0, some.2) ] in
          let next : r.next ≡ head_among lists is.rest = head_is is.rest r.next known (omega arith) rest in
          let same : r ≡ record_of lists (is.first ∷ is.rest) = λ t. record { value = (first t).0; dot = (first t).1; next = next t } in
          same ∙ ap (record_of lists) (sym is.whole)
          ∙ sym (get_or_from_slice_get (map (record_of lists) lists) i (record_of lists l) d (slice_get-map (record_of lists) lists i ∙ ap (option_map (record_of lists)) l_at))

-- the greatest value at a dot in the list of a string is the value of the string's place
pub entry_is : (P : Patterns) (q : List ℕ) (d : ℕ) → IsPatternMap P → value_in_list d (map value_and_dot (outputs_of P q)) ≡ value_of P (q, d)
entry_is P q d sound = all P ∙ sym (value_of_sorted P (q, d) sound.sorted)
  where
    turned_test : (x : ℕ) → nat_eq x d ≡ nat_eq d x
    turned_test x = elim (cases_eq x d) [
      | inl same ↦ eq-eqb x d same ∙ sym (eq-eqb d x (sym same))
      | inr other ↦ ne_eqb x d other ∙ sym (ne_eqb d x (λ z. other (sym z)))
    ]

    all : (es : List ((List ℕ × ℕ) × ℕ)) → value_in_list d (map value_and_dot (outputs_of es q)) ≡ greatest_value (same_dotted (q, d)) es
    all [] = refl
    all (e ∷ es) =
        let rest : ℕ = greatest_value (same_dotted (q, d)) es in
        elim (cases_Bool (pointwise nat_eq q e.0.0)) [
          | inl same ↦
              ap (λ t. value_in_list d (map value_and_dot (map (λ f. (f.0.1, f.1)) (cond t (e ∷ filter (λ f. pointwise nat_eq q f.0.0) es) (filter (λ f. pointwise nat_eq q f.0.0) es))))) same
              ∙ ap (λ n. max (cond (nat_eq e.0.1 d) e.1 0) n) (all es)
              ∙ ap (λ t. max (cond t e.1 0) rest) (turned_test e.0.1)
              ∙ ap (λ t. max (cond (t && nat_eq d e.0.1) e.1 0) rest) (sym same)
          | inr other ↦
              let none : rest ≡ max 0 rest = omega arith in
              ap (λ t. value_in_list d (map value_and_dot (map (λ f. (f.0.1, f.1)) (cond t (e ∷ filter (λ f. pointwise nat_eq q f.0.0) es) (filter (λ f. pointwise nat_eq q f.0.0) es))))) other
              ∙ all es
              ∙ none
              ∙ ap (λ t. max (cond (t && nat_eq d e.0.1) e.1 0) rest) (sym other)
        ]
