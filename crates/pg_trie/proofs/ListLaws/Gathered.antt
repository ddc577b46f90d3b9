-- The entries of the strings, gathered string by string.
use Rattle.std.proofs.Common.{◌≡◌, ℕ, ◌+◌, ◌*◌, ◌<◌, ◌≤◌, max, Bool, true, false, cond, ◌&&◌, nat_eq, nat_lt, List, [], ◌∷◌, ◌++◌, length, slice_get, Option, None, Some, unwrap_or, inl, inr, refl, sym, ◌∙◌, ap, subst, arith}
use Rattle.std.proofs.lemmas.Bool.{cases_Bool, cases_lt, eqb-true, and_from}
use Rattle.std.proofs.lemmas.List.Folds.{list_all-append}
use Rattle.std.proofs.lemmas.Option.{slice_get_within}
use Rattle.std.specs.Cmp.Lexicographic.{pointwise, texts_ties}
use Rattle.std.specs.List.{list_all}
use Rattle.std.specs.FinMap.Entries.{find}
use Rattle.pg_patterns.specs.Inside.DottedOrder.{same_dotted}
use Rattle.pg_patterns.specs.Values.{Patterns, greatest_value, value_of, map_of_entries}
use Rattle.pg_patterns.specs.Inside.PatternMaps.{is_entry}
use Rattle.pg_patterns.proofs.Joins.{value_of_joined, joined_keeps, same_maps}
use Rattle.pg_outputs.specs.declared.records.Record.{Record}
use Rattle.pg_outputs.specs.Lists.{list_of}
use Rattle.pg_cells.specs.Inside.linked.ValuedFamilies.{ValuedFamilies}
use Rattle.pg_cells.proofs.StringMaps.{order, equal_or_not}
use Rattle.pg_trie.specs.declared.hopeless.TheConstants.{HOPELESS}
use Rattle.pg_trie.specs.Inside.IsPatternTrie.{IsPatternTrie, IsListHead}
use Rattle.pg_trie.specs.Inside.Lists.{rank, Rises}
use Rattle.pg_trie.specs.Inside.Maps.{maps_of, entries_in, entry_ahead, as_value}
use Rattle.pg_trie.specs.Inside.Strings.{AreStrings}
use Rattle.pg_trie.proofs.ListLaws.Found.{found_first, found_in, found_at, find-entries}
use Rattle.pg_trie.proofs.ListLaws.Rising.{rank_value, as_value_is, no_value}
use Rattle.pg_trie.proofs.TrieLaws.Kept.{are_kept, string_entries}
use Rattle.pg_trie.proofs.TrieLaws.Listing.{every_string}

-- the greatest of two lists
best-append : (t : List ℕ × ℕ → Bool) (xs ys : List ((List ℕ × ℕ) × ℕ)) → greatest_value t (xs ++ ys) ≡ max (greatest_value t xs) (greatest_value t ys)
best-append t [] ys = omega arith
best-append t (x ∷ xs) ys = let more = best-append t xs ys in omega arith

-- the value of a dotted string among the entries of one string
best_here : (q : List ℕ) (d r : ℕ) (xs : List (ℕ × ℕ)) → Rises r xs → greatest_value (same_dotted (q, d)) (entries_in as_value q xs) ≡ unwrap_or (found_in as_value d xs) 0
best_here q d r [] h = refl
best_here q d r (x ∷ xs) h =
    let more = best_here q d (rank x + 1) xs h.3 in
    elim (cases_Bool (nat_lt x.0 HOPELESS)) [
      | inl e ↦
          ap (λ o. greatest_value (same_dotted (q, d)) (entry_ahead as_value (q, x.1) o (entries_in as_value q xs))) (as_value_is x.0 true e)
          ∙ ap (λ b. max (cond (b && nat_eq d x.1) x.0 0) (greatest_value (same_dotted (q, d)) (entries_in as_value q xs))) (itself q)
          ∙ ap (λ n. max (cond (nat_eq d x.1) x.0 0) n) more
          ∙ first (nat_eq d x.1) refl e
          ∙ sym (ap (λ o. unwrap_or (found_first d x.1 o (found_in as_value d xs)) 0) (as_value_is x.0 true e))
      | inr e ↦
          ap (λ o. greatest_value (same_dotted (q, d)) (entry_ahead as_value (q, x.1) o (entries_in as_value q xs))) (as_value_is x.0 false e)
          ∙ more
          ∙ sym (ap (λ o. unwrap_or (found_first d x.1 o (found_in as_value d xs)) 0) (as_value_is x.0 false e))
    ]
  where
    itself : (q : List ℕ) → pointwise nat_eq q q ≡ true
    itself q = elim (equal_or_not q q) [ inl h ↦ texts_ties q q ∙ h.1 | inr h ↦ absurd (h.0 refl) ]

    first : (b : Bool) → nat_eq d x.1 ≡ b → nat_lt x.0 HOPELESS ≡ true → max (cond b x.0 0) (unwrap_or (found_in as_value d xs) 0) ≡ unwrap_or (cond b (Some x.0) (found_in as_value d xs)) 0
    first false e is = omega arith
    first true e is =
        let at : d ≡ x.1 = eqb-true d x.1 e in
        let ranked : rank x ≡ 2 * x.1 = rank_value x is in
        let none : found_in as_value d xs ≡ None = no_value (rank x + 1) d xs (omega arith) h.3 in
        ap (λ o. max x.0 (unwrap_or o 0)) none ∙ (omega arith)

-- no other string has an entry there
best_elsewhere : (p q : List ℕ) (d : ℕ) (xs : List (ℕ × ℕ)) → pointwise nat_eq p q ≡ false → greatest_value (same_dotted (p, d)) (entries_in as_value q xs) ≡ 0
best_elsewhere p q d [] n = refl
best_elsewhere p q d (x ∷ xs) n =
    let more = best_elsewhere p q d xs n in
    elim (as_value x.0) as (λ o. greatest_value (same_dotted (p, d)) (entry_ahead as_value (q, x.1) o (entries_in as_value q xs)) ≡ 0) [
      | None ↦ more
      | Some v ↦ ap (λ b. max (cond (b && nat_eq d x.1) v 0) (greatest_value (same_dotted (p, d)) (entries_in as_value q xs))) n ∙ ap (λ m. max 0 m) more ∙ (omega arith)
    ]

-- the value of a dotted string by its string's list
value_is : (cells : ValuedFamilies ℕ) (records : List Record) → IsPatternTrie cells records → (q : List ℕ) (d : ℕ) → value_of (maps_of cells records).patterns (q, d)
    ≡ unwrap_or (found_at as_value (list_of records) d (find order q cells.values)) 0
value_is cells records is q d = ap (λ o. unwrap_or o 0) (find-entries as_value (list_of records) cells.values q d is.held.ordered)

-- the entries of the strings below the number i are gathered
pub record Gathers (P : Patterns) (strings : List (List ℕ × ℕ)) (i : ℕ) (es : List ((List ℕ × ℕ) × ℕ)) : Type 0 where
  pub sound : list_all is_entry es ≡ true
  pub under : (k : List ℕ × ℕ) → greatest_value (same_dotted k) es ≤ value_of P k
  pub reached : (j : ℕ) (k : List ℕ × ℕ) → j < i → slice_get strings j ≡ Some k → (d : ℕ) → value_of P (k.0, d) ≤ greatest_value (same_dotted (k.0, d)) es

pub gathers_none : (P : Patterns) (strings : List (List ℕ × ℕ)) → Gathers P strings 0 []
gathers_none P strings = record { sound = refl; under = λ k. omega arith; reached = λ j k lt at d. absurd (omega arith) }

pub gathers_more : (cells : ValuedFamilies ℕ) (records : List Record) → IsPatternTrie cells records
    → (strings : List (List ℕ × ℕ)) (i : ℕ) (es new : List ((List ℕ × ℕ) × ℕ)) (k : List ℕ × ℕ) (head : ℕ)
    → slice_get strings i ≡ Some k → find order k.0 cells.values ≡ Some head → new ≡ es ++ entries_in as_value k.0 (list_of records head)
    → Gathers (maps_of cells records).patterns strings i es → Gathers (maps_of cells records).patterns strings (i + 1) new
gathers_more cells records is strings i es new k head at value more g = subst (λ l. Gathers (maps_of cells records).patterns strings (i + 1) l) (sym more)
    (record { sound = sound; under = λ j. under j.0 j.1; reached = reached })
  where
    here : IsListHead records k.0 head
    here = is.heads k.0 head value

    sound : list_all is_entry (es ++ entries_in as_value k.0 (list_of records head)) ≡ true
    sound = list_all-append is_entry es (entries_in as_value k.0 (list_of records head))
        ∙ and_from (list_all is_entry es) (list_all is_entry (entries_in as_value k.0 (list_of records head))) g.sound (string_entries cells records is k.0 head value)

    is_here : (d : ℕ) → greatest_value (same_dotted (k.0, d)) (entries_in as_value k.0 (list_of records head)) ≡ value_of (maps_of cells records).patterns (k.0, d)
    is_here d = best_here k.0 d 0 (list_of records head) here.rises ∙ sym (value_is cells records is k.0 d ∙ ap (λ o. unwrap_or (found_at as_value (list_of records) d o) 0) value)

    under : (p : List ℕ) (d : ℕ) → greatest_value (same_dotted (p, d)) (es ++ entries_in as_value k.0 (list_of records head)) ≤ value_of (maps_of cells records).patterns (p, d)
    under p d =
        let old = g.under (p, d) in
        let whole = best-append (same_dotted (p, d)) es (entries_in as_value k.0 (list_of records head)) in
        elim (equal_or_not p k.0) [
          | inl h ↦
              let same : greatest_value (same_dotted (p, d)) (entries_in as_value k.0 (list_of records head)) ≡ value_of (maps_of cells records).patterns (p, d) =
              ap (λ q. greatest_value (same_dotted (q, d)) (entries_in as_value k.0 (list_of records head))) h.0 ∙ is_here d ∙ ap (λ q. value_of (maps_of cells records).patterns (q, d)) (sym h.0) in
              omega arith
          | inr h ↦
              let none : greatest_value (same_dotted (p, d)) (entries_in as_value k.0 (list_of records head)) ≡ 0 = best_elsewhere p k.0 d (list_of records head) (texts_ties p k.0 ∙ h.1) in
              omega arith
        ]

    reached : (j : ℕ) (y : List ℕ × ℕ) → j < i + 1 → slice_get strings j ≡ Some y → (d : ℕ)
        → value_of (maps_of cells records).patterns (y.0, d) ≤ greatest_value (same_dotted (y.0, d)) (es ++ entries_in as_value k.0 (list_of records head))
    reached j y lt there d =
        let whole = best-append (same_dotted (y.0, d)) es (entries_in as_value k.0 (list_of records head)) in
        elim (cases_lt j i) [
          | inl l ↦ let old = g.reached j y l there d in omega arith
          | inr ge ↦
              let e : j ≡ i = omega arith in
              let both : Some y ≡ Some k = sym there ∙ ap (slice_get strings) e ∙ at in
              let y_is : y ≡ k = cc in
              let same : value_of (maps_of cells records).patterns (y.0, d) ≡ greatest_value (same_dotted (y.0, d)) (entries_in as_value k.0 (list_of records head)) =
              ap (λ (x : List ℕ × ℕ). value_of (maps_of cells records).patterns (x.0, d)) y_is ∙ sym (is_here d)
              ∙ ap (λ (x : List ℕ × ℕ). greatest_value (same_dotted (x.0, d)) (entries_in as_value k.0 (list_of records head))) (sym y_is) in
              omega arith
        ]

-- the entries of all strings, joined, are the values
pub gathered : (cells : ValuedFamilies ℕ) (records : List Record) → IsPatternTrie cells records → (strings : List (List ℕ × ℕ)) → AreStrings cells strings
    → (es : List ((List ℕ × ℕ) × ℕ)) → Gathers (maps_of cells records).patterns strings (length strings) es → map_of_entries es ≡ (maps_of cells records).patterns
gathered cells records is strings listed es g =
    same_maps (map_of_entries es) (maps_of cells records).patterns (joined_keeps es g.sound) (are_kept cells records is).patterns
    (λ k. value_of_joined es k ∙ same k.0 k.1 (find order k.0 cells.values) refl)
  where
    same : (q : List ℕ) (d : ℕ) (o : Option ℕ) → find order q cells.values ≡ o → greatest_value (same_dotted (q, d)) es ≡ value_of (maps_of cells records).patterns (q, d)
    same q d None none =
        let zero_is : value_of (maps_of cells records).patterns (q, d) ≡ 0 = value_is cells records is q d ∙ ap (λ o. unwrap_or (found_at as_value (list_of records) d o) 0) none in
        let under = g.under (q, d) in
        omega arith
    same q d (Some head) some =
        let cell = is.held.celled q head some in
        let there = every_string cells is.held strings listed q cell.0 cell.1 in
        let under = g.under (q, d) in
        let reached = g.reached there.0 (q, 0) (slice_get_within strings there.0 (q, 0) there.2) there.2 d in
        omega arith

pub marks_step : (q : List ℕ) (es : List ((List ℕ × ℕ) × ℕ)) (v d : ℕ) (rest list : List (ℕ × ℕ)) (whole : List ((List ℕ × ℕ) × ℕ)) → nat_lt v HOPELESS ≡ false → list ≡ (v, d) ∷ rest
    → es ++ entries_in as_value q list ≡ whole → es ++ entries_in as_value q rest ≡ whole
marks_step q es v d rest list whole mark list_is is =
    ap (λ o. es ++ entry_ahead as_value (q, d) o (entries_in as_value q rest)) (sym (as_value_is v false mark))
    ∙ ap (λ l. es ++ entries_in as_value q l) (sym list_is)
    ∙ is
