-- What changes of the cells and of the records make of the maps.
use Rattle.std.proofs.Common.{◌≡◌, ℕ, ◌<◌, ◌≤◌, max, true, false, cond, T, nat_lt, nat_eq, List, length, take, Option, None, Some, unwrap_or, inl, inr, refl, sym, ◌∙◌, ap, subst, arith}
use Rattle.std.proofs.lemmas.List.{length-take, take_all}
use Rattle.std.specs.Ordering.{eq_by_cmp}
use Rattle.std.specs.FinMap.Entries.{find, put, is_sorted, find-put, is_sorted-put, same_entries}
use Rattle.pg_types.specs.declared.limits.TheConstants.{PATTERN_SIGNS_MAX}
use Rattle.pg_types.specs.Placement.{enter}
use Rattle.pg_patterns.specs.DottedSigns.{dotted_cmp}
use Rattle.pg_patterns.specs.Inside.DottedOrder.{dotted_total, dotted_exact}
use Rattle.pg_patterns.specs.Values.{raise, value_of}
use Rattle.pg_outputs.specs.declared.records.Record.{Record}
use Rattle.pg_outputs.specs.Lists.{list_of}
use Rattle.pg_outputs.specs.Inside.Heads.{Grows}
use Rattle.pg_outputs.proofs.ListLaws.{list_of-zero}
use Rattle.pg_cells.specs.Inside.linked.ValuedFamilies.{ValuedFamilies}
use Rattle.pg_cells.specs.Inside.linked.AreValuedFamilies.{AreValuedFamilies}
use Rattle.pg_cells.specs.Inside.linked.Walks.{AddsBlanks}
use Rattle.pg_cells.proofs.StringMaps.{order, equal_or_not, find_put_same, find_put_other}
use Rattle.pg_trie.specs.declared.hopeless.TheConstants.{HOPELESS}
use Rattle.pg_trie.specs.Inside.IsPatternTrie.{IsPatternTrie, IsListHead}
use Rattle.pg_trie.specs.Inside.Lists.{list_with, Rises, DotsUpTo}
use Rattle.pg_trie.specs.Inside.Maps.{Maps, maps_of, as_value, as_hopeless, entries}
use Rattle.pg_trie.proofs.ListLaws.Found.{found_in, found_at, find-entries, sorted-entries, same_by_dots, other_dotted}
use Rattle.pg_trie.proofs.ListLaws.Rising.{values_rise, marks_rise}
use Rattle.pg_trie.proofs.ListLaws.Entered.{rises-entered, dots-entered, value-entered, marks_stay, mark-entered, values_stay}

-- the values and the marks stand in order
pub sorted_values : (cells : ValuedFamilies ℕ) (records : List Record) → IsPatternTrie cells records → T (is_sorted dotted_cmp (maps_of cells records).patterns)
sorted_values cells records is = sorted-entries as_value (list_of records) cells.values is.held.ordered (λ q head at. values_rise 0 0 (list_of records head) (omega arith) (is.heads q head at).rises)

pub sorted_marks : (cells : ValuedFamilies ℕ) (records : List Record) → IsPatternTrie cells records → T (is_sorted dotted_cmp (maps_of cells records).hopeless)
sorted_marks cells records is = sorted-entries as_hopeless (list_of records) cells.values is.held.ordered (λ q head at. marks_rise 0 0 (list_of records head) (omega arith) (is.heads q head at).rises)

module _ {X : Type 0} (pick : ℕ → Option X) where
  -- entries that find alike are the same
  same_found : (f g : ℕ → List (ℕ × ℕ)) (es fs : List (List ℕ × ℕ)) → T (is_sorted order es) → T (is_sorted order fs) → T (is_sorted dotted_cmp (entries pick f es))
      → T (is_sorted dotted_cmp (entries pick g fs))
      → ((q : List ℕ) (d : ℕ) → found_at pick f d (find order q es) ≡ found_at pick g d (find order q fs)) → entries pick f es ≡ entries pick g fs
  same_found f g es fs a b c d same =
      same_entries dotted_cmp dotted_total dotted_exact (entries pick f es) (entries pick g fs) c d
      (λ k. find-entries pick f es k.0 k.1 a ∙ same k.0 k.1 ∙ sym (find-entries pick g fs k.0 k.1 b))

  -- a string's new head whose list has one more
  put_found : (f : ℕ → List (ℕ × ℕ)) (es : List (List ℕ × ℕ)) (q : List ℕ) (head new e : ℕ) (v : X) → T (is_sorted order es) → T (is_sorted order (put order q new es))
      → T (is_sorted dotted_cmp (entries pick f es)) → T (is_sorted dotted_cmp (entries pick f (put order q new es)))
      → find order q es ≡ Some head → ((d : ℕ) → found_in pick d (f new) ≡ cond (nat_eq d e) (Some v) (found_in pick d (f head)))
      → entries pick f (put order q new es) ≡ put dotted_cmp (q, e) v (entries pick f es)
  put_found f es q head new e v a b c d at more =
      same_entries dotted_cmp dotted_total dotted_exact (entries pick f (put order q new es)) (put dotted_cmp (q, e) v (entries pick f es)) d
      (is_sorted-put dotted_cmp dotted_total (q, e) v (entries pick f es) c)
      (λ k. find-entries pick f (put order q new es) k.0 k.1 b ∙ by k.0 k.1 ∙ sym (find-put dotted_cmp dotted_total k (q, e) v (entries pick f es)))
    where
      by : (p : List ℕ) (d : ℕ) → found_at pick f d (find order p (put order q new es)) ≡ cond (eq_by_cmp dotted_cmp (p, d) (q, e)) (Some v) (find dotted_cmp (p, d) (entries pick f es))
      by p d = elim (equal_or_not p q) [
        | inl h ↦
            let here : find order p es ≡ Some head = ap (λ x. find order x es) h.0 ∙ at in
            ap (found_at pick f d) (ap (λ x. find order x (put order q new es)) h.0 ∙ find_put_same q new es)
            ∙ more d
            ∙ ap (λ o. cond (nat_eq d e) (Some v) o) (sym (find-entries pick f es p d a ∙ ap (found_at pick f d) here))
            ∙ ap (λ b. cond b (Some v) (find dotted_cmp (p, d) (entries pick f es))) (sym (ap (λ x. eq_by_cmp dotted_cmp (x, d) (q, e)) h.0 ∙ same_by_dots q d e))
        | inr h ↦
            ap (found_at pick f d) (find_put_other p q new es h.0)
            ∙ sym (find-entries pick f es p d a)
            ∙ ap (λ b. cond b (Some v) (find dotted_cmp (p, d) (entries pick f es))) (sym (other_dotted p q d e h.0))
      ]

  -- a string's new head whose list has the same
  kept_found : (f : ℕ → List (ℕ × ℕ)) (es : List (List ℕ × ℕ)) (q : List ℕ) (head new : ℕ) → T (is_sorted order es) → T (is_sorted order (put order q new es))
      → T (is_sorted dotted_cmp (entries pick f es)) → T (is_sorted dotted_cmp (entries pick f (put order q new es)))
      → find order q es ≡ Some head → ((d : ℕ) → found_in pick d (f new) ≡ found_in pick d (f head))
      → entries pick f (put order q new es) ≡ entries pick f es
  kept_found f es q head new a b c d at same =
      same_found f f (put order q new es) es b a d c (λ p d. elim (equal_or_not p q) [
        | inl h ↦ ap (found_at pick f d) (ap (λ x. find order x (put order q new es)) h.0 ∙ find_put_same q new es) ∙ same d ∙ sym (ap (found_at pick f d) (ap (λ x. find order x es) h.0 ∙ at))
        | inr h ↦ ap (found_at pick f d) (find_put_other p q new es h.0)
      ])

-- the maps of a trie stay
pub record SameMaps (cells : ValuedFamilies ℕ) (records : List Record) (cells' : ValuedFamilies ℕ) (records' : List Record) : Type 0 where
  pub trie : IsPatternTrie cells' records'
  pub patterns : (maps_of cells' records').patterns ≡ (maps_of cells records).patterns
  pub hopeless : (maps_of cells' records').hopeless ≡ (maps_of cells records).hopeless

same_when : (cells : ValuedFamilies ℕ) (records : List Record) (cells' : ValuedFamilies ℕ) (records' : List Record) → IsPatternTrie cells records → IsPatternTrie cells' records'
    → ((q : List ℕ) (d : ℕ) → found_at as_value (list_of records') d (find order q cells'.values) ≡ found_at as_value (list_of records) d (find order q cells.values))
    → ((q : List ℕ) (d : ℕ) → found_at as_hopeless (list_of records') d (find order q cells'.values) ≡ found_at as_hopeless (list_of records) d (find order q cells.values))
    → SameMaps cells records cells' records'
same_when cells records cells' records' is is' same same_marks = record {
  trie = is';
  patterns = same_found as_value (list_of records') (list_of records) cells'.values cells.values is'.held.ordered is.held.ordered (sorted_values cells' records' is')
      (sorted_values cells records is) same;
  hopeless = same_found as_hopeless (list_of records') (list_of records) cells'.values cells.values is'.held.ordered is.held.ordered (sorted_marks cells' records' is')
      (sorted_marks cells records is) same_marks;
}

-- new cells without a list
pub blanks_stay : (cells cells' : ValuedFamilies ℕ) (records : List Record) (w : List ℕ) → IsPatternTrie cells records → AreValuedFamilies cells' → cells'.signs
    ≡ cells.signs → length w ≤ PATTERN_SIGNS_MAX → AddsBlanks w 0 cells.values cells'.values → SameMaps cells records cells' records
blanks_stay cells cells' records w is held signs short adds = same_when cells records cells' records is trie (same as_value) (same as_hopeless)
  where
    blank : (k : ℕ) → IsListHead records (take k w) 0
    blank k = record {
      inside = omega arith;
      short = omega (arith, length-take k w);
      rises = subst (Rises 0) (sym (list_of-zero records)) tt;
      dots = subst (DotsUpTo (length (take k w))) (sym (list_of-zero records)) tt;
    }

    heads : (q : List ℕ) (head : ℕ) → find order q cells'.values ≡ Some head → IsListHead records q head
    heads q head at = by (find order q cells.values) refl
      where
        by : (o : Option ℕ) → find order q cells.values ≡ o → IsListHead records q head
        by None none =
            let b = adds.blanks q head none at in
            subst (λ h. IsListHead records q h) (sym b.0) (subst (λ p. IsListHead records p 0) (sym b.2) (blank b.1))
        by (Some u) some =
            let there : Some u ≡ Some head = sym (adds.keeps q u some) ∙ at in
            is.heads q head (some ∙ there)

    trie : IsPatternTrie cells' records
    trie = record { signs = omega (arith, is.signs, signs); held = held; heads = heads }

    same : {X : Type 0} (pick : ℕ → Option X) (q : List ℕ) (d : ℕ) → found_at pick (list_of records) d (find order q cells'.values) ≡ found_at pick (list_of records) d (find order q cells.values)
    same pick q d = by (find order q cells.values) (find order q cells'.values) refl refl
      where
        by : (o n : Option ℕ) → find order q cells.values ≡ o → find order q cells'.values ≡ n → found_at pick (list_of records) d (find order q cells'.values)
            ≡ found_at pick (list_of records) d (find order q cells.values)
        by (Some u) n old new = ap (found_at pick (list_of records) d) (adds.keeps q u old ∙ sym old)
        by None None old new = ap (found_at pick (list_of records) d) (new ∙ sym old)
        by None (Some u) old new =
            let b = adds.blanks q u old new in
            ap (found_at pick (list_of records) d) new ∙ ap (λ h. found_in pick d (list_of records h)) b.0 ∙ ap (found_in pick d) (list_of-zero records)
            ∙ sym (ap (found_at pick (list_of records) d) old)

-- further records
pub records_stay : (cells : ValuedFamilies ℕ) (records records' : List Record) → IsPatternTrie cells records → Grows records records' → SameMaps cells records cells records'
records_stay cells records records' is grows = same_when cells records cells records' is trie (same as_value) (same as_hopeless)
  where
    heads : (q : List ℕ) (head : ℕ) → find order q cells.values ≡ Some head → IsListHead records' q head
    heads q head at =
        let h = is.heads q head at in
        let list = sym (grows.same head h.inside) in
        record {
          inside = omega (arith, h.inside, grows.longer);
          short = h.short;
          rises = subst (Rises 0) list h.rises;
          dots = subst (DotsUpTo (length q)) list h.dots;
        }

    trie : IsPatternTrie cells records'
    trie = record { signs = is.signs; held = is.held; heads = heads }

    same : {X : Type 0} (pick : ℕ → Option X) (q : List ℕ) (d : ℕ) → found_at pick (list_of records') d (find order q cells.values) ≡ found_at pick (list_of records) d (find order q cells.values)
    same pick q d = by (find order q cells.values) refl
      where
        by : (o : Option ℕ) → find order q cells.values ≡ o → found_at pick (list_of records') d o ≡ found_at pick (list_of records) d o
        by None at = refl
        by (Some u) at = ap (found_in pick d) (grows.same u (is.heads q u at).inside)

pub both_stay : (a b c : ValuedFamilies ℕ) (r s t : List Record) → SameMaps a r b s → SameMaps b s c t → SameMaps a r c t
both_stay a b c r s t x y = record { trie = y.trie; patterns = y.patterns ∙ x.patterns; hopeless = y.hopeless ∙ x.hopeless }

-- a string's new head, whose list has x entered
pub record Enters (cells : ValuedFamilies ℕ) (records : List Record) (q : List ℕ) (x : ℕ × ℕ) (cells' : ValuedFamilies ℕ) : Type 0 where
  pub trie : IsPatternTrie cells' records
  pub raised : nat_lt x.0 HOPELESS ≡ true → ((maps_of cells' records).patterns ≡ raise (maps_of cells records).patterns (q, x.1) x.0)
      × ((maps_of cells' records).hopeless ≡ (maps_of cells records).hopeless)
  pub given_up : nat_lt x.0 HOPELESS ≡ false → ((maps_of cells' records).patterns ≡ (maps_of cells records).patterns)
      × ((maps_of cells' records).hopeless ≡ put dotted_cmp (q, x.1) (tt {0}) (maps_of cells records).hopeless)

pub enters : (cells cells' : ValuedFamilies ℕ) (records : List Record) (q : List ℕ) (head new : ℕ) (x : ℕ × ℕ) → IsPatternTrie cells records → AreValuedFamilies cells'
    → cells' ≡ record cells { values = put order q new cells.values }
    → find order q cells.values ≡ Some head → new ≤ length records → list_of records new ≡ list_with x (list_of records head) → 1 ≤ x.0 → x.0 ≤ HOPELESS
    → x.1 ≤ length q → Enters cells records q x cells'
enters cells cells' records q head new x is held put_is at inside list low high dot = record { trie = trie; raised = raised; given_up = given_up }
  where
    values : cells'.values ≡ put order q new cells.values
    values = ap (λ (h : ValuedFamilies ℕ). h.values) put_is

    here : IsListHead records q head
    here = is.heads q head at

    new_head : IsListHead records q new
    new_head = record {
      inside = inside;
      short = here.short;
      rises = subst (Rises 0) (sym list) (rises-entered x low high 0 (list_of records head) (omega arith) here.rises);
      dots = subst (DotsUpTo (length q)) (sym list) (dots-entered x (length q) dot (list_of records head) here.dots);
    }

    heads : (p : List ℕ) (h : ℕ) → find order p cells'.values ≡ Some h → IsListHead records p h
    heads p h there = elim (equal_or_not p q) [
      | inl e ↦
          let found : Some new ≡ Some h = sym (find_put_same q new cells.values) ∙ sym (ap (λ y. find order y (put order q new cells.values)) e.0) ∙ sym (ap (find order p) values) ∙ there in
          let same : new ≡ h = cc in
          subst (λ y. IsListHead records p y) same (subst (λ y. IsListHead records y new) (sym e.0) new_head)
      | inr n ↦ is.heads p h (sym (find_put_other p q new cells.values n.0) ∙ sym (ap (find order p) values) ∙ there)
    ]

    signs : cells'.signs ≡ cells.signs
    signs = ap (λ (h : ValuedFamilies ℕ). h.signs) put_is

    trie : IsPatternTrie cells' records
    trie = record { signs = omega (arith, is.signs, signs); held = held; heads = heads }

    ordered : T (is_sorted order (put order q new cells.values))
    ordered = subst (λ es. T (is_sorted order es)) values held.ordered

    in_order : T (is_sorted dotted_cmp (entries as_value (list_of records) (put order q new cells.values)))
    in_order = subst (λ es. T (is_sorted dotted_cmp (entries as_value (list_of records) es))) values (sorted_values cells' records trie)

    marks_in_order : T (is_sorted dotted_cmp (entries as_hopeless (list_of records) (put order q new cells.values)))
    marks_in_order = subst (λ es. T (is_sorted dotted_cmp (entries as_hopeless (list_of records) es))) values (sorted_marks cells' records trie)

    raised : nat_lt x.0 HOPELESS ≡ true → ((maps_of cells' records).patterns ≡ raise (maps_of cells records).patterns (q, x.1) x.0)
        × ((maps_of cells' records).hopeless ≡ (maps_of cells records).hopeless)
    raised value = (
      ap (entries as_value (list_of records)) values
          ∙ put_found as_value (list_of records) cells.values q head new x.1 (max x.0 (value_of (maps_of cells records).patterns (q, x.1))) is.held.ordered ordered
          (sorted_values cells records is) in_order at
          (λ d. ap (found_in as_value d) list ∙ value-entered x value d 0 (list_of records head) here.rises
          ∙ ap (λ o. cond (nat_eq d x.1) (Some (max x.0 (unwrap_or o 0))) (found_in as_value d (list_of records head)))
          (sym (find-entries as_value (list_of records) cells.values q x.1 is.held.ordered ∙ ap (found_at as_value (list_of records) x.1) at))),
      ap (entries as_hopeless (list_of records)) values
          ∙ kept_found as_hopeless (list_of records) cells.values q head new is.held.ordered ordered (sorted_marks cells records is) marks_in_order at
          (λ d. ap (found_in as_hopeless d) list ∙ marks_stay x value d (list_of records head)),
    )

    given_up : nat_lt x.0 HOPELESS ≡ false → ((maps_of cells' records).patterns ≡ (maps_of cells records).patterns)
        × ((maps_of cells' records).hopeless ≡ put dotted_cmp (q, x.1) (tt {0}) (maps_of cells records).hopeless)
    given_up most = (
      ap (entries as_value (list_of records)) values
          ∙ kept_found as_value (list_of records) cells.values q head new is.held.ordered ordered (sorted_values cells records is) in_order at
          (λ d. ap (found_in as_value d) list ∙ values_stay x most d (list_of records head)),
      ap (entries as_hopeless (list_of records)) values
          ∙ put_found as_hopeless (list_of records) cells.values q head new x.1 (tt {0}) is.held.ordered ordered (sorted_marks cells records is) marks_in_order at
          (λ d. ap (found_in as_hopeless d) list ∙ mark-entered x most d (list_of records head)),
    )

-- what is seen where the maps stay
pub same_view : (cells : ValuedFamilies ℕ) (records : List Record) (cells' : ValuedFamilies ℕ) (records' : List Record) (m : Maps) → maps_of cells records
    ≡ m → SameMaps cells records cells' records' → cells'.signs ≡ cells.signs
    → maps_of cells' records' ≡ record m { families = cells'.families; records = records' }
same_view cells records cells' records' m seen s signs =
    let signs_are : cells'.signs ≡ m.signs = signs ∙ ap (λ (m : Maps). m.signs) seen in
    let patterns_are : (maps_of cells' records').patterns ≡ m.patterns = s.patterns ∙ ap (λ (m : Maps). m.patterns) seen in
    let marks_are : (maps_of cells' records').hopeless ≡ m.hopeless = s.hopeless ∙ ap (λ (m : Maps). m.hopeless) seen in
    λ i. record { signs = signs_are i; families = cells'.families; patterns = patterns_are i; hopeless = marks_are i; records = records' }

-- what is seen after a value is entered
pub raised_view : (old cells cells' : ValuedFamilies ℕ) (start records : List Record) (q : List ℕ) (x : ℕ × ℕ) (m : Maps) → maps_of old start ≡ m
    → SameMaps old start cells records → Enters cells records q x cells' → nat_lt x.0 HOPELESS ≡ true
    → cells'.signs ≡ old.signs → cells'.families ≡ enter old.signs old.families q
    → maps_of cells' records ≡ record m { patterns = raise m.patterns (q, x.1) x.0; families = enter m.signs m.families q; records = records }
raised_view old cells cells' start records q x m seen s e value signs families =
    let r = e.raised value in
    let signs_are : cells'.signs ≡ m.signs = signs ∙ ap (λ (m : Maps). m.signs) seen in
    let families_are : cells'.families ≡ enter m.signs m.families q = families ∙ ap (λ (m : Maps). enter m.signs m.families q) seen in
    let patterns_are : (maps_of cells' records).patterns ≡ raise m.patterns (q, x.1) x.0 = r.0 ∙ ap (λ P. raise P (q, x.1) x.0) (s.patterns ∙ ap (λ (m : Maps). m.patterns) seen) in
    let marks_are : (maps_of cells' records).hopeless ≡ m.hopeless = r.1 ∙ s.hopeless ∙ ap (λ (m : Maps). m.hopeless) seen in
    λ i. record { signs = signs_are i; families = families_are i; patterns = patterns_are i; hopeless = marks_are i; records = records }

-- what is seen after a hopeless entry is entered
pub given_up_view : (old cells cells' : ValuedFamilies ℕ) (start records : List Record) (q : List ℕ) (x : ℕ × ℕ) (m : Maps) → maps_of old start ≡ m
    → SameMaps old start cells records → Enters cells records q x cells' → nat_lt x.0 HOPELESS ≡ false
    → cells'.signs ≡ old.signs → cells'.families ≡ enter old.signs old.families q
    → maps_of cells' records ≡ record m { hopeless = put dotted_cmp (q, x.1) (tt {0}) m.hopeless; families = enter m.signs m.families q; records = records }
given_up_view old cells cells' start records q x m seen s e most signs families =
    let r = e.given_up most in
    let signs_are : cells'.signs ≡ m.signs = signs ∙ ap (λ (m : Maps). m.signs) seen in
    let families_are : cells'.families ≡ enter m.signs m.families q = families ∙ ap (λ (m : Maps). enter m.signs m.families q) seen in
    let patterns_are : (maps_of cells' records).patterns ≡ m.patterns = r.0 ∙ s.patterns ∙ ap (λ (m : Maps). m.patterns) seen in
    let marks_are : (maps_of cells' records).hopeless ≡ put dotted_cmp (q, x.1) (tt {0}) m.hopeless = r.1
    ∙ ap (λ H. put dotted_cmp (q, x.1) (tt {0}) H) (s.hopeless ∙ ap (λ (m : Maps). m.hopeless) seen) in
    λ i. record { signs = signs_are i; families = families_are i; patterns = patterns_are i; hopeless = marks_are i; records = records }

-- a front of a string that is entered, seen from outside
pub part_seen : (old new : ValuedFamilies ℕ) (records : List Record) (m : Maps) (q : List ℕ) → maps_of old records ≡ m → (k : ℕ) × (k < length q)
    × (new.families ≡ enter old.signs old.families (take k q)) → (k : ℕ) × (k ≤ length q) × (new.families ≡ enter m.signs m.families (take k q))
part_seen old new records m q view part = (part.0, less_upto part.0 (length q) part.1, part.2 ∙ ap (λ (x : Maps). enter x.signs x.families (take part.0 q)) view)
  where
    less_upto : (a b : ℕ) → a < b → a ≤ b
    less_upto a b less = omega arith

-- and the whole string
pub whole_seen : (old new : ValuedFamilies ℕ) (records : List Record) (m : Maps) (q : List ℕ) → maps_of old records ≡ m → new.families
    ≡ enter old.signs old.families q → (k : ℕ) × (k ≤ length q) × (new.families ≡ enter m.signs m.families (take k q))
whole_seen old new records m q view whole = (
  length q,
  omega arith,
  whole ∙ ap (λ (x : Maps). enter x.signs x.families q) view
      ∙ ap (λ x. enter m.signs m.families x) (sym (take_all (length q) q (omega arith))),
)
