-- The value of a position by a packed table is that of the patterns.
use Rattle.std.proofs.Common.{◌≡◌, ℕ, suc, zero, ◌+◌, ◌-◌, ◌<◌, ◌≤◌, max, Bool, true, false, cond, ◌&&◌, nat_eq, nat_le, List, [], ◌∷◌, length, map, take, drop, slice_index_or, slice_get, Some, refl, sym, ◌∙◌, ap, arith, inl, inr}
use Rattle.std.specs.List.{flat_map, range_with_len, starts_with}
use Rattle.std.specs.Cmp.Lexicographic.{pointwise, texts_ties}
use Rattle.std.proofs.lemmas.Bool.{and_parts, and_from, leb-true, le-leb, eqb-true, eq-eqb, cases_eq}
use Rattle.std.proofs.lemmas.List.{length-take-le, length-drop}
use Rattle.std.proofs.lemmas.Option.{slice_get_within, get_or_from_slice_get}
use Rattle.pg_types.specs.declared.limits.TheConstants.{PATTERN_SIGNS_MAX}
use Rattle.pg_dict.specs.Word.{Word}
use Rattle.pg_translate.specs.Reach.{positions}
use Rattle.pg_patterns.specs.Inside.DottedOrder.{same_dotted}
use Rattle.pg_patterns.specs.Values.{greatest_value, applies, stands_at, value_at}
use Rattle.pg_patterns.specs.Inside.PatternMaps.{IsPatternMap, is_entry}
use Rattle.pg_patterns.proofs.Kept.{value_of_sorted}
use Rattle.pg_patterns.proofs.Sound.{entry_bounds, entry_at}
use Rattle.pg_cells.proofs.StringMaps.{same_from, same_itself}
use Rattle.pg_select.specs.Statuses.{status, position_weight}
use Rattle.pg_select.specs.Sums.{totals_of}
use Rattle.pg_table.specs.Inside.Laws.{HasEntries, ValuesArePacked, TotalsArePacked}
use Rattle.pg_table.specs.Lookups.{value_from, table_value, table_entry}
use Rattle.pg_table.specs.Inside.view.Greatest.{greatest}
use Rattle.pg_table.proofs.laws.Greatest.{value_as}
use Rattle.pg_table.proofs.text.Groups.{Entry}

-- the greatest number is within each bound, and over each number
greatest_within : (f : ℕ → ℕ) (a n m : ℕ) → ((i : ℕ) → a ≤ i → i < a + n → f i ≤ m) → greatest f (range_with_len a n) ≤ m
greatest_within f a zero m each = omega arith
greatest_within f a (suc n) m each =
    let here : f a ≤ m = each a (omega arith) (omega arith) in
    let rest : greatest f (range_with_len (a + 1) n) ≤ m = greatest_within f (a + 1) n m (λ i low high. each i (omega arith) (omega arith)) in
    omega arith

greatest_over : (f : ℕ → ℕ) (a n i : ℕ) → a ≤ i → i < a + n → f i ≤ greatest f (range_with_len a n)
greatest_over f a zero i low high = absurd (omega arith)
greatest_over f a (suc n) i low high = elim (cases_eq i a) [
  | inl here ↦ let same : f i ≡ f a = ap f here in omega arith
  | inr other ↦ let rest : f i ≤ greatest f (range_with_len (a + 1) n) = greatest_over f (a + 1) n i (omega arith) (omega arith) in omega arith
]

-- the best value is within each bound on the entries that pass, and it grows with the test
best_within : (test : List ℕ × ℕ → Bool) (m : ℕ) (es : List Entry) → ((k : ℕ) (e : Entry) → slice_get es k ≡ Some e → test e.0 ≡ true → e.1 ≤ m) → greatest_value test es ≤ m
best_within test m [] each = omega arith
best_within test m (e ∷ es) each =
    let rest : greatest_value test es ≤ m = best_within test m es (λ k f at. each (suc k) f at) in
    by (test e.0) refl rest
  where
    by : (b : Bool) → test e.0 ≡ b → greatest_value test es ≤ m → max (cond (test e.0) e.1 0) (greatest_value test es) ≤ m
    by true is rest = let here : e.1 ≤ m = each 0 e refl is in let one : cond (test e.0) e.1 0 ≡ e.1 = ap (λ t. cond t e.1 0) is in omega arith
    by false is rest = let one : cond (test e.0) e.1 0 ≡ 0 = ap (λ t. cond t e.1 0) is in omega arith

best_over : (test : List ℕ × ℕ → Bool) (es : List Entry) (k : ℕ) (e : Entry) → slice_get es k ≡ Some e → test e.0 ≡ true → e.1 ≤ greatest_value test es
best_over test [] k e at is = cc
best_over test (f ∷ es) zero e at is =
    let same : f ≡ e = cc in
    let one : cond (test f.0) f.1 0 ≡ e.1 = ap (λ (g : Entry). cond (test g.0) g.1 0) same ∙ ap (λ t. cond t e.1 0) is in
    omega arith
best_over test (f ∷ es) (suc k) e at is = let rest : e.1 ≤ greatest_value test es = best_over test es k e at is in omega arith

-- signs that stand in a word are its front there
front_from : (q w : List ℕ) → starts_with nat_eq w q ≡ true → take (length q) w ≡ q
front_from [] w is = refl
front_from (s ∷ q) [] is = cc
front_from (s ∷ q) (t ∷ w) is =
    let parts = and_parts (nat_eq s t) (starts_with nat_eq w q) is in
    let first : t ≡ s = sym (eqb-true s t parts.0) in
    let rest : take (length q) w ≡ q = front_from q w parts.1 in
    λ i. first i ∷ rest i

front_to : (n : ℕ) (w : List ℕ) → starts_with nat_eq w (take n w) ≡ true
front_to zero w = refl
front_to (suc n) [] = refl
front_to (suc n) (t ∷ w) = and_from (nat_eq t t) (starts_with nat_eq w (take n w)) (eq-eqb t t refl) (front_to n w)

module _ (P : List Entry) (b : List ℕ) (sound : IsPatternMap P) (has : HasEntries b P) (w : List ℕ) (p : ℕ) where
  bounds : (k : ℕ) (e : Entry) → slice_get P k ≡ Some e → is_entry e ≡ true
  bounds k e at = ap is_entry (sym (get_or_from_slice_get P k e e at)) ∙ entry_at P k e sound.sound (slice_get_within P k e at)

  -- what a string gives is the value of an entry that applies
  from_within : (i n : ℕ) → value_from b w p i n ≤ value_at P w p
  from_within i n = by (nat_le (i + n) (length w) && (nat_le i p && nat_le (p - i) n)) refl
    where
      by : (t : Bool) → (nat_le (i + n) (length w) && (nat_le i p && nat_le (p - i) n)) ≡ t → value_from b w p i n ≤ value_at P w p
      by false is = let none : value_from b w p i n ≡ 0 = ap (λ t. cond t (table_entry b (take n (drop i w)) (p - i)) 0) is in omega arith
      by true is =
          let parts = and_parts (nat_le (i + n) (length w)) (nat_le i p && nat_le (p - i) n) is in
          let inner = and_parts (nat_le i p) (nat_le (p - i) n) parts.1 in
          let inside : i + n ≤ length w = leb-true (i + n) (length w) parts.0 in
          let low : i ≤ p = leb-true i p inner.0 in
          let q : List ℕ = take n (drop i w) in
          let long : length (drop i w) ≡ length w - i = length-drop i w in
          let size : length q ≡ n = length-take-le n (drop i w) (omega arith) in
          let place : p - (p - i) ≡ i = omega arith in
          let value : value_from b w p i n ≡ greatest_value (same_dotted (q, p - i)) P =
          ap (λ t. cond t (table_entry b q (p - i)) 0) is ∙ has q (p - i) ∙ value_of_sorted P (q, p - i) sound.sorted in
          let each : greatest_value (same_dotted (q, p - i)) P ≤ value_at P w p =
          best_within (same_dotted (q, p - i)) (value_at P w p) P (λ k e at same.
          let tests = and_parts (pointwise nat_eq q e.0.0) (nat_eq (p - i) e.0.1) same in
          let signs : q ≡ e.0.0 = same_from q e.0.0 (sym (texts_ties q e.0.0) ∙ tests.0) in
          let dot : p - i ≡ e.0.1 = eqb-true (p - i) e.0.1 tests.1 in
          let there : p - e.0.1 ≡ i = omega arith in
          let len : length e.0.0 ≡ n = ap length (sym signs) ∙ size in
          let stands : stands_at e.0.0 w (p - e.0.1) ≡ true =
          and_from (nat_le (p - e.0.1 + length e.0.0) (length w)) (starts_with nat_eq (drop (p - e.0.1) w) e.0.0) (le-leb (p - e.0.1 + length e.0.0) (length w) (omega arith))
          (ap (λ j. starts_with nat_eq (drop j w) e.0.0) there ∙ ap (starts_with nat_eq (drop i w)) (sym signs) ∙ front_to n (drop i w)) in
          best_over (applies w p) P k e at (and_from (nat_le e.0.1 p) (stands_at e.0.0 w (p - e.0.1)) (le-leb e.0.1 p (omega arith)) stands)) in
          omega arith

  -- and each entry that applies gives its value
  entry_within : (k : ℕ) (e : Entry) → slice_get P k ≡ Some e → applies w p e.0 ≡ true → e.1 ≤ table_value b w p
  entry_within k e at is =
      let parts = and_parts (nat_le e.0.1 p) (stands_at e.0.0 w (p - e.0.1)) is in
      let stands = and_parts (nat_le (p - e.0.1 + length e.0.0) (length w)) (starts_with nat_eq (drop (p - e.0.1) w) e.0.0) parts.1 in
      let ranges = entry_bounds e (bounds k e at) in
      let i : ℕ = p - e.0.1 in
      let n : ℕ = length e.0.0 in
      let low : e.0.1 ≤ p = leb-true e.0.1 p parts.0 in
      let inside : i + n ≤ length w = leb-true (i + n) (length w) stands.0 in
      let dot : p - i ≡ e.0.1 = omega arith in
      let test : (nat_le (i + n) (length w) && (nat_le i p && nat_le (p - i) n)) ≡ true =
      and_from (nat_le (i + n) (length w)) (nat_le i p && nat_le (p - i) n) stands.0
      (and_from (nat_le i p) (nat_le (p - i) n) (le-leb i p (omega arith)) (le-leb (p - i) n (omega (arith, ranges.dot)))) in
      let value : value_from b w p i n ≡ greatest_value (same_dotted e.0) P =
      ap (λ t. cond t (table_entry b (take n (drop i w)) (p - i)) 0) test ∙ ap (λ q. table_entry b q (p - i)) (front_from e.0.0 (drop i w) stands.1)
      ∙ ap (table_entry b e.0.0) dot ∙ has e.0.0 e.0.1 ∙ value_of_sorted P e.0 sound.sorted in
      let own : e.1 ≤ greatest_value (same_dotted e.0) P =
      best_over (same_dotted e.0) P k e at (and_from (pointwise nat_eq e.0.0 e.0.0) (nat_eq e.0.1 e.0.1) (texts_ties e.0.0 e.0.0 ∙ same_itself e.0.0) (eq-eqb e.0.1 e.0.1 refl)) in
      let strings : value_from b w p i n ≤ greatest (value_from b w p i) (range_with_len 1 PATTERN_SIGNS_MAX) =
      greatest_over (value_from b w p i) 1 PATTERN_SIGNS_MAX n ranges.some (omega (arith, ranges.few)) in
      let starts = greatest_over (λ j. greatest (value_from b w p j) (range_with_len 1 PATTERN_SIGNS_MAX)) 0 (length w) i (omega arith) (omega (arith, ranges.some)) in
      let whole = value_as b w p in
      omega arith

  value_same : table_value b w p ≡ value_at P w p
  value_same =
      let low : value_at P w p ≤ table_value b w p = best_within (applies w p) (table_value b w p) P entry_within in
      let high : table_value b w p ≤ value_at P w p = above in
      omega arith
    where
      above : table_value b w p ≤ value_at P w p
      above =
          let within : greatest (λ i. greatest (value_from b w p i) (range_with_len 1 PATTERN_SIGNS_MAX)) (range_with_len 0 (length w)) ≤ value_at P w p =
          greatest_within (λ i. greatest (value_from b w p i) (range_with_len 1 PATTERN_SIGNS_MAX)) 0 (length w) (value_at P w p)
          (λ i low high. greatest_within (value_from b w p i) 1 PATTERN_SIGNS_MAX (value_at P w p) (λ n few many. from_within i n)) in
          let whole = value_as b w p in
          omega arith

pub values_are_packed : ValuesArePacked
values_are_packed P b sound has w p = value_same P b sound has w p

pub totals_are_packed : TotalsArePacked
totals_are_packed P b sound has m words i =
    totals_of (flat_map (λ (w : Word). map (λ p. (status (slice_index_or w.hyphens p false) (slice_index_or w.cares p true) (value_same P b sound has w.signs p i), position_weight w p))
    (positions m.left m.right (length w.signs))) words)
