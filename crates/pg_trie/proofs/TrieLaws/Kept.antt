-- What the maps of a trie keep.
use Rattle.std.proofs.Common.{◌≡◌, ℕ, ◌+◌, ◌≤◌, ◌<◌, Bool, true, false, cond, ◌&&◌, nat_le, nat_lt, T, List, [], ◌∷◌, ◌++◌, length, Option, None, Some, inl, inr, refl, sym, ◌∙◌, ap, subst, arith, append_assoc}
use Rattle.std.proofs.lemmas.Bool.{le-leb, leb-true, ltb-true, cases_Bool, and_from}
use Rattle.std.proofs.lemmas.Cmp.{nat_list_cmp_total}
use Rattle.std.proofs.lemmas.List.Elements.{All-nil, All-cons, All-head, All-tail, All-append}
use Rattle.std.specs.Ordering.{is_eq}
use Rattle.std.specs.Cmp.{tied_itself}
use Rattle.std.specs.List.{list_all, All}
use Rattle.std.specs.FinMap.Entries.{find, is_sorted}
use Rattle.pg_types.specs.declared.limits.TheConstants.{PATTERN_SIGNS_MAX}
use Rattle.pg_types.specs.Inside.Signs.{is_sign}
use Rattle.pg_types.specs.Inside.Placing.{cell_of}
use Rattle.pg_patterns.specs.Inside.PatternMaps.{is_entry}
use Rattle.pg_types.proofs.BoolFacts.{and_first, and_second}
use Rattle.pg_patterns.proofs.Sound.{entry_told}
use Rattle.pg_outputs.specs.declared.records.Record.{Record}
use Rattle.pg_outputs.specs.Lists.{list_of}
use Rattle.pg_cells.specs.Inside.linked.ValuedFamilies.{ValuedFamilies}
use Rattle.pg_cells.specs.Inside.linked.AreValuedFamilies.{AreValuedFamilies}
use Rattle.pg_cells.proofs.StringMaps.{order, equal_or_not, find_below, head_below, tail_sorted}
use Rattle.pg_trie.specs.declared.hopeless.TheConstants.{HOPELESS}
use Rattle.pg_trie.specs.Inside.IsPatternTrie.{IsPatternTrie}
use Rattle.pg_trie.specs.Inside.Lists.{rank, Rises, DotsUpTo}
use Rattle.pg_trie.specs.Inside.Maps.{maps_of, entries_in, entries, entry_ahead, as_value, as_hopeless, is_dotted, AreMaps}
use Rattle.pg_trie.proofs.ListLaws.Rising.{as_value_is, as_mark_is}
use Rattle.pg_trie.proofs.TrieLaws.Changes.{sorted_values, sorted_marks}

module _ {X : Type 0} (pick : ℕ → Option X) (P : (List ℕ × ℕ) × X → Type 0) where
  -- what holds of the entries of each string holds of all
  all-entries : (f : ℕ → List (ℕ × ℕ)) (es : List (List ℕ × ℕ)) → T (is_sorted order es) → ((q : List ℕ) (head : ℕ) → find order q es ≡ Some head → All P (entries_in pick q (f head)))
      → All P (entries pick f es)
  unfolding entries
  all-entries f [] sorted each = All-nil P
  all-entries f (e ∷ es) sorted each =
      let first : find order e.0 (e ∷ es) ≡ Some e.1 = ap (λ r. cond (is_eq r) (Some e.1) (find order e.0 es)) (tied_itself nat_list_cmp_total e.0) in
      All-append P (entries_in pick e.0 (f e.1)) (entries pick f es) (each e.0 e.1 first) (all-entries f es (tail_sorted e es sorted) (λ q head at. each q head (later q head at)))
    where
      later : (q : List ℕ) (head : ℕ) → find order q es ≡ Some head → find order q (e ∷ es) ≡ Some head
      later q head at = elim (equal_or_not q e.0) [
        | inl h ↦ absurd (let no : None ≡ Some head = sym (ap (λ p. find order p es) h.0 ∙ find_below e.0 es (head_below e es sorted)) ∙ at in cc)
        | inr h ↦ ap (λ b. cond b (Some e.1) (find order q es)) h.1 ∙ at
      ]

pub all_tests : {X : Type 0} (test : X → Bool) (xs : List X) → All (λ x. test x ≡ true) xs → list_all test xs ≡ true
all_tests test [] h = refl
all_tests test (x ∷ xs) h = and_from (test x) (list_all test xs) (All-head (λ x. test x ≡ true) x xs h) (all_tests test xs (All-tail (λ x. test x ≡ true) x xs h))

-- a sign of the table
abbrev pub is_known : ℕ → ℕ → Bool
is_known n s = nat_le 1 s && nat_le s n

-- the signs of a string with a cell are those of the table
signs_behind : (h : ValuedFamilies ℕ) → AreValuedFamilies h → (p rest : List ℕ) (cell : ℕ) → cell_of h.families (p ++ rest) ≡ Some cell → list_all (is_known h.signs) rest ≡ true
signs_behind h held p [] cell at = refl
signs_behind h held p (x ∷ more) cell at =
    let whole : (p ++ x ∷ []) ++ more ≡ p ++ x ∷ more = append_assoc p (x ∷ []) more in
    let there : cell_of h.families ((p ++ x ∷ []) ++ more) ≡ Some cell = ap (cell_of h.families) whole ∙ at in
    by (cell_of h.families (p ++ x ∷ [])) refl there (signs_behind h held (p ++ x ∷ []) more cell there)
  where
    by : (o : Option ℕ) → cell_of h.families (p ++ x ∷ []) ≡ o → cell_of h.families ((p ++ x ∷ []) ++ more) ≡ Some cell → list_all (is_known h.signs) more
        ≡ true → list_all (is_known h.signs) (x ∷ more) ≡ true
    by None none there rest = absurd (let no : None ≡ Some cell = sym (held.none_longer p x more none) ∙ there in cc)
    by (Some c) some there rest =
        let known = held.signs p x c some in
        and_from (is_known h.signs x) (list_all (is_known h.signs) more) (and_from (nat_le 1 x) (nat_le x h.signs) (le-leb 1 x known.0) (le-leb x h.signs known.1)) rest

pub string_signs : (h : ValuedFamilies ℕ) → AreValuedFamilies h → (q : List ℕ) (cell : ℕ) → cell_of h.families q ≡ Some cell → list_all (is_known h.signs) q ≡ true
string_signs h held q cell at = signs_behind h held [] q cell at

-- and it has signs
pub string_some : (h : ValuedFamilies ℕ) (q : List ℕ) (cell : ℕ) → cell_of h.families q ≡ Some cell → 1 ≤ length q
string_some h [] cell at = absurd (let no : None ≡ Some cell = at in cc)
string_some h (x ∷ q) cell at = omega arith

signs_low : (n : ℕ) (q : List ℕ) → list_all (is_known n) q ≡ true → list_all is_sign q ≡ true
signs_low n [] h = refl
signs_low n (x ∷ q) h = and_from (nat_le 1 x) (list_all is_sign q) (and_first (nat_le 1 x) (nat_le x n) (and_first (is_known n x) (list_all (is_known n) q) h))
    (signs_low n q (and_second (is_known n x) (list_all (is_known n) q) h))

signs_high : (n : ℕ) (q : List ℕ) → list_all (is_known n) q ≡ true → All (λ s. s ≤ n) q
signs_high n [] h = All-nil (λ s. s ≤ n)
signs_high n (x ∷ q) h = All-cons (λ s. s ≤ n) x q (leb-true x n (and_second (nat_le 1 x) (nat_le x n) (and_first (is_known n x) (list_all (is_known n) q) h)))
    (signs_high n q (and_second (is_known n x) (list_all (is_known n) q) h))

-- the string of a list has so many signs
record IsString (n : ℕ) (q : List ℕ) : Type 0 where
  some : 1 ≤ length q
  few : length q ≤ PATTERN_SIGNS_MAX
  signs : list_all (is_known n) q ≡ true

values_entries : (n : ℕ) (q : List ℕ) → IsString n q → (r : ℕ) (xs : List (ℕ × ℕ)) → Rises r xs → DotsUpTo (length q) xs → All (λ e. is_entry e ≡ true) (entries_in as_value q xs)
values_entries n q s r [] h dots = All-nil (λ e. is_entry e ≡ true)
values_entries n q s r (x ∷ xs) h dots =
    let more = values_entries n q s (rank x + 1) xs h.3 dots.1 in
    elim (cases_Bool (nat_lt x.0 HOPELESS)) [
      | inl e ↦
          let below : x.0 < HOPELESS = ltb-true x.0 HOPELESS e in
          subst (λ o. All (λ e. is_entry e ≡ true) (entry_ahead as_value (q, x.1) o (entries_in as_value q xs))) (sym (as_value_is x.0 true e))
          (All-cons (λ e. is_entry e ≡ true) ((q, x.1), x.0) (entries_in as_value q xs)
          (entry_told ((q, x.1), x.0) (record { some = s.some; few = s.few; signs = signs_low n q s.signs; dot = dots.0; low = h.1; high = omega arith })) more)
      | inr e ↦ subst (λ o. All (λ e. is_entry e ≡ true) (entry_ahead as_value (q, x.1) o (entries_in as_value q xs))) (sym (as_value_is x.0 false e)) more
    ]

marks_places : (n : ℕ) (q : List ℕ) → IsString n q → (xs : List (ℕ × ℕ)) → DotsUpTo (length q) xs → All (λ e. is_dotted n e.0 ≡ true) (entries_in as_hopeless q xs)
marks_places n q s [] dots = All-nil (λ e. is_dotted n e.0 ≡ true)
marks_places n q s (x ∷ xs) dots =
    let more = marks_places n q s xs dots.1 in
    elim (cases_Bool (nat_lt x.0 HOPELESS)) [
      | inl e ↦ subst (λ o. All (λ e. is_dotted n e.0 ≡ true) (entry_ahead as_hopeless (q, x.1) o (entries_in as_hopeless q xs))) (sym (as_mark_is x.0 true e)) more
      | inr e ↦
          subst (λ o. All (λ e. is_dotted n e.0 ≡ true) (entry_ahead as_hopeless (q, x.1) o (entries_in as_hopeless q xs))) (sym (as_mark_is x.0 false e))
          (All-cons (λ e. is_dotted n e.0 ≡ true) ((q, x.1), tt {0}) (entries_in as_hopeless q xs)
          (and_from (nat_le 1 (length q) && nat_le (length q) PATTERN_SIGNS_MAX && list_all (is_known n) q) (nat_le x.1 (length q))
          (and_from (nat_le 1 (length q) && nat_le (length q) PATTERN_SIGNS_MAX) (list_all (is_known n) q)
          (and_from (nat_le 1 (length q)) (nat_le (length q) PATTERN_SIGNS_MAX) (le-leb 1 (length q) s.some) (le-leb (length q) PATTERN_SIGNS_MAX s.few)) s.signs)
          (le-leb x.1 (length q) dots.0)) more)
    ]

values_known : (n : ℕ) (q : List ℕ) → IsString n q → (xs : List (ℕ × ℕ)) → All (λ e. All (λ s. s ≤ n) e.0.0) (entries_in as_value q xs)
values_known n q s [] = All-nil (λ (e : (List ℕ × ℕ) × ℕ). All (λ s. s ≤ n) e.0.0)
values_known n q s (x ∷ xs) =
    let more = values_known n q s xs in
    elim (as_value x.0) as (λ o. All (λ e. All (λ s. s ≤ n) e.0.0) (entry_ahead as_value (q, x.1) o (entries_in as_value q xs))) [
      | None ↦ more
      | Some v ↦ All-cons (λ (e : (List ℕ × ℕ) × ℕ). All (λ s. s ≤ n) e.0.0) ((q, x.1), v) (entries_in as_value q xs) (signs_high n q s.signs) more
    ]

pub are_kept : (cells : ValuedFamilies ℕ) (records : List Record) → IsPatternTrie cells records → AreMaps (maps_of cells records)
are_kept cells records is = record {
  signs = is.signs;
  patterns = record {
    sorted = sorted_values cells records is;
    sound = all_tests is_entry (maps_of cells records).patterns
        (all-entries as_value (λ e. is_entry e ≡ true) (list_of records) cells.values is.held.ordered
        (λ q head at. let h = is.heads q head at in values_entries cells.signs q (string q head at) 0 (list_of records head) h.rises h.dots));
  };
  known = all-entries as_value (λ e. All (λ s. s ≤ cells.signs) e.0.0) (list_of records) cells.values is.held.ordered
      (λ q head at. values_known cells.signs q (string q head at) (list_of records head));
  sorted = sorted_marks cells records is;
  dotted = all_tests (λ e. is_dotted cells.signs e.0) (maps_of cells records).hopeless
      (all-entries as_hopeless (λ e. is_dotted cells.signs e.0 ≡ true) (list_of records) cells.values is.held.ordered
      (λ q head at. let h = is.heads q head at in marks_places cells.signs q (string q head at) (list_of records head) h.dots));
}
  where
    string : (q : List ℕ) (head : ℕ) → find order q cells.values ≡ Some head → IsString cells.signs q
    string q head at =
        let cell = is.held.celled q head at in
        record { some = string_some cells q cell.0 cell.1; few = (is.heads q head at).short; signs = string_signs cells is.held q cell.0 cell.1 }

-- the values of a string are entries of patterns
pub string_entries : (cells : ValuedFamilies ℕ) (records : List Record) → IsPatternTrie cells records → (q : List ℕ) (head : ℕ) → find order q cells.values
    ≡ Some head → list_all is_entry (entries_in as_value q (list_of records head)) ≡ true
string_entries cells records is q head at =
    let h = is.heads q head at in
    let cell = is.held.celled q head at in
    let string : IsString cells.signs q = record { some = string_some cells q cell.0 cell.1; few = h.short; signs = string_signs cells is.held q cell.0 cell.1 } in
    all_tests is_entry (entries_in as_value q (list_of records head)) (values_entries cells.signs q string 0 (list_of records head) h.rises h.dots)
