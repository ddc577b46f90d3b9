-- Where a dotted string stands in a list of entries in order, from dot to dot and from string to string.
use Rattle.std.proofs.Common.{◌≡◌, ℕ, suc, zero, ◌+◌, ◌<◌, ◌≤◌, true, false, cond, T, List, [], ◌∷◌, length, drop, take, get_or, Some, None, nat_cmp, sym, refl, ap, ◌∙◌, ⊎_elim, arith}
use Rattle.std.proofs.lemmas.Bool.{cases_lt}
use Rattle.std.proofs.lemmas.Cmp.{ranked}
use Rattle.std.proofs.lemmas.List.{take-append-drop, drop_more}
use Rattle.std.specs.declared.cmp.Ordering.{Ordering}
use Rattle.std.specs.declared.cmp.Ordering.TheVariants.{Less, Equal, Greater}
use Rattle.std.specs.Cmp.{tied_itself}
use Rattle.std.specs.Cmp.Lexicographic.{slice_cmp, nat_list_cmp_total}
use Rattle.std.specs.Ordering.{is_eq, is_gt, ordering_then, ordering_reverse, MatchOrdering}
use Rattle.std.specs.FinMap.Entries.{find, is_sorted}
use Rattle.std.specs.List.{list_all}
use Rattle.std.specs.Option.{option_map_or}
use Rattle.pg_patterns.specs.DottedSigns.{dotted_cmp}
use Rattle.pg_patterns.specs.Inside.DottedOrder.{dotted_total, same_dotted, dotted_ties, dotted_exact}
use Rattle.pg_patterns.specs.Inside.Search.{is_after, begins_with, HasRank, first_value}
use Rattle.pg_patterns.specs.Inside.PatternLines.{value_digit}
use Rattle.pg_types.proofs.BoolFacts.{greater_is, less_left, equal_is}
use Rattle.pg_patterns.specs.Values.{Patterns}
use Rattle.pg_patterns.proofs.Ordered.{sorted_at, find_over, find_there, find_gap, all_before, first_before, first_at, first_not_before, sorted_drop, after_below}

-- a number that is less is not more than one less
next_upto : (a b : ℕ) (r s : Ordering) → MatchOrdering r (a < b) (a ≡ b) (b < a) → MatchOrdering s (a + 1 < b) (a + 1 ≡ b) (b < a + 1) → r ≡ Less → is_gt s ≡ false
next_upto a b Less Less low high less = refl
next_upto a b Less Equal low high less = refl
next_upto a b Less Greater low high less = absurd (omega arith)
next_upto a b Equal s low high less = cc
next_upto a b Greater s low high less = cc

next_dot_upto : (a b : ℕ) → nat_cmp a b ≡ Less → is_gt (nat_cmp (a + 1) b) ≡ false
next_dot_upto a b less = next_upto a b (nat_cmp a b) (nat_cmp (a + 1) b) (ranked a b _ refl) (ranked (a + 1) b _ refl) less

-- a dotted string after that of a dot is not before that of the next
step_upto : (r : Ordering) (a b : ℕ) → ordering_then r (nat_cmp a b) ≡ Less → is_gt (ordering_then r (nat_cmp (a + 1) b)) ≡ false
step_upto Less a b less = refl
step_upto Equal a b less = next_dot_upto a b less
step_upto Greater a b less = cc

next_is_after : (q : List ℕ) (dot : ℕ) (e : (List ℕ × ℕ) × ℕ) → dotted_cmp (q, dot) e.0 ≡ Less → is_after (q, dot + 1) e ≡ false
next_is_after q dot e less = step_upto (slice_cmp nat_cmp q e.0.0) dot e.0.1 less

dot_less : (a : ℕ) → nat_cmp a (a + 1) ≡ Less
dot_less a = by_rank (nat_cmp a (a + 1)) (ranked a (a + 1) _ refl)
  where
    by_rank : (r : Ordering) → MatchOrdering r (a < a + 1) (a ≡ a + 1) (a + 1 < a) → r ≡ Less
    by_rank Less rank = refl
    by_rank Equal rank = absurd (omega arith)
    by_rank Greater rank = absurd (omega arith)

pub same_signs : (q : List ℕ) → slice_cmp nat_cmp q q ≡ Equal
same_signs q = tied_itself nat_list_cmp_total q

-- that of the next dot is later
pub next_is_less : (q : List ℕ) (dot : ℕ) → dotted_cmp (q, dot) (q, dot + 1) ≡ Less
next_is_less q dot = ap (λ r. ordering_then r (nat_cmp dot (dot + 1))) (same_signs q) ∙ dot_less dot

pub turned_after : (a b : List ℕ × ℕ) → dotted_cmp a b ≡ Less → is_gt (dotted_cmp b a) ≡ true
turned_after a b less = ap is_gt (dotted_total.antisymm b a ∙ ap ordering_reverse less)

-- what is before a dotted string is before that of the next dot
pub after_next : (q : List ℕ) (dot : ℕ) (e : (List ℕ × ℕ) × ℕ) → is_after (q, dot) e ≡ true → is_after (q, dot + 1) e ≡ true
after_next q dot e after =
    let less : dotted_cmp e.0 (q, dot) ≡ Less = dotted_total.antisymm e.0 (q, dot) ∙ ap ordering_reverse (greater_is _ after) in
    after_below dotted_cmp dotted_total e.0 (q, dot) (q, dot + 1) less (turned_after (q, dot) (q, dot + 1) (next_is_less q dot))

-- the first entry is that of k, with a value
pub record Begins (k : List ℕ × ℕ) (es : List ((List ℕ × ℕ) × ℕ)) (v : ℕ) : Type 0 where
  pub entry : (List ℕ × ℕ) × ℕ
  pub rest : List ((List ℕ × ℕ) × ℕ)
  pub is : es ≡ entry ∷ rest
  pub same : same_dotted k entry.0 ≡ true
  pub value : v ≡ entry.1

pub begins_there : (k : List ℕ × ℕ) (es : List ((List ℕ × ℕ) × ℕ)) (v : ℕ) → Some v ≡ first_value k es → Begins k es v
begins_there k [] v first = cc
begins_there k (e ∷ es) v first =
    elim (same_dotted k e.0) as (λ t. same_dotted k e.0 ≡ t → Some v ≡ cond t (Some e.1) None → Begins k (e ∷ es) v) [
      | true ↦ λ same is. record { entry = e; rest = es; is = refl; same = same; value = cc }
      | false ↦ λ other is. cc
    ] refl first

pub begins_not : (k : List ℕ × ℕ) (es : List ((List ℕ × ℕ) × ℕ)) → None ≡ first_value k es → begins_with k es ≡ false
begins_not k [] first = refl
begins_not k (e ∷ es) first =
    elim (same_dotted k e.0) as (λ t. None ≡ cond t (Some e.1) None → t ≡ false) [ true ↦ λ is. cc | false ↦ λ is. refl ] first

before_all : (P : Patterns) (k : List ℕ × ℕ) (i : ℕ) → HasRank P k i → list_all (is_after k) (take i P) ≡ true
before_all P k i point = all_before dotted_cmp k P i point.within (λ j d low high. point.before j d high)

-- a dotted string is found where it stands
found_at : (P : Patterns) (k : List ℕ × ℕ) (i : ℕ) → HasRank P k i → find dotted_cmp k P ≡ find dotted_cmp k (drop i P)
found_at P k i point =
    ap (find dotted_cmp k) (sym (take-append-drop i P)) ∙ find_over dotted_cmp k (take i P) (drop i P) (before_all P k i point)

tied : (k : List ℕ × ℕ) (e : (List ℕ × ℕ) × ℕ) → same_dotted k e.0 ≡ true → is_eq (dotted_cmp k e.0) ≡ true
tied k e same = sym (dotted_ties k e.0) ∙ same

pub digit_there : (P : Patterns) (k : List ℕ × ℕ) (i v : ℕ) → HasRank P k i → Some v ≡ first_value k (drop i P) → value_digit P k ≡ (48 + v) ∷ []
digit_there P k i v point first =
    let start = begins_there k (drop i P) v first in
    let found : find dotted_cmp k P ≡ Some v = found_at P k i point ∙ ap (find dotted_cmp k) start.is ∙ find_there dotted_cmp k start.entry start.rest (tied k start.entry start.same)
    ∙ ap (λ (n : ℕ). Some n) (sym start.value) in
    ap (λ r. option_map_or (λ v. (48 + v) ∷ []) r []) found

not_at : (k : List ℕ × ℕ) (es : List ((List ℕ × ℕ) × ℕ)) → begins_with k es ≡ false → first_at dotted_cmp k es ≡ false
not_at k [] none = refl
not_at k (e ∷ es) none = sym (dotted_ties k e.0) ∙ none

not_before : (P : Patterns) (k : List ℕ × ℕ) (i : ℕ) → HasRank P k i → first_before dotted_cmp k (drop i P) ≡ false
not_before P k i point = first_not_before dotted_cmp k P i (λ d inside. point.behind i d (omega arith) inside)

pub digit_gap : (P : Patterns) (k : List ℕ × ℕ) (i : ℕ) → T (is_sorted dotted_cmp P) → HasRank P k i → None ≡ first_value k (drop i P) → value_digit P k ≡ []
digit_gap P k i sorted point first =
    let found : find dotted_cmp k P ≡ None = found_at P k i point ∙ find_gap dotted_cmp dotted_total k (drop i P) (sorted_drop dotted_cmp P i sorted)
    (not_before P k i point) (not_at k (drop i P) (begins_not k (drop i P) first)) in
    ap (λ r. option_map_or (λ v. (48 + v) ∷ []) r []) found

inside_drop : (P : Patterns) (i : ℕ) (e : (List ℕ × ℕ) × ℕ) (rest : List ((List ℕ × ℕ) × ℕ)) → drop i P ≡ e ∷ rest → i < length P
inside_drop [] zero e rest is = cc
inside_drop [] (suc i) e rest is = cc
inside_drop (f ∷ P) zero e rest is = omega arith
inside_drop (f ∷ P) (suc i) e rest is = let inside : i < length P = inside_drop P i e rest is in omega arith

read_drop : (P : Patterns) (i : ℕ) (e d : (List ℕ × ℕ) × ℕ) (rest : List ((List ℕ × ℕ) × ℕ)) → drop i P ≡ e ∷ rest → get_or P i d ≡ e
read_drop [] zero e d rest is = cc
read_drop [] (suc i) e d rest is = cc
read_drop (f ∷ P) zero e d rest is = cc
read_drop (f ∷ P) (suc i) e d rest is = read_drop P i e d rest is

-- behind the entry of a dotted string stands that of the next dot
pub next_there : (P : Patterns) (q : List ℕ) (dot i v : ℕ) → T (is_sorted dotted_cmp P) → HasRank P (q, dot) i → Some v
    ≡ first_value (q, dot) (drop i P) → HasRank P (q, dot + 1) (i + 1)
next_there P q dot i v sorted point first =
    let start = begins_there (q, dot) (drop i P) v first in
    let inside : i < length P = inside_drop P i start.entry start.rest start.is in
    let here : (q, dot) ≡ start.entry.0 = dotted_exact (q, dot) start.entry.0 (equal_is _ (tied (q, dot) start.entry start.same)) in
    let read : (d : (List ℕ × ℕ) × ℕ) → (get_or P i d).0 ≡ (q, dot) = λ d. ap (λ e. e.0) (read_drop P i start.entry d start.rest start.is) ∙ sym here in
    let at_here : (j : ℕ) (d : (List ℕ × ℕ) × ℕ) → j ≡ i → is_after (q, dot + 1) (get_or P j d) ≡ true =
    λ j d one. ap (λ n. is_after (q, dot + 1) (get_or P n d)) one ∙ ap (λ k. is_gt (dotted_cmp (q, dot + 1) k)) (read d) ∙ turned_after (q, dot) (q, dot + 1) (next_is_less q dot) in
    record {
      within = omega arith;
      before = λ j d high. ⊎_elim (λ low. after_next q dot (get_or P j d) (point.before j d low)) (λ far. at_here j d (omega arith)) (cases_lt j i);
      behind = λ j d low high. next_is_after q dot (get_or P j d) (ap (λ k. dotted_cmp k (get_or P j d).0) (sym (read d)) ∙ sorted_at dotted_cmp P i j d sorted (omega arith) high);
    }

-- where a dotted string has no entry, those behind it are later
later_than : (P : Patterns) (q : List ℕ) (dot i j : ℕ) (d : (List ℕ × ℕ) × ℕ) → T (is_sorted dotted_cmp P) → HasRank P (q, dot) i
    → begins_with (q, dot) (drop i P) ≡ false → i ≤ j → j < length P → dotted_cmp (q, dot) (get_or P j d).0 ≡ Less
later_than P q dot i j d sorted point none low high =
    let inside : i < length P = omega arith in
    let other : same_dotted (q, dot) (get_or P i d).0 ≡ false = ap (begins_with (q, dot)) (sym (drop_more P i d inside)) ∙ none in
    let first : dotted_cmp (q, dot) (get_or P i d).0 ≡ Less = less_left _ (point.behind i d (omega arith) inside) (sym (dotted_ties (q, dot) (get_or P i d).0) ∙ other) in
    ⊎_elim (λ further. dotted_total.trans (q, dot) (get_or P i d).0 (get_or P j d).0 first (sorted_at dotted_cmp P i j d sorted further high))
    (λ upto. let one : i ≡ j = omega arith in ap (λ n. dotted_cmp (q, dot) (get_or P n d).0) (sym one) ∙ first)
    (cases_lt i j)

-- where a dotted string has no entry, that of the next dot stands there too
pub next_gap : (P : Patterns) (q : List ℕ) (dot i : ℕ) → T (is_sorted dotted_cmp P) → HasRank P (q, dot) i → None ≡ first_value (q, dot) (drop i P) → HasRank P (q, dot + 1) i
next_gap P q dot i sorted point first =
    record {
      within = point.within;
      before = λ j d high. after_next q dot (get_or P j d) (point.before j d high);
      behind = λ j d low high. next_is_after q dot (get_or P j d) (later_than P q dot i j d sorted point (begins_not (q, dot) (drop i P) first) low high);
    }
