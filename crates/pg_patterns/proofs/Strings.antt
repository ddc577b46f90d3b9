-- The strings of a map, one after the other.
use Rattle.std.proofs.Common.{◌≡◌, ℕ, suc, zero, ◌+◌, ◌-◌, ◌<◌, ◌≤◌, true, false, cond, T, List, [], ◌∷◌, ◌++◌}
use Rattle.std.proofs.Common.{length, map, drop, get_or, nat_eq, nat_cmp, sym, refl, ap, subst, ◌∙◌, ⊎_elim, flat_map, append_assoc, arith, add-zero}
use Rattle.std.proofs.lemmas.Bool.{cases_lt, true≢false, false_from_ne_true}
use Rattle.std.specs.List.{dedup_from}
use Rattle.std.proofs.lemmas.Cmp.{ranked, upto}
use Rattle.std.proofs.lemmas.List.{drop-drop, get_or-drop, get_or_default, length-drop}
use Rattle.std.specs.declared.cmp.Ordering.{Ordering}
use Rattle.std.specs.declared.cmp.Ordering.TheVariants.{Less, Equal, Greater}
use Rattle.std.specs.Cmp.Lexicographic.{slice_cmp, pointwise, texts_ties}
use Rattle.std.specs.Ordering.{is_eq, is_gt, ordering_then, ordering_reverse, MatchOrdering}
use Rattle.std.specs.FinMap.{nat_cmp-IsAntisymmetric, slice_cmp-IsAntisymmetric}
use Rattle.std.specs.FinMap.Entries.{is_sorted}
use Rattle.pg_translate.specs.Alphabets.{Alphabet}
use Rattle.pg_patterns.specs.DottedSigns.{dotted_cmp}
use Rattle.pg_patterns.specs.Inside.DottedOrder.{dotted_total}
use Rattle.pg_patterns.specs.Inside.PatternMaps.{IsPatternMap, is_entry}
use Rattle.pg_patterns.specs.Inside.Search.{is_after, HasRank}
use Rattle.pg_types.proofs.BoolFacts.{equal_is, greater_is}
use Rattle.pg_patterns.specs.Texts.{strings_of, pattern_line}
use Rattle.pg_patterns.specs.Inside.PatternLines.{with_string, strings_by}
use Rattle.pg_patterns.specs.Values.{Patterns}
use Rattle.pg_patterns.proofs.Ordered.{sorted_at, after_below}
use Rattle.pg_patterns.proofs.Sound.{entry_bounds, entry_at}
use Rattle.pg_patterns.proofs.Points.{same_signs, turned_after}

pub equal_signs : (q r : List ℕ) → slice_cmp nat_cmp q r ≡ Equal → q ≡ r
equal_signs q r same = slice_cmp-IsAntisymmetric nat_cmp-IsAntisymmetric q r same

dot_upto : (a b : ℕ) (r : Ordering) → MatchOrdering r (a < b) (a ≡ b) (b < a) → is_gt r ≡ false → a ≤ b
dot_upto a b Less rank after = omega arith
dot_upto a b Equal rank after = omega arith
dot_upto a b Greater rank after = cc

-- what comes behind the last dot of a string is of a later string
pub later_string : (q : List ℕ) (e : (List ℕ × ℕ) × ℕ) → e.0.1 ≤ length e.0.0 → is_after (q, length q + 1) e ≡ false → slice_cmp nat_cmp q e.0.0 ≡ Less
later_string q e dot after =
    elim (slice_cmp nat_cmp q e.0.0) as (λ r. slice_cmp nat_cmp q e.0.0 ≡ r → is_gt (ordering_then r (nat_cmp (length q + 1) e.0.1)) ≡ false → r ≡ Less) [
      | Less ↦ λ is low. refl
      | Equal ↦ λ is low.
          let far : length q + 1 ≤ e.0.1 = dot_upto (length q + 1) e.0.1 _ (ranked (length q + 1) e.0.1 _ refl) low in
          let size : length q ≡ length e.0.0 = ap (λ x. length x) (equal_signs q e.0.0 is) in
          absurd (omega arith)
      | Greater ↦ λ is low. cc
    ] refl after

-- what lies between two dots of a string is of that string
pub same_string : (q : List ℕ) (n : ℕ) (e : (List ℕ × ℕ) × ℕ) → is_after (q, n) e ≡ true → is_after (q, 0) e ≡ false → e.0.0 ≡ q
same_string q n e after before =
    elim (slice_cmp nat_cmp q e.0.0) as (λ r. slice_cmp nat_cmp q e.0.0 ≡ r → is_gt (ordering_then r (nat_cmp n e.0.1)) ≡ true → is_gt (ordering_then r (nat_cmp 0 e.0.1)) ≡ false → e.0.0 ≡ q) [
      | Less ↦ λ is low high. cc
      | Equal ↦ λ is low high. sym (equal_signs q e.0.0 is)
      | Greater ↦ λ is low high. cc
    ] refl after before

-- the first dot of a string is not behind its entries
first_dot : (e : (List ℕ × ℕ) × ℕ) → is_after (e.0.0, 0) e ≡ false
first_dot e =
    ap (λ r. is_gt (ordering_then r (nat_cmp 0 e.0.1))) (same_signs e.0.0) ∙ zero_upto (nat_cmp 0 e.0.1) (ranked 0 e.0.1 _ refl)
  where
    zero_upto : (r : Ordering) → MatchOrdering r (0 < e.0.1) (0 ≡ e.0.1) (e.0.1 < 0) → is_gt r ≡ false
    zero_upto Less rank = refl
    zero_upto Equal rank = refl
    zero_upto Greater rank = absurd (omega arith)

-- where the entries of a string begin, its first dot stands
pub string_start : (P : Patterns) (i : ℕ) (e : (List ℕ × ℕ) × ℕ) → T (is_sorted dotted_cmp P) → i < length P → e ≡ get_or P i e
    → ((j : ℕ) (d : (List ℕ × ℕ) × ℕ) → j < i → is_after (e.0.0, 0) (get_or P j d) ≡ true) → HasRank P (e.0.0, 0) i
string_start P i e sorted inside is before =
    record {
      within = omega arith;
      before = before;
      behind = λ j d low high. ⊎_elim
          (λ further.
          let less : dotted_cmp e.0 (get_or P j d).0 ≡ Less = ap (λ x. dotted_cmp x.0 (get_or P j d).0) (is ∙ get_or_default P i e d inside) ∙ sorted_at dotted_cmp P i j d sorted further high in
          upto dotted_total (e.0.0, 0) e.0 (get_or P j d).0 (first_dot e) (ap is_gt less))
          (λ back. let one : j ≡ i = omega arith in ap (λ n. is_after (e.0.0, 0) (get_or P n d)) one ∙ ap (is_after (e.0.0, 0)) (sym (is ∙ get_or_default P i e d inside)) ∙ first_dot e)
          (cases_lt i j);
    }

-- the entries before the end of a string are before the next string
pub next_string : (P : Patterns) (q : List ℕ) (i : ℕ) (e : (List ℕ × ℕ) × ℕ) → IsPatternMap P → HasRank P (q, length q + 1) i → i < length P
    → e ≡ get_or P i e → slice_cmp nat_cmp q e.0.0 ≡ Less × ((j : ℕ) (d : (List ℕ × ℕ) × ℕ) → j < i → is_after (e.0.0, 0) (get_or P j d) ≡ true)
next_string P q i e map point inside is =
    let bounds = entry_bounds e (subst (λ x. is_entry x ≡ true) (sym is) (entry_at P i e map.sound inside)) in
    let less : slice_cmp nat_cmp q e.0.0 ≡ Less = later_string q e bounds.dot (ap (is_after (q, length q + 1)) is ∙ point.behind i e (omega arith) inside) in
    let further : dotted_cmp (q, length q + 1) (e.0.0, 0) ≡ Less = ap (λ r. ordering_then r (nat_cmp (length q + 1) 0)) less in (
      less,
      λ j d low.
          let below : dotted_cmp (get_or P j d).0 (q, length q + 1) ≡ Less = dotted_total.antisymm (get_or P j d).0 (q, length q + 1) ∙ ap ordering_reverse (greater_is _ (point.before j d low)) in
          after_below dotted_cmp dotted_total (get_or P j d).0 (q, length q + 1) (e.0.0, 0) below (turned_after (q, length q + 1) (e.0.0, 0) further),
    )

-- a string before another is a string of its own
pub other_string : (q r : List ℕ) (rs : List (List ℕ)) → pointwise nat_eq q r ≡ false → with_string q (with_string r rs) ≡ q ∷ with_string r rs
other_string q r [] other = ap (λ t. cond t (r ∷ []) (q ∷ r ∷ [])) other
other_string q r (s ∷ rs) other =
    elim (pointwise nat_eq r s) as (λ t. pointwise nat_eq r s ≡ t → with_string q (cond t (s ∷ rs) (r ∷ s ∷ rs)) ≡ q ∷ cond t (s ∷ rs) (r ∷ s ∷ rs)) [
      | true ↦ λ same.
          let one : r ≡ s = equal_signs r s (equal_is _ (sym (texts_ties r s) ∙ same)) in
          ap (λ t. cond t (s ∷ rs) (q ∷ s ∷ rs)) (ap (pointwise nat_eq q) (sym one) ∙ other)
      | false ↦ λ apart. ap (λ t. cond t (r ∷ s ∷ rs) (q ∷ r ∷ s ∷ rs)) other
    ] refl

pub string_ends : (q : List ℕ) (es : List ((List ℕ × ℕ) × ℕ)) → ((d : (List ℕ × ℕ) × ℕ) → 0 < length es → pointwise nat_eq q (get_or es 0 d).0.0 ≡ false)
    → with_string q (strings_by es) ≡ q ∷ strings_by es
string_ends q [] other = refl
string_ends q (e ∷ es) other = other_string q e.0.0 (strings_by es) (other e (omega arith))

pub same_again : (q : List ℕ) (rs : List (List ℕ)) → with_string q (q ∷ rs) ≡ q ∷ rs
same_again q rs = ap (λ t. cond t (q ∷ rs) (q ∷ q ∷ rs)) (texts_ties q q ∙ ap is_eq (same_signs q))

-- entries of one string give it once
pub string_once : (q : List ℕ) (es : List ((List ℕ × ℕ) × ℕ)) (n : ℕ) → ((j : ℕ) (d : (List ℕ × ℕ) × ℕ) → j < suc n → (get_or es j d).0.0 ≡ q)
    → suc n ≤ length es → with_string q (strings_by (drop (suc n) es)) ≡ q ∷ strings_by (drop (suc n) es) → strings_by es ≡ q ∷ strings_by (drop (suc n) es)
string_once q [] n same within ends = absurd (omega arith)
string_once q (e ∷ es) zero same within ends = ap (λ r. with_string r (strings_by es)) (same 0 e (omega arith)) ∙ ends
string_once q (e ∷ es) (suc n) same within ends =
    ap (λ r. with_string r (strings_by es)) (same 0 e (omega arith))
    ∙ ap (with_string q) (string_once q es n (λ j d low. same (suc j) d (omega arith)) (omega arith) ends)
    ∙ same_again q (strings_by (drop (suc n) es))

-- the end of a string lies behind its entries
pub string_progress : (P : Patterns) (at n : ℕ) (e : (List ℕ × ℕ) × ℕ) → IsPatternMap P → at < length P → e ≡ get_or P at e → HasRank P (e.0.0, length e.0.0 + 1) n → at < n
string_progress P at n e map inside is point =
    ⊎_elim (λ less. less)
    (λ back.
    let bounds = entry_bounds e (subst (λ x. is_entry x ≡ true) (sym is) (entry_at P at e map.sound inside)) in
    let later : slice_cmp nat_cmp e.0.0 e.0.0 ≡ Less = later_string e.0.0 e bounds.dot (ap (is_after (e.0.0, length e.0.0 + 1)) is ∙ point.behind at e back inside) in
    cc (later, same_signs e.0.0))
    (cases_lt at n)

string_cut : (P : Patterns) (at m : ℕ) (e : (List ℕ × ℕ) × ℕ) → IsPatternMap P → HasRank P (e.0.0, 0) at → HasRank P (e.0.0, length e.0.0 + 1) (at + suc m)
    → strings_by (drop at P) ≡ e.0.0 ∷ strings_by (drop (at + suc m) P)
string_cut P at m e map begin end =
    let q = e.0.0 in
    let moved : drop (suc m) (drop at P) ≡ drop (at + suc m) P = drop-drop (suc m) at P in
    let same : (j : ℕ) (d : (List ℕ × ℕ) × ℕ) → j < suc m → (get_or (drop at P) j d).0.0 ≡ q = λ j d low.
    ap (λ x. x.0.0) (get_or-drop at P j d) ∙ same_string q (length q + 1) (get_or P (at + j) d) (end.before (at + j) d (omega arith))
    (begin.behind (at + j) d (omega arith) (omega (arith, end.within))) in
    let ends : with_string q (strings_by (drop (at + suc m) P)) ≡ q ∷ strings_by (drop (at + suc m) P) =
    string_ends q (drop (at + suc m) P) (λ d some.
    let inside : at + suc m < length P = omega (arith, length-drop (at + suc m) P) in
    let less = (next_string P q (at + suc m) (get_or P (at + suc m) d) map end inside (get_or_default P (at + suc m) d (get_or P (at + suc m) d) inside)).0 in
    ap (λ x. pointwise nat_eq q x.0.0) (get_or-drop (at + suc m) P 0 d ∙ ap (λ n. get_or P n d) (add-zero (at + suc m))) ∙ texts_ties q (get_or P (at + suc m) d).0.0 ∙ ap is_eq less) in
    string_once q (drop at P) m same (omega (arith, length-drop at P, end.within)) (subst (λ x. with_string q (strings_by x) ≡ q ∷ strings_by x) (sym moved) ends)
    ∙ ap (λ x. q ∷ strings_by x) moved

-- strings are the same in either order
same_strings : (q : List ℕ) → pointwise nat_eq q q ≡ true
same_strings q = texts_ties q q ∙ ap is_eq (same_signs q)

other_way : (q r : List ℕ) → pointwise nat_eq q r ≡ false → pointwise nat_eq r q ≡ false
other_way q r other = false_from_ne_true _ (λ same.
    let one : r ≡ q = equal_signs r q (equal_is _ (sym (texts_ties r q) ∙ same)) in
    true≢false (sym (same_strings q) ∙ ap (pointwise nat_eq q) (sym one) ∙ other))

-- a string put in front twice is there once
put_twice : (q : List ℕ) (rs : List (List ℕ)) → with_string q (with_string q rs) ≡ with_string q rs
put_twice q [] = same_again q []
put_twice q (r ∷ rs) =
    elim (pointwise nat_eq q r) as (λ t. pointwise nat_eq q r ≡ t → with_string q (cond t (r ∷ rs) (q ∷ r ∷ rs)) ≡ cond t (r ∷ rs) (q ∷ r ∷ rs)) [
      | true ↦ λ same. ap (λ t. cond t (r ∷ rs) (q ∷ r ∷ rs)) same
      | false ↦ λ other. same_again q (r ∷ rs)
    ] refl

-- the strings of entries, one after the other, are all of them
strings_behind : (q : List ℕ) (es : Patterns) → dedup_from (pointwise nat_eq) q (map (λ (e : (List ℕ × ℕ) × ℕ). e.0.0) es) ≡ with_string q (strings_by es)
strings_behind q [] = refl
strings_behind q (e ∷ es) =
    let later = map (λ (d : (List ℕ × ℕ) × ℕ). d.0.0) es in
    elim (pointwise nat_eq e.0.0 q) as (λ t. pointwise nat_eq e.0.0 q ≡ t
    → cond t (dedup_from (pointwise nat_eq) q later) (q ∷ dedup_from (pointwise nat_eq) e.0.0 later) ≡ with_string q (with_string e.0.0 (strings_by es))) [
      | true ↦ λ same.
          let one : e.0.0 ≡ q = equal_signs e.0.0 q (equal_is _ (sym (texts_ties e.0.0 q) ∙ same)) in
          strings_behind q es ∙ sym (put_twice q (strings_by es)) ∙ ap (λ r. with_string q (with_string r (strings_by es))) (sym one)
      | false ↦ λ other. ap (λ rs. q ∷ rs) (strings_behind e.0.0 es) ∙ sym (other_string q e.0.0 (strings_by es) (other_way e.0.0 q other))
    ] refl

pub strings_as : (P : Patterns) → strings_of P ≡ strings_by P
strings_as [] = refl
strings_as (e ∷ es) = strings_behind e.0.0 es

-- from where the entries of a string begin to where those of the next do
pub string_step : (P : Patterns) (at n : ℕ) (e : (List ℕ × ℕ) × ℕ) → IsPatternMap P → at < length P → e ≡ get_or P at e → HasRank P (e.0.0, 0) at
    → HasRank P (e.0.0, length e.0.0 + 1) n → at < n × (strings_of (drop at P) ≡ e.0.0 ∷ strings_of (drop n P))
string_step P at n e map inside is begin end =
    let less : at < n = string_progress P at n e map inside is end in
    let size : n ≡ at + suc (n - at - 1) = omega arith in (
      less,
      strings_as (drop at P)
          ∙ string_cut P at (n - at - 1) e map begin (subst (λ x. HasRank P (e.0.0, length e.0.0 + 1) x) size end)
          ∙ ap (λ x. e.0.0 ∷ strings_by (drop x P)) (sym size) ∙ ap (λ qs. e.0.0 ∷ qs) (sym (strings_as (drop n P))),
    )

-- a line written is one line less to write
pub line_step : (t : Alphabet) (P : Patterns) (at n : ℕ) (e : (List ℕ × ℕ) × ℕ) (q old new whole : List ℕ) → IsPatternMap P → at < length P
    → e ≡ get_or P at e → q ≡ e.0.0 → HasRank P (e.0.0, 0) at → HasRank P (q, length q + 1) n → new ≡ old ++ pattern_line t P q → old
    ++ flat_map (pattern_line t P) (strings_of (drop at P)) ≡ whole → new ++ flat_map (pattern_line t P) (strings_of (drop n P)) ≡ whole
line_step t P at n e q old new whole map inside is signs begin end pushed left =
    let point : HasRank P (e.0.0, length e.0.0 + 1) n = subst (λ x. HasRank P (x, length x + 1) n) signs end in
    let cut : strings_of (drop at P) ≡ q ∷ strings_of (drop n P) = (string_step P at n e map inside is begin point).1 ∙ ap (λ x. x ∷ strings_of (drop n P)) (sym signs) in
    ap (λ x. x ++ flat_map (pattern_line t P) (strings_of (drop n P))) pushed
    ∙ append_assoc old (pattern_line t P q) (flat_map (pattern_line t P) (strings_of (drop n P)))
    ∙ ap (λ x. old ++ flat_map (pattern_line t P) x) (sym cut)
    ∙ left
