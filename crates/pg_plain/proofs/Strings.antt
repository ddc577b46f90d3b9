-- The strings that stand in a word from a position on, and the dotted strings of a word.
use Rattle.std.proofs.Common.{◌≡◌, ℕ, ◌+◌, ◌-◌, ◌<◌, ◌≤◌, true, false, not, ◌||◌, ⊎_elim, List, length, take, drop, nat_le, nat_eq, sym, ap, subst, ◌∙◌, arith}
use Rattle.std.proofs.lemmas.Bool.{leb-true, le-leb, eqb-true, eq-eqb, cases_lt, or_cases, and_from, not_from_false, or_left, or_right}
use Rattle.std.proofs.lemmas.List.{length-take-le, length-drop, take-take}
use Rattle.std.specs.Cmp.Lexicographic.{pointwise, bytes_decides}
use Rattle.std.specs.List.{starts_with}
use Rattle.pg_patterns.specs.Values.{stands_at, applies}
use Rattle.pg_plain.specs.Inside.Strings.{is_string}
use Rattle.pg_plain.specs.Inside.Walks.{has_signs_at, is_extension, applies_from, applies_from_at_least, applies_not_before}
use Rattle.pg_types.proofs.BoolFacts.{and_first, and_second, no_test}
use Rattle.std.specs.Cmp.{both_ways}

-- what it means that k begins in w at i, with its dot at p
record Begins (w : List ℕ) (i p : ℕ) (k : List ℕ × ℕ) : Type 0 where
  dot : i + k.1 ≡ p
  fits : i + length k.0 ≤ length w
  signs : k.0 ≡ take (length k.0) (drop i w)

begins_parts : (w : List ℕ) (i p : ℕ) (k : List ℕ × ℕ) → applies_from w i p k ≡ true → Begins w i p k
begins_parts w i p k h =
    let stands = and_second (nat_eq (i + k.1) p) (stands_at k.0 w i) h in
    record {
      dot = eqb-true (i + k.1) p (and_first (nat_eq (i + k.1) p) (stands_at k.0 w i) h);
      fits = leb-true (i + length k.0) (length w) (and_first (nat_le (i + length k.0) (length w)) (starts_with nat_eq (drop i w) k.0) stands);
      signs = (bytes_decides k.0 (take (length k.0) (drop i w))).0 (and_second (nat_le (i + length k.0) (length w)) (starts_with nat_eq (drop i w) k.0) stands);
    }

begins_from : (w : List ℕ) (i p : ℕ) (k : List ℕ × ℕ) → Begins w i p k → applies_from w i p k ≡ true
begins_from w i p k h =
    and_from (nat_eq (i + k.1) p) (stands_at k.0 w i) (eq-eqb (i + k.1) p h.dot)
    (and_from (nat_le (i + length k.0) (length w)) (starts_with nat_eq (drop i w) k.0) (le-leb (i + length k.0) (length w) h.fits) ((bytes_decides k.0 (take (length k.0) (drop i w))).1 h.signs))

left_len : (w : List ℕ) (i n : ℕ) → i + n ≤ length w → n ≤ length (drop i w)
left_len w i n inside = let size : length (drop i w) ≡ length w - i = length-drop i w in omega arith

cut_len : (w : List ℕ) (i n : ℕ) → i + n ≤ length w → length (take n (drop i w)) ≡ n
cut_len w i n inside = length-take-le n (drop i w) (left_len w i n inside)

-- a string of at least n signs has n signs, or more
pub longer_step : (w : List ℕ) (i n : ℕ) → i + n ≤ length w → (p : ℕ) (k : List ℕ × ℕ) → applies_from_at_least w i n p k
    ≡ (has_signs_at (take n (drop i w)) i p k || applies_from_at_least w i (n + 1) p k)
longer_step w i n inside p k = both_ways _ _ cut joined
  where
    cut : applies_from_at_least w i n p k ≡ true → (has_signs_at (take n (drop i w)) i p k || applies_from_at_least w i (n + 1) p k) ≡ true
    cut h =
        let starts : applies_from w i p k ≡ true = and_first (applies_from w i p k) (nat_le n (length k.0)) h in
        let parts : Begins w i p k = begins_parts w i p k starts in
        let size : n ≤ length k.0 = leb-true n (length k.0) (and_second (applies_from w i p k) (nat_le n (length k.0)) h) in
        let dot : i + k.1 ≡ p = parts.dot in
        ⊎_elim
        (λ (more : n < length k.0). or_right (has_signs_at (take n (drop i w)) i p k) (applies_from_at_least w i (n + 1) p k)
        (and_from (applies_from w i p k) (nat_le (n + 1) (length k.0)) starts (le-leb (n + 1) (length k.0) (omega arith))))
        (λ (most : length k.0 ≤ n).
        let same : length k.0 ≡ n = omega arith in
        let signs : k.0 ≡ take n (drop i w) = subst (λ x. k.0 ≡ take x (drop i w)) same parts.signs in
        or_left (has_signs_at (take n (drop i w)) i p k) (applies_from_at_least w i (n + 1) p k)
        (and_from (pointwise nat_eq k.0 (take n (drop i w))) (nat_eq (i + k.1) p) ((bytes_decides k.0 (take n (drop i w))).1 signs) (eq-eqb (i + k.1) p dot)))
        (cases_lt n (length k.0))

    joined : (has_signs_at (take n (drop i w)) i p k || applies_from_at_least w i (n + 1) p k) ≡ true → applies_from_at_least w i n p k ≡ true
    joined h =
        ⊎_elim
        (λ (row : has_signs_at (take n (drop i w)) i p k ≡ true).
        let signs : k.0 ≡ take n (drop i w) = (bytes_decides k.0 (take n (drop i w))).0 (and_first (pointwise nat_eq k.0 (take n (drop i w))) (nat_eq (i + k.1) p) row) in
        let size : length k.0 ≡ n = ap (λ x. length x) signs ∙ cut_len w i n inside in
        let starts : applies_from w i p k ≡ true = begins_from w i p k (record {
          dot = eqb-true (i + k.1) p (and_second (pointwise nat_eq k.0 (take n (drop i w))) (nat_eq (i + k.1) p) row);
          fits = omega arith;
          signs = subst (λ x. k.0 ≡ take x (drop i w)) (sym size) signs;
        }) in
        and_from (applies_from w i p k) (nat_le n (length k.0)) starts (le-leb n (length k.0) (omega arith)))
        (λ (more : applies_from_at_least w i (n + 1) p k ≡ true).
        let size : n + 1 ≤ length k.0 = leb-true (n + 1) (length k.0) (and_second (applies_from w i p k) (nat_le (n + 1) (length k.0)) more) in
        and_from (applies_from w i p k) (nat_le n (length k.0)) (and_first (applies_from w i p k) (nat_le (n + 1) (length k.0)) more) (le-leb n (length k.0) (omega arith)))
        (or_cases (has_signs_at (take n (drop i w)) i p k) (applies_from_at_least w i (n + 1) p k) h)

-- each string has at least one sign
pub longer_first : (w : List ℕ) (i p : ℕ) (k : List ℕ × ℕ) → is_string k ≡ true → applies_from_at_least w i 1 p k ≡ applies_from w i p k
longer_first w i p k string =
    both_ways _ _ (λ h. and_first (applies_from w i p k) (nat_le 1 (length k.0)) h)
    (λ h. and_from (applies_from w i p k) (nat_le 1 (length k.0)) h (and_first (nat_le 1 (length k.0)) (nat_le (length k.0) 32) string))

-- none has more than 32
pub longer_last : (w : List ℕ) (i p : ℕ) (k : List ℕ × ℕ) → is_string k ≡ true → applies_from_at_least w i 33 p k ≡ false
longer_last w i p k string =
    let few : length k.0 ≤ 32 = leb-true (length k.0) 32 (and_second (nat_le 1 (length k.0)) (nat_le (length k.0) 32) string) in
    no_test _ (λ h. let many : 33 ≤ length k.0 = leb-true 33 (length k.0) (and_second (applies_from w i p k) (nat_le 33 (length k.0)) h) in absurd (omega arith))

-- none reaches over the end of the word
pub longer_out : (w : List ℕ) (i n : ℕ) → length w < i + n → (p : ℕ) (k : List ℕ × ℕ) → applies_from_at_least w i n p k ≡ false
longer_out w i n past p k =
    no_test _ (λ h.
    let parts : Begins w i p k = begins_parts w i p k (and_first (applies_from w i p k) (nat_le n (length k.0)) h) in
    let size : n ≤ length k.0 = leb-true n (length k.0) (and_second (applies_from w i p k) (nat_le n (length k.0)) h) in
    let fits : i + length k.0 ≤ length w = parts.fits in
    absurd (omega arith))

-- none is left where no string goes on
pub longer_stops : (w : List ℕ) (i n : ℕ) → i + n ≤ length w → (p : ℕ) (k : List ℕ × ℕ) → is_extension (take n (drop i w)) k.0 ≡ false → applies_from_at_least w i (n + 1) p k ≡ false
longer_stops w i n inside p k stops =
    no_test _ (λ h.
    let parts : Begins w i p k = begins_parts w i p k (and_first (applies_from w i p k) (nat_le (n + 1) (length k.0)) h) in
    let size : n + 1 ≤ length k.0 = leb-true (n + 1) (length k.0) (and_second (applies_from w i p k) (nat_le (n + 1) (length k.0)) h) in
    let cut : length (take n (drop i w)) ≡ n = cut_len w i n inside in
    let front : take n k.0 ≡ take n (drop i w) = ap (λ x. take n x) parts.signs ∙ take-take n (length k.0) (drop i w) (omega arith) in
    let begun : take n (drop i w) ≡ take (length (take n (drop i w))) k.0 = sym (ap (λ x. take x k.0) cut ∙ front) in
    let starts : starts_with nat_eq k.0 (take n (drop i w)) ≡ true = (bytes_decides (take n (drop i w)) (take (length (take n (drop i w))) k.0)).1 begun in
    let other : pointwise nat_eq k.0 (take n (drop i w)) ≡ false = no_test _ (λ same.
    let is : k.0 ≡ take n (drop i w) = (bytes_decides k.0 (take n (drop i w))).0 same in
    let sizes : length k.0 ≡ n = ap (λ x. length x) is ∙ cut in
    absurd (omega arith)) in
    sym stops ∙ and_from (starts_with nat_eq k.0 (take n (drop i w))) (not (pointwise nat_eq k.0 (take n (drop i w)))) starts (not_from_false _ other))

-- what applies not before i begins at i, or applies later
pub later_step : (w : List ℕ) (i p : ℕ) (k : List ℕ × ℕ) → applies_not_before w i p k ≡ (applies_from w i p k || applies_not_before w (i + 1) p k)
later_step w i p k = both_ways _ _ cut joined
  where
    cut : applies_not_before w i p k ≡ true → (applies_from w i p k || applies_not_before w (i + 1) p k) ≡ true
    cut h =
        let all : applies w p k ≡ true = and_first (applies w p k) (nat_le i (p - k.1)) h in
        let low : k.1 ≤ p = leb-true k.1 p (and_first (nat_le k.1 p) (stands_at k.0 w (p - k.1)) all) in
        let stands : stands_at k.0 w (p - k.1) ≡ true = and_second (nat_le k.1 p) (stands_at k.0 w (p - k.1)) all in
        let from : i ≤ p - k.1 = leb-true i (p - k.1) (and_second (applies w p k) (nat_le i (p - k.1)) h) in
        ⊎_elim
        (λ (more : i < p - k.1). or_right (applies_from w i p k) (applies_not_before w (i + 1) p k) (and_from (applies w p k) (nat_le (i + 1) (p - k.1)) all (le-leb (i + 1) (p - k.1) (omega arith))))
        (λ (most : p - k.1 ≤ i).
        let here : p - k.1 ≡ i = omega arith in
        or_left (applies_from w i p k) (applies_not_before w (i + 1) p k)
        (and_from (nat_eq (i + k.1) p) (stands_at k.0 w i) (eq-eqb (i + k.1) p (omega arith)) (subst (λ x. stands_at k.0 w x ≡ true) here stands)))
        (cases_lt i (p - k.1))

    joined : (applies_from w i p k || applies_not_before w (i + 1) p k) ≡ true → applies_not_before w i p k ≡ true
    joined h =
        ⊎_elim
        (λ (starts : applies_from w i p k ≡ true).
        let dot : i + k.1 ≡ p = eqb-true (i + k.1) p (and_first (nat_eq (i + k.1) p) (stands_at k.0 w i) starts) in
        let here : i ≡ p - k.1 = omega arith in
        and_from (applies w p k) (nat_le i (p - k.1))
        (and_from (nat_le k.1 p) (stands_at k.0 w (p - k.1)) (le-leb k.1 p (omega arith)) (subst (λ x. stands_at k.0 w x ≡ true) here (and_second (nat_eq (i + k.1) p) (stands_at k.0 w i) starts)))
        (le-leb i (p - k.1) (omega arith)))
        (λ (more : applies_not_before w (i + 1) p k ≡ true).
        let from : i + 1 ≤ p - k.1 = leb-true (i + 1) (p - k.1) (and_second (applies w p k) (nat_le (i + 1) (p - k.1)) more) in
        and_from (applies w p k) (nat_le i (p - k.1)) (and_first (applies w p k) (nat_le (i + 1) (p - k.1)) more) (le-leb i (p - k.1) (omega arith)))
        (or_cases (applies_from w i p k) (applies_not_before w (i + 1) p k) h)

pub later_first : (w : List ℕ) (p : ℕ) (k : List ℕ × ℕ) → applies_not_before w 0 p k ≡ applies w p k
later_first w p k =
    both_ways _ _ (λ h. and_first (applies w p k) (nat_le 0 (p - k.1)) h) (λ h. and_from (applies w p k) (nat_le 0 (p - k.1)) h (le-leb 0 (p - k.1) (omega arith)))

-- no string stands at the end of the word
pub later_last : (w : List ℕ) (p : ℕ) (k : List ℕ × ℕ) → is_string k ≡ true → applies_not_before w (length w) p k ≡ false
later_last w p k string =
    let some : 1 ≤ length k.0 = leb-true 1 (length k.0) (and_first (nat_le 1 (length k.0)) (nat_le (length k.0) 32) string) in
    no_test _ (λ h.
    let stands : stands_at k.0 w (p - k.1) ≡ true = and_second (nat_le k.1 p) (stands_at k.0 w (p - k.1)) (and_first (applies w p k) (nat_le (length w) (p - k.1)) h) in
    let fits : (p - k.1) + length k.0 ≤ length w = leb-true ((p - k.1) + length k.0) (length w)
    (and_first (nat_le ((p - k.1) + length k.0) (length w)) (starts_with nat_eq (drop (p - k.1) w) k.0) stands) in
    let from : length w ≤ p - k.1 = leb-true (length w) (p - k.1) (and_second (applies w p k) (nat_le (length w) (p - k.1)) h) in
    absurd (omega arith))
