-- The first difference is the least one.
use Rattle.std.proofs.Common.{◌≡◌, ◌≢◌, ℕ, ◌+◌, ◌<◌, ◌≤◌, true, false, List, [], ◌∷◌, ◌++◌, length, refl, sym, ap, subst, ◌∙◌, arith, suc, zero, inl, inr, None, Some}
use Rattle.std.specs.Prelude.{unwrap_or, ◌↔◌}
use Rattle.std.specs.List.{slice_get, onto_first, AllByRecursion}
use Rattle.std.specs.Str.{bytes_eq}
use Rattle.std.proofs.lemmas.Bool.{cases_Bool}
use Rattle.std.proofs.lemmas.Slice.Eq.{bytes_eq-Decides}
use Rattle.pg_types.specs.Lines.{is_line_feed}
use Rattle.pg_audit.specs.Differences.{difference_from, whole_lines, first_false}
use Rattle.pg_audit.specs.Inside.FirstFalse.{IsFirstFalse}

-- the least line, counted from n on, at which two lists of lines differ
record IsLeast (n : ℕ) (gs ws : List (List ℕ)) (d : ℕ × List ℕ) : Type 0 where
  low : n ≤ d.0
  before : (k : ℕ) → k + n < d.0 → slice_get gs k ≡ slice_get ws k
  differs : (k : ℕ) → d.0 ≡ k + n → slice_get gs k ≢ slice_get ws k
  found : (k : ℕ) → d.0 ≡ k + n → d.1 ≡ unwrap_or (slice_get gs k) []

-- a difference at the first lines
at_once : (n : ℕ) (gs ws : List (List ℕ)) (found : List ℕ) → slice_get gs 0 ≢ slice_get ws 0 → found ≡ unwrap_or (slice_get gs 0) [] → IsLeast n gs ws (n, found)
at_once n gs ws found differ is = record {
  low = omega arith;
  before = λ k below. absurd (omega arith);
  differs = λ k here. let first : k ≡ 0 = omega arith in rw first differ;
  found = λ k here. let first : k ≡ 0 = omega arith in rw first is;
}

before_behind : (n : ℕ) (line : List ℕ) (gs ws : List (List ℕ)) (d : ℕ × List ℕ) → IsLeast (n + 1) gs ws d → (k : ℕ) → k + n < d.0 → slice_get (line ∷ gs) k ≡ slice_get (line ∷ ws) k
before_behind n line gs ws d rest zero below = refl
before_behind n line gs ws d rest (suc k) below = rest.before k (omega arith)

differs_behind : (n : ℕ) (line : List ℕ) (gs ws : List (List ℕ)) (d : ℕ × List ℕ) → IsLeast (n + 1) gs ws d → (k : ℕ) → d.0 ≡ k + n → slice_get (line ∷ gs) k ≢ slice_get (line ∷ ws) k
differs_behind n line gs ws d rest zero here = let low = rest.low in absurd (omega arith)
differs_behind n line gs ws d rest (suc k) here = rest.differs k (omega arith)

found_behind : (n : ℕ) (line : List ℕ) (gs ws : List (List ℕ)) (d : ℕ × List ℕ) → IsLeast (n + 1) gs ws d → (k : ℕ) → d.0 ≡ k + n → d.1 ≡ unwrap_or (slice_get (line ∷ gs) k) []
found_behind n line gs ws d rest zero here = let low = rest.low in absurd (omega arith)
found_behind n line gs ws d rest (suc k) here = rest.found k (omega arith)

-- a difference behind equal lines
behind : (n : ℕ) (line : List ℕ) (gs ws : List (List ℕ)) (d : ℕ × List ℕ) → IsLeast (n + 1) gs ws d → IsLeast n (line ∷ gs) (line ∷ ws) d
behind n line gs ws d rest = record {
  low = omega (arith, rest.low);
  before = before_behind n line gs ws d rest;
  differs = differs_behind n line gs ws d rest;
  found = found_behind n line gs ws d rest;
}

other_lines : (g w : List ℕ) → bytes_eq g w ≡ false → Some g ≢ Some w
other_lines g w other same = let lines : g ≡ w = cc in let yes : bytes_eq g w ≡ true = (bytes_eq-Decides g w).1 lines in cc

least_from : (n : ℕ) (gs ws : List (List ℕ)) (d : ℕ × List ℕ) → difference_from n gs ws ≡ Some d → IsLeast n gs ws d
least_from n [] [] d is = cc
least_from n [] (w ∷ ws) d is = let here : (n, []) ≡ d = cc in subst (IsLeast n [] (w ∷ ws)) here (at_once n [] (w ∷ ws) [] (λ same. cc) refl)
least_from n (g ∷ gs) [] d is = let here : (n, g) ≡ d = cc in subst (IsLeast n (g ∷ gs) []) here (at_once n (g ∷ gs) [] g (λ same. cc) refl)
least_from n (g ∷ gs) (w ∷ ws) d is = elim (cases_Bool (bytes_eq g w)) [
  | inl same ↦
      let lines : g ≡ w = (bytes_eq-Decides g w).0 same in
      rw lines (behind n w gs ws d (least_from (n + 1) gs ws d (rw same at is)))
  | inr other ↦
      let here : (n, g) ≡ d = (let at_first : Some (n, g) ≡ Some d = rw other at is in cc) in
      subst (IsLeast n (g ∷ gs) (w ∷ ws)) here (at_once n (g ∷ gs) (w ∷ ws) g (other_lines g w other) refl)
]

-- the first false line is the least line at which the files differ
pub is_least : (given wanted : List ℕ) (d : ℕ × List ℕ) → first_false given wanted ≡ Some d → IsFirstFalse given wanted d
is_least given wanted d is =
    let least = least_from 1 (whole_lines given) (whole_lines wanted) d is in
    record { before = least.before; differs = least.differs; found = least.found }

-- equal lists of lines do not differ
same_lines : (n : ℕ) (ls : List (List ℕ)) → difference_from n ls ls ≡ None
same_lines n [] = refl
same_lines n (l ∷ ls) = let same : bytes_eq l l ≡ true = (bytes_eq-Decides l l).1 refl in rw same (same_lines (n + 1) ls)

-- where nothing differs, the lines are equal
no_difference : (n : ℕ) (gs ws : List (List ℕ)) → difference_from n gs ws ≡ None → gs ≡ ws
no_difference n [] [] none = refl
no_difference n [] (w ∷ ws) none = cc
no_difference n (g ∷ gs) [] none = cc
no_difference n (g ∷ gs) (w ∷ ws) none = elim (cases_Bool (bytes_eq g w)) [
  | inl same ↦
      let lines : g ≡ w = (bytes_eq-Decides g w).0 same in
      let rest : gs ≡ ws = no_difference (n + 1) gs ws (rw same at none) in
      cc
  | inr other ↦ let here : ℕ × List ℕ = (n, g) in (let at_first : Some here ≡ None = rw other at none in cc)
]

join_lines : List (List ℕ) → List ℕ
join_lines [] = []
join_lines (l ∷ ls) = l ++ join_lines ls

join_onto : (b : ℕ) (ls : List (List ℕ)) → join_lines (onto_first b ls) ≡ b ∷ join_lines ls
unfolding join_lines
join_onto b [] = refl
join_onto b (l ∷ ls) = refl

-- the lines of a file, joined, are the file
lines_joined : (bs : List ℕ) → join_lines (whole_lines bs) ≡ bs
unfolding join_lines
lines_joined [] = refl
lines_joined (b ∷ bs) =
    let rest : join_lines (whole_lines bs) ≡ bs = lines_joined bs in
    elim (cases_Bool (is_line_feed b)) [
      | inl here ↦ rw here (ap (λ r. b ∷ r) rest)
      | inr here ↦ rw here (join_onto b (whole_lines bs) ∙ ap (λ r. b ∷ r) rest)
    ]

-- nothing differs exactly where the files are equal
pub none_where_equal : (given wanted : List ℕ) → first_false given wanted ≡ None → given ≡ wanted
none_where_equal given wanted none =
    sym (lines_joined given) ∙ ap join_lines (no_difference 1 (whole_lines given) (whole_lines wanted) none) ∙ lines_joined wanted

pub equal_has_none : (given wanted : List ℕ) → given ≡ wanted → first_false given wanted ≡ None
equal_has_none given wanted same = ap (λ w. first_false given w) (sym same) ∙ same_lines 1 (whole_lines given)

-- a line has a byte
abbrev Filled : List ℕ → Type 0
Filled line = 0 < length line

onto_filled : (b : ℕ) (ls : List (List ℕ)) → AllByRecursion Filled ls → AllByRecursion Filled (onto_first b ls)
onto_filled b [] filled = (omega arith, tt)
onto_filled b (l ∷ ls) filled = (omega arith, filled.1)

here_filled : (n : ℕ) (g : List ℕ) (gs : List (List ℕ)) (d : ℕ × List ℕ) → Filled g → d.0 ≡ n → d.1 ≡ g → (d.1 ≡ []) ↔ (length (g ∷ gs) + n ≡ d.0)
here_filled n g gs d filled line found = (λ none. let empty : g ≡ [] = cc in absurd (omega (arith, ap length empty)), λ past. absurd (omega arith))

lines_filled : (bs : List ℕ) → AllByRecursion Filled (whole_lines bs)
lines_filled [] = tt
lines_filled (b ∷ bs) = elim (cases_Bool (is_line_feed b)) [
  | inl here ↦ rw here (omega arith, lines_filled bs)
  | inr here ↦ rw here (onto_filled b (whole_lines bs) (lines_filled bs))
]

-- no line is found exactly where the number is past the last line
missing_from : (n : ℕ) (gs ws : List (List ℕ)) (d : ℕ × List ℕ) → AllByRecursion Filled gs → difference_from n gs ws ≡ Some d → (d.1 ≡ []) ↔ (length gs + n ≡ d.0)
missing_from n [] [] d filled is = cc
missing_from n [] (w ∷ ws) d filled is =
    let line : d.0 ≡ n = cc in
    let found : d.1 ≡ [] = cc in
    (λ _. omega arith, λ _. found)
missing_from n (g ∷ gs) [] d filled is = here_filled n g gs d filled.0 (cc) (cc)
missing_from n (g ∷ gs) (w ∷ ws) d filled is = elim (cases_Bool (bytes_eq g w)) [
  | inl same ↦
      let rest : (d.1 ≡ []) ↔ (length gs + (n + 1) ≡ d.0) = missing_from (n + 1) gs ws d filled.1 (rw same at is) in
      (λ none. let at_end = rest.0 none in omega arith, λ at_end. rest.1 (omega arith))
  | inr other ↦
      let at_first : Some (n, g) ≡ Some d = rw other at is in
      here_filled n g gs d filled.0 (cc) (cc)
]

pub missing_where : (given wanted : List ℕ) (d : ℕ × List ℕ) → first_false given wanted ≡ Some d → (d.1 ≡ []) ↔ (length (whole_lines given) + 1 ≡ d.0)
missing_where given wanted d is = missing_from 1 (whole_lines given) (whole_lines wanted) d (lines_filled given) is

-- files with a false line are not equal
pub some_differ : (given wanted : List ℕ) (d : ℕ × List ℕ) → first_false given wanted ≡ Some d → given ≢ wanted
some_differ given wanted d is same = let none = equal_has_none given wanted same in cc
