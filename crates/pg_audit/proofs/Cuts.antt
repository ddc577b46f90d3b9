-- How a file is its first line and what follows it.
use Rattle.std.proofs.Common.{◌≡◌, ℕ, ◌+◌, ◌<◌, ◌≤◌, ◌==◌, true, false, not, List, [], ◌∷◌, ◌++◌, length, take, drop, get_or, refl, ap, arith, suc, zero, inl, inr, Some, None}
use Rattle.std.proofs.lemmas.Bool.{cases_Bool, false_from_ne_true, eqb-true, not-true, not-false}
use Rattle.std.specs.List.{onto_first}
use Rattle.std.specs.Str.{bytes_eq}
use Rattle.std.proofs.lemmas.Slice.Eq.{bytes_eq-Decides}
use Rattle.pg_types.specs.Lines.{is_line_feed}
use Rattle.pg_audit.specs.Inside.Cut.{first_whole, rest_whole}
use Rattle.pg_audit.specs.Differences.{whole_lines, difference_from}

-- a file that is not empty is cut into its first line and the lines of the rest
pub cut_first : (b : ℕ) (bs : List ℕ) → whole_lines (b ∷ bs) ≡ first_whole (b ∷ bs) ∷ whole_lines (rest_whole (b ∷ bs))
cut_first b [] = elim (cases_Bool (is_line_feed b)) [ inl here ↦ rw here refl | inr here ↦ rw here refl ]
cut_first b (x ∷ xs) = elim (cases_Bool (is_line_feed b)) [
  | inl here ↦ rw here refl
  | inr here ↦ rw here (ap (onto_first b) (cut_first x xs))
]

-- a file is its first line and the rest
pub whole_again : (bs : List ℕ) → first_whole bs ++ rest_whole bs ≡ bs
whole_again [] = refl
whole_again (b ∷ bs) = elim (cases_Bool (is_line_feed b)) [
  | inl here ↦ rw here refl
  | inr here ↦ rw here (ap (λ r. b ∷ r) (whole_again bs))
]

-- and as long as both
pub whole_length : (bs : List ℕ) → length (first_whole bs) + length (rest_whole bs) ≡ length bs
whole_length [] = refl
whole_length (b ∷ bs) = elim (cases_Bool (is_line_feed b)) [
  | inl here ↦ rw here (omega arith)
  | inr here ↦ let rest = whole_length bs in rw here (omega arith)
]

-- no byte before this one is a line feed
abbrev pub NoFeedBelow : List ℕ → ℕ → Type 0
NoFeedBelow bytes k = (j : ℕ) → 0 ≤ j → j < k → ¬ (is_line_feed (get_or bytes j 0) ≡ true)

no_feed_behind : (b : ℕ) (bs : List ℕ) (k : ℕ) → NoFeedBelow (b ∷ bs) (suc k) → NoFeedBelow bs k
no_feed_behind b bs k before = λ j low below. before (suc j) (omega arith) (omega arith)

-- the first line ends at the first line feed
pub feed_at : (bs : List ℕ) (k : ℕ) → NoFeedBelow bs k → k < length bs → is_line_feed (get_or bs k 0) ≡ true → (take (suc k) bs ≡ first_whole bs) × (drop (suc k) bs ≡ rest_whole bs)
feed_at [] k before inside here = absurd (omega arith)
feed_at (b ∷ bs) zero before inside here = rw here (refl, refl)
feed_at (b ∷ bs) (suc k) before inside here =
    let out : is_line_feed b ≡ false = false_from_ne_true _ (before 0 (omega arith) (omega arith)) in
    let rest = feed_at bs k (no_feed_behind b bs k before) (omega arith) here in
    rw out (ap (λ r. b ∷ r) rest.0, rest.1)

-- without a line feed all is one line
pub feed_nowhere : (bs : List ℕ) → NoFeedBelow bs (length bs) → (bs ≡ first_whole bs) × ([] ≡ rest_whole bs)
feed_nowhere [] before = (refl, refl)
feed_nowhere (b ∷ bs) before =
    let out : is_line_feed b ≡ false = false_from_ne_true _ (before 0 (omega arith) (omega arith)) in
    let rest = feed_nowhere bs (no_feed_behind b bs (length bs) before) in
    rw out (ap (λ r. b ∷ r) rest.0, rest.1)

-- the first line of a file that is not empty has a byte
pub first_filled : (b : ℕ) (bs : List ℕ) → 0 < length (first_whole (b ∷ bs))
first_filled b bs = elim (cases_Bool (is_line_feed b)) [ inl here ↦ rw here (omega arith) | inr here ↦ rw here (omega arith) ]

-- a line that differs is the first difference
pub step_other : (n b : ℕ) (bs due : List ℕ) → bytes_eq (first_whole (b ∷ bs)) (first_whole due) ≡ false → difference_from n (whole_lines (b ∷ bs)) (whole_lines due)
    ≡ Some (n, first_whole (b ∷ bs))
step_other n b bs [] other = ap (λ ls. difference_from n ls []) (cut_first b bs)
step_other n b bs (w ∷ ws) other = rw (cut_first b bs, cut_first w ws, other) refl

-- behind an equal line the rest is compared
pub step_same : (n b : ℕ) (bs due : List ℕ) → bytes_eq (first_whole (b ∷ bs)) (first_whole due) ≡ true → difference_from n (whole_lines (b ∷ bs)) (whole_lines due)
    ≡ difference_from (n + 1) (whole_lines (rest_whole (b ∷ bs))) (whole_lines (rest_whole due))
step_same n b bs [] same =
    let lines : first_whole (b ∷ bs) ≡ [] = (bytes_eq-Decides (first_whole (b ∷ bs)) []).0 same in
    let filled = first_filled b bs in
    absurd (omega (arith, ap length lines))
step_same n b bs (w ∷ ws) same = rw (cut_first b bs, cut_first w ws, same) refl

-- the same of a rest that is not empty
pub other_first : (n : ℕ) (rest due : List ℕ) → (length rest == 0) ≡ false → not (bytes_eq (first_whole rest) (first_whole due)) ≡ true
    → difference_from n (whole_lines rest) (whole_lines due) ≡ Some (n, first_whole rest)
other_first n [] due filled other = cc
other_first n (b ∷ bs) due filled other = step_other n b bs due (not-true _ other)

pub same_first : (n : ℕ) (rest due : List ℕ) → (length rest == 0) ≡ false → not (bytes_eq (first_whole rest) (first_whole due)) ≡ false
    → difference_from n (whole_lines rest) (whole_lines due) ≡ difference_from (n + 1) (whole_lines (rest_whole rest)) (whole_lines (rest_whole due))
same_first n [] due filled same = cc
same_first n (b ∷ bs) due filled same = step_same n b bs due (not-false _ same)

pub filled_first : (rest : List ℕ) → (length rest == 0) ≡ false → 0 < length (first_whole rest)
filled_first [] filled = cc
filled_first (b ∷ bs) filled = first_filled b bs

-- at the end of the given file a wanted line is missing
pub given_ends : (n : ℕ) (rest due : List ℕ) → (length rest == 0) ≡ true → (length due == 0) ≡ false → difference_from n (whole_lines rest) (whole_lines due) ≡ Some (n, rest)
given_ends n [] [] over more = cc
given_ends n [] (w ∷ ws) over more = ap (λ ls. difference_from n [] ls) (cut_first w ws)
given_ends n (b ∷ bs) due over more = let none : length (b ∷ bs) ≡ 0 = eqb-true _ _ over in absurd (omega arith)

-- at the end of both nothing differs
pub both_end : (n : ℕ) (rest due : List ℕ) → (length rest == 0) ≡ true → (length due == 0) ≡ true → difference_from n (whole_lines rest) (whole_lines due) ≡ None
both_end n [] [] over done = refl
both_end n [] (w ∷ ws) over done = let none : length (w ∷ ws) ≡ 0 = eqb-true _ _ done in absurd (omega arith)
both_end n (b ∷ bs) due over done = let none : length (b ∷ bs) ≡ 0 = eqb-true _ _ over in absurd (omega arith)
