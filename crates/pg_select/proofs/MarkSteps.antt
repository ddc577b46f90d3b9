-- Totals with a position more.
use Rattle.std.proofs.Common.{◌≡◌, ℕ, ◌+◌, ◌-◌, ◌≤◌, ◌<◌, Bool, true, false, cond, List, [], ◌∷◌, ◌++◌, length, map, sym, ap, subst, ◌∙◌, arith}
use Rattle.std.specs.List.{flat_map, range_with_len, slice_index_or}
use Rattle.std.proofs.lemmas.List.Sums.{sum_by-cons, sum_by-append}
use Rattle.std.proofs.lemmas.List.Elements.{All-get_or}
use Rattle.pg_types.specs.declared.limits.TheConstants.{WEIGHT_MAX}
use Rattle.pg_types.specs.declared.marks.Mark.{Mark}
use Rattle.pg_types.specs.declared.marks.Mark.TheVariants.{Nothing, Error, Missed, Found, DontCare}
use Rattle.pg_types.specs.declared.marks.Totals.{Totals}
use Rattle.pg_translate.specs.Alphabets.{Alphabet}
use Rattle.pg_dict.specs.Word.{Word}
use Rattle.pg_dict.specs.Inside.SoundWords.{IsWord}
use Rattle.pg_patterns.specs.Values.{Patterns, value_at}
use Rattle.pg_select.specs.Statuses.{status, status_at, position_weight}
use Rattle.pg_select.specs.Sums.{weight_of, totals_of}
use Rattle.pg_select.specs.Inside.SumSteps.{marks_in, is_found, is_error, is_missed, with_mark, with_marks, sum_of}
use Rattle.pg_select.proofs.Reaches.{range_step}

abbrev totals_with : ℕ → ℕ → ℕ → Totals
totals_with good bad missed = record { good = good; bad = bad; missed = missed }

same_totals : (a b c d e f : ℕ) → a ≡ d → b ≡ e → c ≡ f → totals_with a b c ≡ totals_with d e f
same_totals a b c d e f p q r = λ i. record { good = p i; bad = q i; missed = r i }

weight_more : (test : Mark → Bool) (m : Mark) (x : ℕ) (ms : List (Mark × ℕ)) → weight_of test ((m, x) ∷ ms) ≡ cond (test m) x 0 + weight_of test ms
weight_more test m x ms = sum_by-cons (λ (e : Mark × ℕ). cond (test e.0) e.1 0) (m, x) ms

-- a position, and then the rest
pub mark_step : (t : Totals) (m : Mark) (x : ℕ) (ms : List (Mark × ℕ)) → with_marks t ((m, x) ∷ ms) ≡ with_marks (with_mark t m x) ms
mark_step t Nothing x ms = same_totals _ _ _ _ _ _ (omega (arith, weight_more is_found Nothing x ms)) (omega (arith, weight_more is_error Nothing x ms))
    (omega (arith, weight_more is_missed Nothing x ms))
mark_step t Error x ms = same_totals _ _ _ _ _ _ (omega (arith, weight_more is_found Error x ms)) (omega (arith, weight_more is_error Error x ms)) (omega (arith, weight_more is_missed Error x ms))
mark_step t Missed x ms = same_totals _ _ _ _ _ _ (omega (arith, weight_more is_found Missed x ms)) (omega (arith, weight_more is_error Missed x ms)) (omega (arith, weight_more is_missed Missed x ms))
mark_step t Found x ms = same_totals _ _ _ _ _ _ (omega (arith, weight_more is_found Found x ms)) (omega (arith, weight_more is_error Found x ms)) (omega (arith, weight_more is_missed Found x ms))
mark_step t DontCare x ms = same_totals _ _ _ _ _ _ (omega (arith, weight_more is_found DontCare x ms)) (omega (arith, weight_more is_error DontCare x ms))
    (omega (arith, weight_more is_missed DontCare x ms))

-- no position more
pub marks_none : (t : Totals) → with_marks t [] ≡ t
marks_none t = same_totals _ _ _ _ _ _ (omega arith) (omega arith) (omega arith)

-- some positions, and then others
pub marks_append : (t : Totals) (ms ns : List (Mark × ℕ)) → with_marks t (ms ++ ns) ≡ with_marks (with_marks t ms) ns
marks_append t ms ns =
    same_totals _ _ _ _ _ _
    (omega (arith, sum_by-append (λ (e : Mark × ℕ). cond (is_found e.0) e.1 0) ms ns))
    (omega (arith, sum_by-append (λ (e : Mark × ℕ). cond (is_error e.0) e.1 0) ms ns))
    (omega (arith, sum_by-append (λ (e : Mark × ℕ). cond (is_missed e.0) e.1 0) ms ns))

-- what a position adds
pub mark_took : (t : Totals) (m : Mark) (x : ℕ) → sum_of (with_mark t m x) ≤ sum_of t + x
mark_took t Nothing x = omega arith
mark_took t Error x = omega arith
mark_took t Missed x = omega arith
mark_took t Found x = omega arith
mark_took t DontCare x = omega arith

-- totals from none
pub marks_zero : (ms : List (Mark × ℕ)) → with_marks (totals_with 0 0 0) ms ≡ totals_of ms
marks_zero ms = same_totals _ _ _ _ _ _ (omega arith) (omega arith) (omega arith)

-- a weight is within its limit
pub weight_small : (w : Word) (p : ℕ) → IsWord w → p < length w.signs → position_weight w p ≤ WEIGHT_MAX
weight_small w p word within = All-get_or (λ x. x ≤ WEIGHT_MAX) w.weights p 0 (omega (arith, word.weights_len)) word.weights

-- the marks of the positions from one on, by their values, and by the patterns
abbrev mark_by : (ℕ → ℕ) → Word → ℕ → Mark
mark_by value w p = status (slice_index_or w.hyphens p false) (slice_index_or w.cares p true) (value p)

abbrev pub marks_from_by : (ℕ → ℕ) → Word → ℕ → ℕ → List (Mark × ℕ)
marks_from_by value w p end = map (λ p. (mark_by value w p, position_weight w p)) (range_with_len p (end - p))

abbrev pub marks_from : List ((List ℕ × ℕ) × ℕ) → Word → ℕ → ℕ → List (Mark × ℕ)
marks_from P w p end = marks_from_by (value_at P w.signs) w p end

-- a position that was added, and then the rest
pub marks_step_by : (t n whole : Totals) (value : ℕ → ℕ) (w : Word) (p end : ℕ) → p < end → n ≡ with_mark t (mark_by value w p) (position_weight w p)
    → with_marks t (marks_from_by value w p end) ≡ whole → with_marks n (marks_from_by value w (p + 1) end) ≡ whole
marks_step_by t n whole value w p end before is left =
    let mark : ℕ → Mark × ℕ = λ p. (mark_by value w p, position_weight w p) in
    let rest : List (Mark × ℕ) = marks_from_by value w (p + 1) end in
    ap (λ (x : Totals). with_marks x rest) is ∙ sym (mark_step t (mark_by value w p) (position_weight w p) rest) ∙ ap (λ ps. with_marks t (map mark ps)) (sym (range_step p end before)) ∙ left

pub marks_step : (t n whole : Totals) (P : Patterns) (w : Word) (p end : ℕ) → p < end → n ≡ with_mark t (status_at P w p) (position_weight w p)
    → with_marks t (marks_from P w p end) ≡ whole → with_marks n (marks_from P w (p + 1) end) ≡ whole
marks_step t n whole P w p end before is left = marks_step_by t n whole (value_at P w.signs) w p end before is left

-- no position is left
pub marks_done_by : (t whole : Totals) (value : ℕ → ℕ) (w : Word) (p end : ℕ) → end ≤ p → with_marks t (marks_from_by value w p end) ≡ whole → t ≡ whole
marks_done_by t whole value w p end past left =
    let none : end - p ≡ 0 = omega arith in
    let mark : ℕ → Mark × ℕ = λ q. (mark_by value w q, position_weight w q) in
    sym (marks_none t) ∙ subst (λ n. with_marks t (map mark (range_with_len p n)) ≡ whole) none left

-- a word that was added, and then the rest
pub marks_word : (t n whole : Totals) (m : Alphabet) (P : Patterns) (w : Word) (ws : List Word) → n ≡ with_marks t (marks_in m P w)
    → with_marks t (flat_map (marks_in m P) (w ∷ ws)) ≡ whole → with_marks n (flat_map (marks_in m P) ws) ≡ whole
marks_word t n whole m P w ws is left = ap (λ (x : Totals). with_marks x (flat_map (marks_in m P) ws)) is ∙ sym (marks_append t (marks_in m P w) (flat_map (marks_in m P) ws)) ∙ left
