-- The candidates that were looked at before their turn.
use Rattle.std.proofs.Common.{◌≡◌, ℕ, ◌+◌, ◌<◌, ◌-◌, ◌≤◌, List, [], ◌∷◌, ◌++◌, drop, length, take, slice_get, get_or, None, Some, inl, inr, sym, ap, subst, ◌∙◌, arith}
use Rattle.std.proofs.lemmas.Bool.{cases_lt}
use Rattle.std.proofs.lemmas.List.{get_or-drop, get_or-take, length-drop, length-take-le}
use Rattle.std.proofs.lemmas.Option.{get_or_from_slice_get, slice_get-get_or, slice_get_within}
use Rattle.pg_types.specs.Inside.counting.NumberedWindows.{Windows}
use Rattle.pg_select.specs.declared.choice.Choice.{Choice}
use Rattle.pg_driver.specs.declared.choices.look_ahead.SeenCandidate.{SeenCandidate}
use Rattle.pg_driver.specs.Inside.choices.LookAhead.{IsReadAhead, AreSeen}
use Rattle.pg_driver.proofs.NumberSteps.{get_back, get_last}

-- each of these candidates is as its number says
abbrev pub EachSeen : List Choice → Windows → List ℕ → List SeenCandidate → Type 0
EachSeen fates ws numbers seen = (k n : ℕ) (c : SeenCandidate) → slice_get numbers k ≡ Some n → slice_get seen k ≡ Some c → IsReadAhead fates ws n c

-- one candidate more
pub seen_more : (fates : List Choice) (ws : Windows) (numbers : List ℕ) (seen : List SeenCandidate) (e : SeenCandidate) (n : ℕ) → slice_get numbers (length seen) ≡ Some n
    → IsReadAhead fates ws n e → EachSeen fates ws numbers seen → EachSeen fates ws numbers (seen ++ e ∷ [])
seen_more fates ws numbers seen e n here is each = λ k m c at there. elim (cases_lt k (length seen)) [
  | inl lt ↦ each k m c at (get_back seen e k c lt there)
  | inr le ↦
      let last = get_last seen e k c there (λ lt. omega arith) in
      let both : Some m ≡ Some n = sym at ∙ ap (slice_get numbers) last.1 ∙ here in
      let same : m ≡ n = cc in
      subst (λ j. IsReadAhead fates ws j c) (sym same) (subst (IsReadAhead fates ws n) (sym last.0) is)
]

-- the candidates of a part of the order
pub seen_part : (fates : List Choice) (ws : Windows) (order : List ℕ) (seen : List SeenCandidate) (k end : ℕ) → k ≤ end → end ≤ length order
    → length seen ≡ length (take (end - k) (drop k order)) → EachSeen fates ws (take (end - k) (drop k order)) seen → AreSeen fates ws order k seen
seen_part fates ws order seen k end low high size each =
    let part : List ℕ = take (end - k) (drop k order) in
    let count : length part ≡ end - k = length-take-le (end - k) (drop k order) (omega (arith, length-drop k order)) in
    record {
      within = omega arith;
      each = λ i n c at there.
          let lt : i < length seen = slice_get_within seen i c there in
          let here : get_or part i n ≡ n =
          get_or-take (end - k) (drop k order) i n (omega arith) ∙ get_or-drop k order i n ∙ get_or_from_slice_get order (k + i) n n at in
          each i n c (slice_get-get_or part i n (omega arith) ∙ ap (λ (m : ℕ). Some m) here) there;
    }

-- none was looked at yet
pub none_seen : (fates : List Choice) (ws : Windows) (order : List ℕ) (seen : List SeenCandidate) → seen ≡ [] → AreSeen fates ws order 0 seen
none_seen fates ws order seen none = record {
  within = omega (arith, ap (λ (xs : List SeenCandidate). length xs) none);
  each = λ i n c at there. absurd (let no : None ≡ Some c = ap (λ (xs : List SeenCandidate). slice_get xs i) (sym none) ∙ there in cc);
}

-- the candidate with an index of the order
pub seen_at : (fates : List Choice) (ws : Windows) (order : List ℕ) (from : ℕ) (seen : List SeenCandidate) → AreSeen fates ws order from seen → (k : ℕ) (c : SeenCandidate) → from ≤ k
    → k < from + length seen → k < length order → c ≡ get_or seen (k - from) c → IsReadAhead fates ws (get_or order k 0) c
seen_at fates ws order from seen are k c low high within read =
    let back : from + (k - from) ≡ k = omega arith in
    are.each (k - from) (get_or order k 0) c (ap (slice_get order) back ∙ slice_get-get_or order k 0 within)
    (slice_get-get_or seen (k - from) c (omega arith) ∙ ap (λ (x : SeenCandidate). Some x) (sym read))
