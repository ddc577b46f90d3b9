-- What rounds keep, and when they end.
use Rattle.std.proofs.Common.{◌≡◌, ◌≢◌, ℕ, zero, suc, ◌+◌, ◌≤◌, Bool, true, false, cond, List, [], ◌∷◌, ◌++◌, length, refl, sym, subst, ap, ◌∙◌, arith, append_assoc, length-append}
use Rattle.std.specs.Prelude.{nat_eq}
use Rattle.std.proofs.lemmas.List.{append-nil}
use Rattle.std.proofs.lemmas.Bool.{eq-eqb, eqb-true}
use Rattle.pg_patterns.specs.Values.{Patterns}
use Rattle.pg_prune.specs.Inside.positions.PositionInReach.{PositionInReach}
use Rattle.pg_prune.specs.Prunes.{round_from, rounds_from}
use Rattle.pg_prune.specs.Inside.rounds.EqualBreaks.{break_alike}

-- a fact of either of two values, as the test says
pub by_test : {A : Type 0} (F : A → Type 0) (b : Bool) (x y : A) → (b ≡ true → F x) → (b ≡ false → F y) → F (cond b x y)
by_test F true x y goes stays = goes refl
by_test F false x y goes stays = stays refl

-- entries in another grouping
pub regrouped : {A : Type 0} (kept : List A) (e : A) (rest : List A) → (kept ++ e ∷ []) ++ rest ≡ kept ++ e ∷ rest
regrouped kept e rest = append_assoc kept (e ∷ []) rest

-- a fact that stays where an entry is taken out without a change of breaks holds after a round, and after all rounds
module _ (positions : List PositionInReach) (P : Patterns) (Good : Patterns → Type 0) (step : (before : Patterns) (e : (List ℕ × ℕ) × ℕ) (rest : Patterns)
    → break_alike positions P (before ++ rest) ≡ true → Good (before ++ e ∷ rest) → Good (before ++ rest)) where
  pub round_keeps : (kept rest : Patterns) → Good (kept ++ rest) → Good (round_from positions P kept rest)
  round_keeps kept [] good = subst Good (append-nil kept) good
  round_keeps kept (e ∷ rest) good =
      by_test Good (break_alike positions P (kept ++ rest)) (round_from positions P kept rest) (round_from positions P (kept ++ e ∷ []) rest)
      (λ goes. round_keeps kept rest (step kept e rest goes good))
      (λ stays. round_keeps (kept ++ e ∷ []) rest (subst Good (sym (regrouped kept e rest)) good))

  pub rounds_keep : (count most : ℕ) (Q : Patterns) → Good Q → Good (rounds_from positions P count most Q).0
  rounds_keep count zero Q good = good
  rounds_keep count (suc most) Q good =
      by_test (λ (r : Patterns × ℕ). Good r.0) (nat_eq (length (round_from positions P [] Q)) (length Q))
      (Q, count) (rounds_from positions P (count + 1) most (round_from positions P [] Q))
      (λ goes. good)
      (λ stays. rounds_keep (count + 1) most (round_from positions P [] Q) (round_keeps [] Q good))

module _ (positions : List PositionInReach) (P : Patterns) where
  -- a round leaves no more entries than there were
  pub round_length : (kept rest : Patterns) → length (round_from positions P kept rest) ≤ length kept + length rest
  round_length kept [] = omega arith
  round_length kept (e ∷ rest) =
      by_test (λ (R : Patterns). length R ≤ length kept + length (e ∷ rest)) (break_alike positions P (kept ++ rest)) (round_from positions P kept rest) (round_from positions P (kept ++ e ∷ []) rest)
      (λ goes. let fewer = round_length kept rest in omega arith)
      (λ stays. let fewer = round_length (kept ++ e ∷ []) rest in omega (arith, length-append kept (e ∷ [])))

  -- where it leaves as many, it leaves the same
  pub round_same : (kept rest : Patterns) → length (round_from positions P kept rest) ≡ length kept + length rest → round_from positions P kept rest ≡ kept ++ rest
  round_same kept [] = λ many. sym (append-nil kept)
  round_same kept (e ∷ rest) =
      by_test (λ (R : Patterns). length R ≡ length kept + length (e ∷ rest) → R ≡ kept ++ e ∷ rest) (break_alike positions P (kept ++ rest))
      (round_from positions P kept rest) (round_from positions P (kept ++ e ∷ []) rest)
      (λ goes many. let fewer = round_length kept rest in absurd (omega arith))
      (λ stays many. round_same (kept ++ e ∷ []) rest (omega (arith, length-append kept (e ∷ []))) ∙ regrouped kept e rest)

  -- no entry of the rest can be taken out alone
  abbrev pub NoneGoes : Patterns → Patterns → Type 0
  NoneGoes kept rest = (before : Patterns) (e : (List ℕ × ℕ) × ℕ) (behind : Patterns) → rest ≡ before ++ e ∷ behind → break_alike positions P (kept ++ (before ++ behind)) ≡ false

  none_more : (kept : Patterns) (e : (List ℕ × ℕ) × ℕ) (rest : Patterns) → break_alike positions P (kept ++ rest) ≡ false → NoneGoes (kept ++ e ∷ []) rest → NoneGoes kept (e ∷ rest)
  none_more kept e rest stays none [] f behind is =
      let same : rest ≡ behind = cc in subst (λ (r : Patterns). break_alike positions P (kept ++ r) ≡ false) same stays
  none_more kept e rest stays none (b ∷ before) f behind is =
      let first : e ≡ b = cc in
      let others : rest ≡ before ++ f ∷ behind = cc in
      let grouped : (kept ++ e ∷ []) ++ (before ++ behind) ≡ kept ++ b ∷ (before ++ behind) = regrouped kept e (before ++ behind)
      ∙ ap (λ (x : (List ℕ × ℕ) × ℕ). kept ++ x ∷ (before ++ behind)) first in
      subst (λ (r : Patterns). break_alike positions P r ≡ false) grouped (none before f behind others)

  no_rest : (kept : Patterns) → NoneGoes kept []
  no_rest kept [] e behind is = absurd (cc)
  no_rest kept (b ∷ before) e behind is = absurd (cc)

  -- where a round leaves as many entries as there were, none can go
  pub round_stays : (kept rest : Patterns) → length (round_from positions P kept rest) ≡ length kept + length rest → NoneGoes kept rest
  round_stays kept [] = λ many. no_rest kept
  round_stays kept (e ∷ rest) =
      by_test (λ (R : Patterns). length R ≡ length kept + length (e ∷ rest) → NoneGoes kept (e ∷ rest)) (break_alike positions P (kept ++ rest))
      (round_from positions P kept rest) (round_from positions P (kept ++ e ∷ []) rest)
      (λ goes many. let fewer = round_length kept rest in absurd (omega arith))
      (λ stays many. none_more kept e rest stays (round_stays (kept ++ e ∷ []) rest (omega (arith, length-append kept (e ∷ [])))))

  -- rounds end with one that takes out nothing
  pub rounds_end : (count most : ℕ) (Q : Patterns) → length Q ≤ most
      → length (round_from positions P [] (rounds_from positions P count most Q).0) ≡ length (rounds_from positions P count most Q).0
  rounds_end count zero Q few = let fewer : length (round_from positions P [] Q) ≤ 0 + length Q = round_length [] Q in omega arith
  rounds_end count (suc most) Q few =
      by_test (λ (r : Patterns × ℕ). length (round_from positions P [] r.0) ≡ length r.0) (nat_eq (length (round_from positions P [] Q)) (length Q))
      (Q, count) (rounds_from positions P (count + 1) most (round_from positions P [] Q))
      (λ goes. eqb-true _ _ goes)
      (λ stays.
      let fewer : length (round_from positions P [] Q) ≤ 0 + length Q = round_length [] Q in
      let other : length (round_from positions P [] Q) ≢ length Q = λ same. absurd (cc (eq-eqb (length (round_from positions P [] Q)) (length Q) same)) in
      rounds_end (count + 1) most (round_from positions P [] Q) (omega arith))
