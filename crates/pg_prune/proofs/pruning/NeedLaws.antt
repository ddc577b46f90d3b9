-- Each entry that stays has a need.
use Rattle.std.proofs.Common.{◌≡◌, ℕ, suc, ◌%◌, ◌≤◌, Bool, true, false, cond, not, ◌&&◌, List, [], ◌∷◌, ◌++◌, length, Option, Some, None, refl, sym, subst, ap, ◌∙◌}
use Rattle.std.specs.List.{All, find}
use Rattle.std.proofs.lemmas.List.Elements.{All-nil, All-cons, All-head, All-tail, All-append}
use Rattle.std.proofs.lemmas.Bool.{eq-eqb, eqb-true, and_from}
use Rattle.pg_types.proofs.BoolFacts.{and_first, and_second}
use Rattle.pg_patterns.specs.Values.{Patterns, value_at}
use Rattle.pg_prune.specs.declared.pruned.Need.{Need}
use Rattle.pg_prune.specs.Inside.positions.PositionInReach.{PositionInReach, need_at}
use Rattle.pg_prune.specs.Prunes.{break_alike_at}
use Rattle.pg_prune.specs.Inside.Findings.{needs_from, need_list, first_difference}
use Rattle.pg_prune.specs.Inside.rounds.EqualBreaks.{break_alike}
use Rattle.pg_prune.proofs.rounds.RoundLaws.{by_test, regrouped, NoneGoes}
use Rattle.pg_prune.proofs.pruning.Told.{IsBehind}

-- a map breaks alike with itself
pub alike_self : (xs : List PositionInReach) (P : Patterns) → break_alike xs P P ≡ true
alike_self [] P = refl
alike_self (x ∷ xs) P = and_from _ _ (eq-eqb (value_at P x.1 x.0.position % 2) _ refl) (alike_self xs P)

-- and two maps that break alike with a third
pub alike_over : (xs : List PositionInReach) (P Q R : Patterns) → break_alike xs P Q ≡ true → break_alike xs Q R ≡ true → break_alike xs P R ≡ true
alike_over [] P Q R first second = refl
alike_over (x ∷ xs) P Q R first second =
    and_from _ _ (eq-eqb _ _ (eqb-true _ _ (and_first _ _ first) ∙ eqb-true _ _ (and_first _ _ second))) (alike_over xs P Q R (and_second _ _ first) (and_second _ _ second))

none_step : (x : PositionInReach) (b r : Bool) (o : Option PositionInReach) → cond (not b) (Some x) o ≡ None → (o ≡ None → r ≡ true) → (b && r) ≡ true
none_step x true r o none others = others none
none_step x false r o none others = absurd (cc)

-- where no position is found, all are alike
pub alike_where_none : (P Q : Patterns) (xs : List PositionInReach) → first_difference xs P Q ≡ None → break_alike xs P Q ≡ true
alike_where_none P Q [] none = refl
alike_where_none P Q (x ∷ xs) none = none_step x (break_alike_at P Q x) (break_alike xs P Q) (first_difference xs P Q) none (alike_where_none P Q xs)

-- a need is behind the first letter
abbrev IsLow : Need → Type 0
IsLow n = 1 ≤ n.position

need_behind : (p : PositionInReach → Bool) (xs : List PositionInReach) → All IsBehind xs → All IsLow (need_list (find p xs))
need_behind p [] all = All-nil IsLow
need_behind p (x ∷ xs) all =
    by_test (λ (o : Option PositionInReach). All IsLow (need_list o)) (p x) (Some x) (find p xs)
    (λ _. All-cons IsLow (need_at x) [] (All-head IsBehind x xs all) (All-nil IsLow)) (λ _. need_behind p xs (All-tail IsBehind x xs all))

module _ (positions : List PositionInReach) where
  pub needs_behind : (before rest : Patterns) → All IsBehind positions → All IsLow (needs_from positions before rest)
  needs_behind before [] all = All-nil IsLow
  needs_behind before (e ∷ rest) all =
      All-append IsLow (need_list (first_difference positions (before ++ e ∷ rest) (before ++ rest))) (needs_from positions (before ++ e ∷ []) rest)
      (need_behind (λ x. not (break_alike_at (before ++ e ∷ rest) (before ++ rest) x)) positions all) (needs_behind (before ++ e ∷ []) rest all)

  one_need : (o : Option PositionInReach) (more : List Need) (n : ℕ) → (o ≡ None → ⊥) → length more ≡ n → length (need_list o ++ more) ≡ suc n
  one_need None more n some many = absurd (some refl)
  one_need (Some x) more n some many = ap suc many

  pub needs_many : (P before rest : Patterns) → break_alike positions P (before ++ rest) ≡ true → NoneGoes positions P before rest → length (needs_from positions before rest) ≡ length rest
  needs_many P before [] alike none = refl
  needs_many P before (e ∷ rest) alike none =
      one_need (first_difference positions (before ++ e ∷ rest) (before ++ rest)) (needs_from positions (before ++ e ∷ []) rest) (length rest)
      (λ is. let goes = alike_over positions P (before ++ e ∷ rest) (before ++ rest) alike (alike_where_none (before ++ e ∷ rest) (before ++ rest) positions is) in
      let stays : break_alike positions P (before ++ rest) ≡ false = none [] e rest refl in absurd (cc))
      (needs_many P (before ++ e ∷ []) rest (subst (λ (R : Patterns). break_alike positions P R ≡ true) (sym (regrouped before e rest)) alike)
      (λ b f behind is. subst (λ (R : Patterns). break_alike positions P R ≡ false) (sym (regrouped before e (b ++ behind))) (none (e ∷ b) f behind (ap (λ (r : Patterns). e ∷ r) is))))
