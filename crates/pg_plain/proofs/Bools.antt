-- Tests, and lists whose elements pass them.
use Rattle.std.proofs.Common.{◌≡◌, Bool, true, false, cond, not, ◌&&◌, ◌||◌, List, [], ◌∷◌, sym, refl, ap, ◌∙◌}
use Rattle.std.specs.List.{filter, list_all, list_any}
use Rattle.pg_types.proofs.BoolFacts.{and_first, and_second, no_test}
use Rattle.std.proofs.lemmas.Bool.{and_from, or_left, or_right, or_from, not_from_false}

module _ {X : Type 0} where
  -- a test that each element fails
  pub any_none : (good test : X → Bool) (xs : List X) → list_all good xs ≡ true → ((x : X) → good x ≡ true → test x ≡ false) → list_any test xs ≡ false
  any_none good test [] all none = refl
  any_none good test (x ∷ xs) all none =
      or_from _ _ (none x (and_first _ _ all)) (any_none good test xs (and_second _ _ all) none)

  -- what no element passes, each fails
  pub all_not : (test : X → Bool) (xs : List X) → list_any test xs ≡ false → list_all (λ x. not (test x)) xs ≡ true
  all_not test [] none = refl
  all_not test (x ∷ xs) none =
      let here : test x ≡ false = no_test (test x) (λ p. sym none ∙ or_left _ _ p) in
      let rest : list_any test xs ≡ false = no_test (list_any test xs) (λ p. sym none ∙ or_right (test x) _ p) in
      and_from _ _ (not_from_false _ here) (all_not test xs rest)

  pub all_both : (s t : X → Bool) (xs : List X) → list_all s xs ≡ true → list_all t xs ≡ true → list_all (λ x. s x && t x) xs ≡ true
  all_both s t [] p q = refl
  all_both s t (x ∷ xs) p q =
      and_from (s x && t x) (list_all (λ x. s x && t x) xs) (and_from (s x) (t x) (and_first (s x) (list_all s xs) p) (and_first (t x) (list_all t xs) q))
      (all_both s t xs (and_second (s x) (list_all s xs) p) (and_second (t x) (list_all t xs) q))

  -- a filter keeps what passes it
  pub all_filter : (keep : X → Bool) (xs : List X) → list_all keep (filter keep xs) ≡ true
  all_filter keep [] = refl
  all_filter keep (x ∷ xs) =
      elim (keep x) as (λ b. keep x ≡ b → list_all keep (cond b (x ∷ filter keep xs) (filter keep xs)) ≡ true) [
        | true ↦ λ is. and_from _ _ is (all_filter keep xs)
        | false ↦ λ is. all_filter keep xs
      ] refl

  pub any_filter : (test keep : X → Bool) (xs : List X) → ((x : X) → test x ≡ true → keep x ≡ true) → list_any test (filter keep xs) ≡ list_any test xs
  any_filter test keep [] kept = refl
  any_filter test keep (x ∷ xs) kept =
      elim (keep x) as (λ b. keep x ≡ b → list_any test (cond b (x ∷ filter keep xs) (filter keep xs)) ≡ (test x || list_any test xs)) [
        | true ↦ λ is. ap (λ r. test x || r) (any_filter test keep xs kept)
        | false ↦ λ is.
            let fails : test x ≡ false = no_test (test x) (λ p. sym is ∙ kept x p) in
            any_filter test keep xs kept ∙ ap (λ b. b || list_any test xs) (sym fails)
      ] refl
