-- The greatest number of entries, as the tests change.
use Rattle.std.proofs.Common.{◌≡◌, ℕ, ◌+◌, ◌<◌, Bool, true, false, cond, ◌&&◌, ◌||◌, List, [], ◌∷◌, max, nat_eq, sym, refl, ap, ◌∙◌, arith}
use Rattle.std.specs.List.{filter, list_all}
use Rattle.std.specs.Cmp.Lexicographic.{pointwise}
use Rattle.pg_types.specs.declared.limits.TheConstants.{WORD_LETTERS_MAX}
use Rattle.pg_select.specs.Inside.words.Positions.{RaisesAt}
use Rattle.pg_plain.specs.Inside.Greatest.{greatest_by, RaisesBy}
use Rattle.pg_plain.specs.Inside.Walks.{has_signs_at}
use Rattle.pg_types.proofs.BoolFacts.{and_first, and_second, no_test}

joined_number : (a b : Bool) (n x y : ℕ) → max (cond (a || b) n 0) (max x y) ≡ max (max (cond a n 0) x) (max (cond b n 0) y)
joined_number true true n x y = omega arith
joined_number true false n x y = omega arith
joined_number false true n x y = omega arith
joined_number false false n x y = omega arith

zero_max : (n : ℕ) → n ≡ 0 → max 0 n ≡ 0
zero_max n e = omega arith

max_zero : (n : ℕ) → n ≡ max 0 n
max_zero n = omega arith

regroup : (a b c d e f : ℕ) → b ≡ max a c → d ≡ max c e → max a d ≡ f → max b e ≡ f
regroup a b c d e f p q r = omega arith

regroup_end : (a c f : ℕ) → c ≡ 0 → max a c ≡ f → a ≡ f
regroup_end a c f p q = omega arith

module _ {X : Type 0} (number : (List ℕ × ℕ) × X → ℕ) where
  pub greatest-split : (good r s t : List ℕ × ℕ → Bool) (es : List ((List ℕ × ℕ) × X)) → list_all (λ e. good e.0) es ≡ true
      → ((k : List ℕ × ℕ) → good k ≡ true → r k ≡ (s k || t k)) → greatest_by number r es ≡ max (greatest_by number s es) (greatest_by number t es)
  greatest-split good r s t [] all split = refl
  greatest-split good r s t (e ∷ es) all split =
      ap (λ b. max (cond b (number e) 0) (greatest_by number r es)) (split e.0 (and_first _ _ all))
      ∙ ap (λ n. max (cond (s e.0 || t e.0) (number e) 0) n) (greatest-split good r s t es (and_second _ _ all) split)
      ∙ joined_number (s e.0) (t e.0) (number e) (greatest_by number s es) (greatest_by number t es)

  pub greatest-none : (good t : List ℕ × ℕ → Bool) (es : List ((List ℕ × ℕ) × X)) → list_all (λ e. good e.0) es ≡ true → ((k : List ℕ × ℕ) → good k ≡ true → t k ≡ false) → greatest_by number t es ≡ 0
  greatest-none good t [] all none = refl
  greatest-none good t (e ∷ es) all none =
      ap (λ b. max (cond b (number e) 0) (greatest_by number t es)) (none e.0 (and_first _ _ all))
      ∙ zero_max (greatest_by number t es) (greatest-none good t es (and_second _ _ all) none)

  pub greatest-same : (good s t : List ℕ × ℕ → Bool) (es : List ((List ℕ × ℕ) × X)) → list_all (λ e. good e.0) es ≡ true → ((k : List ℕ × ℕ) → good k ≡ true → s k ≡ t k)
      → greatest_by number s es ≡ greatest_by number t es
  greatest-same good s t [] all same = refl
  greatest-same good s t (e ∷ es) all same =
      ap (λ b. max (cond b (number e) 0) (greatest_by number s es)) (same e.0 (and_first _ _ all))
      ∙ ap (λ n. max (cond (t e.0) (number e) 0) n) (greatest-same good s t es (and_second _ _ all) same)

  pub greatest-filter : (t : List ℕ × ℕ → Bool) (keep : (List ℕ × ℕ) × X → Bool) (es : List ((List ℕ × ℕ) × X)) → ((e : (List ℕ × ℕ) × X) → t e.0 ≡ true → keep e ≡ true)
      → greatest_by number t (filter keep es) ≡ greatest_by number t es
  greatest-filter t keep [] kept = refl
  greatest-filter t keep (e ∷ es) kept =
      elim (keep e) as (λ b. keep e ≡ b → greatest_by number t (cond b (e ∷ filter keep es) (filter keep es)) ≡ max (cond (t e.0) (number e) 0) (greatest_by number t es)) [
        | true ↦ λ is. ap (λ n. max (cond (t e.0) (number e) 0) n) (greatest-filter t keep es kept)
        | false ↦ λ is.
            let fails : t e.0 ≡ false = no_test (t e.0) (λ p. sym is ∙ kept e p) in
            greatest-filter t keep es kept ∙ max_zero (greatest_by number t es) ∙ ap (λ b. max (cond b (number e) 0) (greatest_by number t es)) (sym fails)
      ] refl

  -- what is reached now, with the entries that are left, is what was there before, with all entries
  abbrev pub Level : (ℕ → ℕ) → (ℕ → List ℕ × ℕ → Bool) → List ((List ℕ × ℕ) × X) → (ℕ → ℕ) → (ℕ → List ℕ × ℕ → Bool) → List ((List ℕ × ℕ) × X) → Type 0
  Level now left rest before all es = (p : ℕ) → p < WORD_LETTERS_MAX + 2 → max (now p) (greatest_by number (left p) rest) ≡ max (before p) (greatest_by number (all p) es)

  -- some of what is left is met
  pub level_step : (good : List ℕ × ℕ → Bool) (left part more all : ℕ → List ℕ × ℕ → Bool) (rest es : List ((List ℕ × ℕ) × X)) (now new before : ℕ → ℕ) → list_all (λ e. good e.0) rest ≡ true
      → ((p : ℕ) (k : List ℕ × ℕ) → good k ≡ true → left p k ≡ (part p k || more p k)) → Level now left rest before all es → RaisesBy number part rest now new → Level new more rest before all es
  level_step good left part more all rest es now new before sound split level raises p inside =
      regroup (now p) (new p) (greatest_by number (part p) rest) (greatest_by number (left p) rest) (greatest_by number (more p) rest) (max (before p) (greatest_by number (all p) es))
      (raises p inside) (greatest-split good (left p) (part p) (more p) rest sound (split p)) (level p inside)

  -- nothing is left
  pub level_end : (good : List ℕ × ℕ → Bool) (left all : ℕ → List ℕ × ℕ → Bool) (rest es : List ((List ℕ × ℕ) × X)) (now before : ℕ → ℕ) → list_all (λ e. good e.0) rest ≡ true
      → ((p : ℕ) (k : List ℕ × ℕ) → good k ≡ true → left p k ≡ false) → Level now left rest before all es → RaisesBy number all es before now
  level_end good left all rest es now before sound none level p inside =
      regroup_end (now p) (greatest_by number (left p) rest) (max (before p) (greatest_by number (all p) es)) (greatest-none good (left p) rest sound (none p)) (level p inside)

  -- all is left
  pub level_start : (good : List ℕ × ℕ → Bool) (left all : ℕ → List ℕ × ℕ → Bool) (es : List ((List ℕ × ℕ) × X)) (before : ℕ → ℕ) → list_all (λ e. good e.0) es ≡ true
      → ((p : ℕ) (k : List ℕ × ℕ) → good k ≡ true → left p k ≡ all p k) → Level before left es before all es
  level_start good left all es before sound same p inside =
      ap (λ n. max (before p) n) (greatest-same good (left p) (all p) es sound (same p))

  -- the first of the entries that are left is met
  pub level_first : (q : List ℕ) (i : ℕ) (all : ℕ → List ℕ × ℕ → Bool) (e : (List ℕ × ℕ) × X) (rest es : List ((List ℕ × ℕ) × X)) (now new before : ℕ → ℕ) → pointwise nat_eq e.0.0 q ≡ true
      → Level now (has_signs_at q i) (e ∷ rest) before all es → RaisesAt (i + e.0.1) (number e) now new → Level new (has_signs_at q i) rest before all es
  level_first q i all e rest es now new before same level raises p inside =
      let here : cond (has_signs_at q i p e.0) (number e) 0 ≡ cond (nat_eq (i + e.0.1) p) (number e) 0 = ap (λ b. cond (b && nat_eq (i + e.0.1) p) (number e) 0) same in
      regroup (now p) (new p) (cond (nat_eq (i + e.0.1) p) (number e) 0) (max (cond (has_signs_at q i p e.0) (number e) 0) (greatest_by number (has_signs_at q i p) rest))
      (greatest_by number (has_signs_at q i p) rest) (max (before p) (greatest_by number (all p) es))
      (raises p inside) (ap (λ n. max n (greatest_by number (has_signs_at q i p) rest)) here) (level p inside)
