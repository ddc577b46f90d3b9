-- Texts that begin with others.
use Rattle.std.proofs.Common.{◌≡◌, ℕ, ◌≤◌, true, List, [], ◌∷◌, ◌++◌, length, take, refl, sym, ap₂, ◌∙◌, arith, suc, zero, nat_eq}
use Rattle.std.specs.List.{starts_with}
use Rattle.std.proofs.lemmas.Bool.{and_parts, and_from, eqb-true, eq-eqb}

-- what a text begins with is no longer than it
pub begins_within : (text s : List ℕ) → starts_with nat_eq text s ≡ true → length s ≤ length text
begins_within text [] h = omega arith
begins_within [] (x ∷ xs) h = absurd (cc)
begins_within (b ∷ bs) (x ∷ xs) h =
    let rest : length xs ≤ length bs = begins_within bs xs (and_parts _ _ h).1 in omega arith

-- what a text begins with is its front of that length
pub begins_front : (text s : List ℕ) → starts_with nat_eq text s ≡ true → s ≡ take (length s) text
begins_front text [] h = refl
begins_front [] (x ∷ xs) h = absurd (cc)
begins_front (b ∷ bs) (x ∷ xs) h =
    let same : b ≡ x = sym (eqb-true x b (and_parts _ _ h).0) in
    let rest : xs ≡ take (length xs) bs = begins_front bs xs (and_parts _ _ h).1 in
    ap₂ (λ (y : ℕ) (ys : List ℕ). y ∷ ys) (sym same) rest

-- a text begins with each of its fronts
pub begins-take : (n : ℕ) (text : List ℕ) → starts_with nat_eq text (take n text) ≡ true
begins-take zero text = refl
begins-take (suc n) [] = refl
begins-take (suc n) (b ∷ bs) = and_from _ _ (eq-eqb b b refl) (begins-take n bs)

-- two fronts of a text, the longer begins with the shorter
pub begins_both : (text s t : List ℕ) → starts_with nat_eq text s ≡ true → starts_with nat_eq text t ≡ true → length t ≤ length s → starts_with nat_eq s t ≡ true
begins_both text s [] hs ht few = refl
begins_both text [] (y ∷ ys) hs ht few = absurd (omega arith)
begins_both [] (x ∷ xs) (y ∷ ys) hs ht few = absurd (cc)
begins_both (b ∷ bs) (x ∷ xs) (y ∷ ys) hs ht few =
    let first : b ≡ x = sym (eqb-true x b (and_parts _ _ hs).0) in
    let other : b ≡ y = sym (eqb-true y b (and_parts _ _ ht).0) in
    and_from _ _ (eq-eqb y x (sym other ∙ first)) (begins_both bs xs ys (and_parts _ _ hs).1 (and_parts _ _ ht).1 (omega arith))

-- a front of a text that is at least as long as a number begins with that front
pub begins_take : (n : ℕ) (text s : List ℕ) → starts_with nat_eq text s ≡ true → n ≤ length s → starts_with nat_eq s (take n text) ≡ true
begins_take zero text s h few = refl
begins_take (suc n) text [] h few = absurd (omega arith)
begins_take (suc n) [] (x ∷ xs) h few = absurd (cc)
begins_take (suc n) (b ∷ bs) (x ∷ xs) h few =
    let same : b ≡ x = sym (eqb-true x b (and_parts _ _ h).0) in
    and_from _ _ (eq-eqb b x same) (begins_take n bs xs (and_parts _ _ h).1 (omega arith))

-- what begins with a text begins with each of its fronts
pub begins_less : (n : ℕ) (s text : List ℕ) → starts_with nat_eq s text ≡ true → starts_with nat_eq s (take n text) ≡ true
begins_less zero s text h = refl
begins_less (suc n) s [] h = refl
begins_less (suc n) [] (b ∷ bs) h = absurd (cc)
begins_less (suc n) (x ∷ xs) (b ∷ bs) h = and_from _ _ (and_parts _ _ h).0 (begins_less n xs bs (and_parts _ _ h).1)

-- texts of one length, of which one begins with the other, are equal
pub begins_equal : (s t : List ℕ) → starts_with nat_eq s t ≡ true → length s ≡ length t → t ≡ s
begins_equal [] [] h same = refl
begins_equal [] (y ∷ ys) h same = absurd (cc)
begins_equal (x ∷ xs) [] h same = absurd (omega arith)
begins_equal (x ∷ xs) (y ∷ ys) h same =
    ap₂ (λ (z : ℕ) (zs : List ℕ). z ∷ zs) (eqb-true y x (and_parts _ _ h).0) (begins_equal xs ys (and_parts _ _ h).1 (omega arith))

-- a text with more behind it begins with it
pub begins-append : (text more : List ℕ) → starts_with nat_eq (text ++ more) text ≡ true
begins-append [] more = refl
begins-append (b ∷ bs) more = and_from _ _ (eq-eqb b b refl) (begins-append bs more)
