-- What a floor says of strings by their first sign.
use Rattle.std.proofs.Common.{◌≡◌, ℕ, ◌<◌, ◌≤◌, Bool, true, false, cond, nat_eq, nat_lt, List, [], ◌∷◌, length, refl, ◌∙◌, ap, arith}
use Rattle.std.proofs.lemmas.Bool.{eqb-true}
use Rattle.std.proofs.lemmas.Bool.Decides.{nat_tests}
use Rattle.std.specs.declared.cmp.Ordering.TheVariants.{Less, Equal, Greater}
use Rattle.std.specs.Ordering.{nat_cmp, ordering_then, is_lt}
use Rattle.pg_cells.proofs.StringMaps.{order}
use Rattle.pg_count.specs.Inside.Floors.{first_sign, rest_after, is_past}

pub nat_less : (a b : ℕ) → a < b → nat_cmp a b ≡ Less
nat_less a b lt = grind (arith, nat_tests)

pub nat_greater : (a b : ℕ) → b < a → nat_cmp a b ≡ Greater
nat_greater a b lt = grind (arith, nat_tests)

pub nat_equal : (a b : ℕ) → a ≡ b → nat_cmp a b ≡ Equal
nat_equal a b same = grind (arith, nat_tests)

-- a sign below the first makes the string less
pub below_first : (floor : List ℕ) (s : ℕ) (q : List ℕ) → 1 ≤ s → s < first_sign floor → order floor (s ∷ q) ≡ Greater
below_first [] s q some lt = absurd (omega arith)
below_first (b ∷ bs) s q some lt = ap (λ o. ordering_then o (order bs q)) (nat_greater b s (omega arith))

-- behind the sign the rest of the floor decides
pub rest_decides : (floor : List ℕ) (s : ℕ) (q : List ℕ) → first_sign floor ≤ s → 0 < length q → order floor (s ∷ q) ≡ order (rest_after floor s) q
rest_decides [] s [] from some = absurd (omega arith)
rest_decides [] s (x ∷ q) from some = refl
rest_decides (b ∷ bs) s [] from some = absurd (omega arith)
rest_decides (b ∷ bs) s (x ∷ q) from some = by (nat_eq b s) refl
  where
    by : (t : Bool) → nat_eq b s ≡ t → order (b ∷ bs) (s ∷ x ∷ q) ≡ order (cond t bs []) (x ∷ q)
    by true is = ap (λ o. ordering_then o (order bs (x ∷ q))) (nat_equal b s (eqb-true b s is))
    by false is = ap (λ o. ordering_then o (order bs (x ∷ q))) (nat_less b s (grind (arith, nat_tests)))

-- a string is not below the empty one
none_below : (q : List ℕ) → is_lt (order q []) ≡ false
none_below [] = refl
none_below (x ∷ q) = refl

past_head : (b : ℕ) (bs : List ℕ) (s : ℕ) → is_lt (order (b ∷ bs) (s ∷ [])) ≡ nat_lt b s
past_head b bs s = by (nat_lt b s) refl
  where
    at : (t : Bool) → nat_lt b s ≡ false → nat_eq b s ≡ t → is_lt (order (b ∷ bs) (s ∷ [])) ≡ false
    at true is same = ap (λ o. is_lt (ordering_then o (order bs []))) (nat_equal b s (eqb-true b s same)) ∙ none_below bs
    at false is other = ap (λ o. is_lt (ordering_then o (order bs []))) (nat_greater b s (grind (arith, nat_tests)))

    by : (t : Bool) → nat_lt b s ≡ t → is_lt (order (b ∷ bs) (s ∷ [])) ≡ t
    by true is = ap (λ o. is_lt (ordering_then o (order bs []))) (nat_less b s (grind (arith, nat_tests)))
    by false is = at (nat_eq b s) is refl

-- the last sign is above the floor
pub past_is : (floor : List ℕ) (s : ℕ) → is_lt (order floor (s ∷ [])) ≡ is_past floor s
past_is [] s = refl
past_is (b ∷ bs) s = past_head b bs s
