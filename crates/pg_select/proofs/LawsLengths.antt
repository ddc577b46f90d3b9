-- From a length to the next.
use Rattle.std.proofs.Common.{◌≡◌, ℕ, ◌+◌, ◌-◌, ◌<◌, ◌≤◌, nat_le, Bool, true, false, not, ◌&&◌, ◌||◌, ⊎_elim, List, [], ◌∷◌, length, refl, ◌∙◌, arith}
use Rattle.std.specs.List.{list_any, list_all}
use Rattle.std.proofs.lemmas.Bool.{and_parts, and_from, le-leb, leb-true, or_left, or_right, or_cases, cases_lt}
use Rattle.pg_patterns.specs.Values.{Patterns, stands_at, applies}
use Rattle.pg_select.specs.Windows.{Hopeless, window, fits, is_covered}
use Rattle.pg_select.proofs.LawsLonger.{stands_wider}
use Rattle.pg_select.specs.Inside.laws.Steps.{CoversUpTo, IsBelow}
use Rattle.std.specs.Cmp.{both_ways}

-- what a window that fits has: its place, and its length
abbrev pub from : ℕ → ℕ → ℕ
from p d = p - d

pub fits_parts : (w : List ℕ) (p len d : ℕ) → fits w p len d ≡ true → (d ≤ p) × (p - d + len ≤ length w)
fits_parts w p len d fit = let parts = and_parts (nat_le d p) (nat_le (p - d + len) (length w)) fit in (leb-true d p parts.0, leb-true (p - d + len) (length w) parts.1)

pub fits_from : (w : List ℕ) (p len d : ℕ) → d ≤ p → p - d + len ≤ length w → fits w p len d ≡ true
fits_from w p len d low wide = and_from (nat_le d p) (nat_le (p - d + len) (length w)) (le-leb d p low) (le-leb (p - d + len) (length w) wide)

module _ (w : List ℕ) (p len d : ℕ) (fit : fits w p (len + 1) d ≡ true) where
  wide : (d ≤ p) × (p - d + (len + 1) ≤ length w)
  wide = fits_parts w p (len + 1) d fit

  -- what stands in a shorter window stands in the longer
  pub from_behind : (k : List ℕ × ℕ) → applies (window w p len d) d k ≡ true → applies (window w p (len + 1) d) d k ≡ true
  from_behind k is =
      let sizes : (d ≤ p) × (p - d + (len + 1) ≤ length w) = wide in
      let tests = and_parts (nat_le k.1 d) (stands_at k.0 (window w p len d) (d - k.1)) is in
      and_from (nat_le k.1 d) (stands_at k.0 (window w p (len + 1) d) (d - k.1)) tests.0
      (stands_wider k.0 w (p - d) len (d - k.1) (p - d) (len + 1) (d - k.1) (omega arith) sizes.1 refl (λ inside. omega arith) tests.1)

  pub from_before : (k : List ℕ × ℕ) → 1 ≤ d → applies (window w p len (d - 1)) (d - 1) k ≡ true → applies (window w p (len + 1) d) d k ≡ true
  from_before k one is =
      let sizes : (d ≤ p) × (p - d + (len + 1) ≤ length w) = wide in
      let tests = and_parts (nat_le k.1 (d - 1)) (stands_at k.0 (window w p len (d - 1)) (d - 1 - k.1)) is in
      let inner : k.1 ≤ d - 1 = leb-true k.1 (d - 1) tests.0 in
      let place : p - (d - 1) + (d - 1 - k.1) ≡ p - d + (d - k.1) = omega arith in
      and_from (nat_le k.1 d) (stands_at k.0 (window w p (len + 1) d) (d - k.1)) (le-leb k.1 d (omega arith))
      (stands_wider k.0 w (p - (d - 1)) len (d - 1 - k.1) (p - d) (len + 1) (d - k.1) (omega arith) sizes.1 place (λ inside. omega arith) tests.1)

  -- and what stands in the longer and is no longer than the shorter stands in one of these
  in_shorter : (k : List ℕ × ℕ) → length k.0 ≤ len → applies (window w p (len + 1) d) d k ≡ true → (applies (window w p len d) d k || (nat_le 1 d && applies (window w p len (d - 1)) (d - 1) k)) ≡ true
  in_shorter k short is =
      let sizes : (d ≤ p) × (p - d + (len + 1) ≤ length w) = wide in
      let tests = and_parts (nat_le k.1 d) (stands_at k.0 (window w p (len + 1) d) (d - k.1)) is in
      let inner : k.1 ≤ d = leb-true k.1 d tests.0 in
      ⊎_elim
      (λ (before : d - k.1 + length k.0 < len + 1).
      or_left (applies (window w p len d) d k) (nat_le 1 d && applies (window w p len (d - 1)) (d - 1) k)
      (and_from (nat_le k.1 d) (stands_at k.0 (window w p len d) (d - k.1)) tests.0
      (stands_wider k.0 w (p - d) (len + 1) (d - k.1) (p - d) len (d - k.1) sizes.1 (omega arith) refl (λ inside. omega arith) tests.1)))
      (λ (after : len + 1 ≤ d - k.1 + length k.0).
      let place : p - d + (d - k.1) ≡ p - (d - 1) + (d - 1 - k.1) = omega arith in
      or_right (applies (window w p len d) d k) (nat_le 1 d && applies (window w p len (d - 1)) (d - 1) k)
      (and_from (nat_le 1 d) (applies (window w p len (d - 1)) (d - 1) k) (le-leb 1 d (omega arith))
      (and_from (nat_le k.1 (d - 1)) (stands_at k.0 (window w p len (d - 1)) (d - 1 - k.1)) (le-leb k.1 (d - 1) (omega arith))
      (stands_wider k.0 w (p - d) (len + 1) (d - k.1) (p - (d - 1)) len (d - 1 - k.1) sizes.1 (omega arith) place (λ inside. omega arith) tests.1))))
      (cases_lt (d - k.1 + length k.0) (len + 1))

  applies_split : (k : List ℕ × ℕ) → length k.0 ≤ len → applies (window w p (len + 1) d) d k ≡ (applies (window w p len d) d k || (nat_le 1 d && applies (window w p len (d - 1)) (d - 1) k))
  applies_split k short =
      both_ways (applies (window w p (len + 1) d) d k) (applies (window w p len d) d k || (nat_le 1 d && applies (window w p len (d - 1)) (d - 1) k))
      (λ is. in_shorter k short is)
      (λ is. ⊎_elim
      (λ (behind : applies (window w p len d) d k ≡ true). from_behind k behind)
      (λ (before : (nat_le 1 d && applies (window w p len (d - 1)) (d - 1) k) ≡ true).
      let parts = and_parts (nat_le 1 d) (applies (window w p len (d - 1)) (d - 1) k) before in
      from_before k (leb-true 1 d parts.0) parts.1)
      (or_cases (applies (window w p len d) d k) (nat_le 1 d && applies (window w p len (d - 1)) (d - 1) k) is))

-- a test of some element that is one or another
any_split : {X : Type 0} (limit f g h : X → Bool) (b : Bool) → ((x : X) → limit x ≡ true → f x ≡ (g x || (b && h x))) → (xs : List X) → list_all limit xs
    ≡ true → list_any f xs ≡ (list_any g xs || (b && list_any h xs))
any_split limit f g h b each [] all = none b
  where
    none : (b : Bool) → false ≡ (false || (b && false))
    none true = refl
    none false = refl
any_split limit f g h b each (x ∷ xs) all =
    let parts = and_parts (limit x) (list_all limit xs) all in
    (λ i. each x parts.0 i || any_split limit f g h b each xs parts.1 i) ∙ grouped b (g x) (h x) (list_any g xs) (list_any h xs)
  where
    grouped : (b p q r s : Bool) → ((p || (b && q)) || (r || (b && s))) ≡ ((p || r) || (b && (q || s)))
    grouped b true q r s = refl
    grouped true false true true s = refl
    grouped true false true false s = refl
    grouped true false false r s = refl
    grouped false false q true s = refl
    grouped false false q false s = refl

-- the length step
pub length_step : (level len : ℕ) (P : Patterns) (H : Hopeless) (w : List ℕ) (p d : ℕ) → CoversUpTo level len P H → fits w p (len + 1) d ≡ true
    → is_covered level P H (window w p (len + 1) d) d ≡ (is_covered level P H (window w p len d) d || (nat_le 1 d && is_covered level P H (window w p len (d - 1)) (d - 1)))
length_step level len P H w p d short fit =
    (λ i. patterns i || places i)
    ∙ grouped (nat_le 1 d)
    (list_any (λ (e : (List ℕ × ℕ) × ℕ). nat_le level e.1 && applies (window w p len d) d e.0) P)
    (list_any (λ (e : (List ℕ × ℕ) × ℕ). nat_le level e.1 && applies (window w p len (d - 1)) (d - 1) e.0) P)
    (list_any (λ (e : (List ℕ × ℕ) × Unit {0}). applies (window w p len d) d e.0) H)
    (list_any (λ (e : (List ℕ × ℕ) × Unit {0}). applies (window w p len (d - 1)) (d - 1) e.0) H)
  where
    grouped : (b p q r s : Bool) → ((p || (b && q)) || (r || (b && s))) ≡ ((p || r) || (b && (q || s)))
    grouped b true q r s = refl
    grouped true false true true s = refl
    grouped true false true false s = refl
    grouped true false false r s = refl
    grouped false false q true s = refl
    grouped false false q false s = refl

    with_level : (a l x y z b : Bool) → (not a || l) ≡ true → (l ≡ true → x ≡ (y || (b && z))) → (a && x) ≡ ((a && y) || (b && (a && z)))
    with_level true l x y z b limit is = is limit
    with_level false l x y z true limit is = refl
    with_level false l x y z false limit is = refl

    patterns : list_any (λ (e : (List ℕ × ℕ) × ℕ). nat_le level e.1 && applies (window w p (len + 1) d) d e.0) P
        ≡ (list_any (λ (e : (List ℕ × ℕ) × ℕ). nat_le level e.1 && applies (window w p len d) d e.0) P
        || (nat_le 1 d && list_any (λ (e : (List ℕ × ℕ) × ℕ). nat_le level e.1 && applies (window w p len (d - 1)) (d - 1) e.0) P))
    patterns =
        any_split (λ (e : (List ℕ × ℕ) × ℕ). not (nat_le level e.1) || nat_le (length e.0.0) len) (λ (e : (List ℕ × ℕ) × ℕ). nat_le level e.1 && applies (window w p (len + 1) d) d e.0)
        (λ (e : (List ℕ × ℕ) × ℕ). nat_le level e.1 && applies (window w p len d) d e.0) (λ (e : (List ℕ × ℕ) × ℕ). nat_le level e.1 && applies (window w p len (d - 1)) (d - 1) e.0) (nat_le 1 d)
        (λ e limit. with_level (nat_le level e.1) (nat_le (length e.0.0) len) (applies (window w p (len + 1) d) d e.0) (applies (window w p len d) d e.0)
        (applies (window w p len (d - 1)) (d - 1) e.0) (nat_le 1 d) limit
        (λ upto. applies_split w p len d fit e.0 (leb-true (length e.0.0) len upto)))
        P short.patterns

    places : list_any (λ (e : (List ℕ × ℕ) × Unit {0}). applies (window w p (len + 1) d) d e.0) H
        ≡ (list_any (λ (e : (List ℕ × ℕ) × Unit {0}). applies (window w p len d) d e.0) H || (nat_le 1 d && list_any (λ (e : (List ℕ × ℕ) × Unit {0}). applies (window w p len (d - 1)) (d - 1) e.0) H))
    places =
        any_split (λ (e : (List ℕ × ℕ) × Unit {0}). nat_le (length e.0.0) len) (λ (e : (List ℕ × ℕ) × Unit {0}). applies (window w p (len + 1) d) d e.0)
        (λ (e : (List ℕ × ℕ) × Unit {0}). applies (window w p len d) d e.0) (λ (e : (List ℕ × ℕ) × Unit {0}). applies (window w p len (d - 1)) (d - 1) e.0) (nat_le 1 d)
        (λ e upto. applies_split w p len d fit e.0 (leb-true (length e.0.0) len upto))
        H short.hopeless

-- at a level's start nothing is covered
pub nothing_covered : (level : ℕ) (P : Patterns) (u : List ℕ) (d : ℕ) → IsBelow level P → is_covered level P [] u d ≡ false
nothing_covered level [] u d all = refl
nothing_covered level (e ∷ es) u d all =
    let parts = and_parts (not (nat_le level e.1)) (list_all (λ (x : (List ℕ × ℕ) × ℕ). not (nat_le level x.1)) es) all in
    (λ i. ((lower (nat_le level e.1) parts.0 i && applies u d e.0) || list_any (λ (x : (List ℕ × ℕ) × ℕ). nat_le level x.1 && applies u d x.0) es) || false) ∙ nothing_covered level es u d parts.1
  where
    lower : (b : Bool) → not b ≡ true → b ≡ false
    lower true is = cc
    lower false is = refl
