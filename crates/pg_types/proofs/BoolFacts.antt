-- Small facts of tests and orderings, for the crates above. What std has of them is std's.
use Rattle.std.proofs.Common.{◌≡◌, Bool, true, false, ◌&&◌, T, List, [], ◌∷◌, Some, sym, refl, subst}
use Rattle.std.proofs.lemmas.Bool.{and_parts, and_from}
use Rattle.std.specs.List.{list_all}
use Rattle.std.specs.declared.cmp.Ordering.{Ordering}
use Rattle.std.specs.declared.cmp.Ordering.TheVariants.{Less, Equal, Greater}
use Rattle.std.specs.Ordering.{is_lt, is_eq, is_gt}

pub is_true : (b : Bool) → T b → b ≡ true
is_true true t = refl
is_true false t = absurd t

pub holds : (b : Bool) → b ≡ true → T b
holds b e = subst T (sym e) tt

-- the halves of std's `and_parts`, each by itself
pub and_first : (a b : Bool) → (a && b) ≡ true → a ≡ true
and_first a b e = (and_parts a b e).0

pub and_second : (a b : Bool) → (a && b) ≡ true → b ≡ true
and_second a b e = (and_parts a b e).1

pub both_halves : (a b : Bool) → T a → T b → T (a && b)
both_halves true b p q = q
both_halves false b p q = p

pub first_half : (a b : Bool) → T (a && b) → T a
first_half true b p = tt
first_half false b p = p

pub second_half : (a b : Bool) → T (a && b) → T b
second_half true b p = p
second_half false b p = absurd p

-- a test that cannot hold fails
pub no_test : (a : Bool) → (a ≡ true → false ≡ true) → a ≡ false
no_test true p = sym (p refl)
no_test false p = refl

pub less_is : (r : Ordering) → is_lt r ≡ true → r ≡ Less
less_is Less e = refl
less_is Equal e = cc
less_is Greater e = cc

pub less_from : (r : Ordering) → T (is_lt r) → r ≡ Less
less_from r t = less_is r (is_true (is_lt r) t)

pub greater_is : (r : Ordering) → is_gt r ≡ true → r ≡ Greater
greater_is Less e = cc
greater_is Equal e = cc
greater_is Greater e = refl

pub equal_is : (r : Ordering) → is_eq r ≡ true → r ≡ Equal
equal_is Less e = cc
equal_is Equal e = refl
equal_is Greater e = cc

pub less_left : (r : Ordering) → is_gt r ≡ false → is_eq r ≡ false → r ≡ Less
less_left Less g e = refl
less_left Equal g e = cc
less_left Greater g e = cc

pub some_is : {X : Type 0} (a b : X) → Some a ≡ Some b → a ≡ b
some_is a b e = cc

-- elements that pass a test pass a weaker one
pub all_weaker : {X : Type 0} (s t : X → Bool) (xs : List X) → ((x : X) → s x ≡ true → t x ≡ true) → list_all s xs ≡ true → list_all t xs ≡ true
all_weaker s t [] weaker p = refl
all_weaker s t (x ∷ xs) weaker p = and_from (t x) (list_all t xs) (weaker x (and_first (s x) (list_all s xs) p)) (all_weaker s t xs weaker (and_second (s x) (list_all s xs) p))
