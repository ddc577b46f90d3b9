-- Tests of names and numbers, and what they choose.
use Rattle.std.proofs.Common.{◌≡◌, ◌≢◌, ℕ, List, Bool, true, false, cond, nat_eq, Decides, Option, Some, None, refl, sym, arith}
use Rattle.std.specs.Str.{bytes_eq}
use Rattle.std.proofs.lemmas.Bool.{false≢true}
use Rattle.std.proofs.lemmas.Bool.Decides.{nat_tests}
use Rattle.std.proofs.lemmas.Slice.Eq.{bytes_eq-Decides}

-- the test of two names says yes where they are equal
pub eq_yes : (p q : List ℕ) → p ≡ q → bytes_eq p q ≡ true
eq_yes p q e = (bytes_eq-Decides p q).1 e

-- the test of two names says no where they differ
pub eq_no : (p q : List ℕ) → (p ≡ q → ⊥) → bytes_eq p q ≡ false
eq_no p q apart = by_test (bytes_eq p q) (bytes_eq-Decides p q)
  where
    by_test : (r : Bool) → Decides r (p ≡ q) → r ≡ false
    by_test true d = absurd (apart (d.0 refl))
    by_test false d = refl

-- the test of two numbers says no where they differ
pub number_no : (m n : ℕ) → m ≢ n → nat_eq m n ≡ false
number_no m n apart = grind (arith, nat_tests)

-- a choice gives the first where its test says yes
pub cond_yes : {A : Type 0} (b : Bool) (x y : A) → b ≡ true → cond b x y ≡ x
cond_yes true x y e = refl
cond_yes false x y e = absurd (false≢true e)

-- a choice gives the second where its test says no
pub cond_no : {A : Type 0} (b : Bool) (x y : A) → b ≡ false → cond b x y ≡ y
cond_no true x y e = absurd (false≢true (sym e))
cond_no false x y e = refl

-- a choice between two that are the same gives this one
pub cond_same : {A : Type 0} (b : Bool) (x : A) → cond b x x ≡ x
cond_same true x = refl
cond_same false x = refl

-- an option that holds a number is not empty
pub none_some : (n : ℕ) → None ≡ Some n → ⊥
none_some n e = cc

-- two numbers are equal where the options that hold them are
pub some_same : (m n : ℕ) → Some m ≡ Some n → m ≡ n
some_same m n e = cc

-- what follows where either option holds n follows where the chosen one does
pub of_cond : (b : Bool) (n : ℕ) (p o : Option ℕ) (P : Type 0)
    → cond b p o ≡ Some n → (p ≡ Some n → P) → (o ≡ Some n → P) → P
of_cond true n p o P is f g = f is
of_cond false n p o P is f g = g is
