-- What is told, over several calls.
use Rattle.std.proofs.Common.{◌≡◌, ℕ, ◌≤◌, Option, None, Some, refl, subst, arith}
use Rattle.pg_outside.specs.Faults.{Rose}
use Rattle.pg_outside.specs.Content.{Told}

module _ {X : Type 0} where
  pub told_same : (h : Option X) → Told h h (λ before after. after ≡ before)
  told_same None = tt
  told_same (Some x) = refl

  pub told_on : (h0 h1 h2 : Option X) (P Q R : X → X → Type 0) → ((x y z : X) → P x y → Q y z → R x z) → Told h0 h1 P → Told h1 h2 Q → Told h0 h2 R
  told_on h0 h1 None P Q R f p q = tt
  told_on h0 None (Some z) P Q R f p q = absurd q
  told_on None (Some y) (Some z) P Q R f p q = absurd p
  told_on (Some x) (Some y) (Some z) P Q R f p q = f x y z p q

  pub told_as : (h0 h1 : Option X) (P Q : X → X → Type 0) → ((x y : X) → P x y → Q x y) → Told h0 h1 P → Told h0 h1 Q
  told_as h0 None P Q f p = tt
  told_as None (Some y) P Q f p = absurd p
  told_as (Some x) (Some y) P Q f p = f x y p

-- what is told before, where this is told after
pub told_some : {X : Type 0} (h0 h1 : Option X) (P : X → X → Type 0) (x y : X) → h0 ≡ Some x → h1 ≡ Some y → Told h0 h1 P → P x y
told_some h0 h1 P x y e0 e1 told = subst (λ (h : Option _). Told h (Some y) P) e0 (subst (λ (h : Option _). Told h0 h P) e1 told)

pub was_told : {X : Type 0} (h0 h1 : Option X) (P : X → X → Type 0) (y : X) → h1 ≡ Some y → Told h0 h1 P → (x : X) × (h0 ≡ Some x)
was_told None h1 P y e told = absurd (subst (λ (h : Option _). Told None h P) e told)
was_told (Some x) h1 P y e told = (x, refl)

-- a count that rose later rose
pub rose_later : (a b c : ℕ) → a ≤ b → Rose b c → Rose a c
rose_later a b c le rose = omega arith

pub rose_before : (a b c : ℕ) → Rose a b → b ≤ c → Rose a c
rose_before a b c rose le = omega arith
