-- A scan of the plans finds what the map of the listed calls holds.
use Rattle.std.proofs.Common.{◌≡◌, ℕ, List, [], ◌∷◌, map, Option, Some, None, IsSome, refl, ◌∙◌, sym, ap, arith}
use Rattle.std.specs.Prelude.{find, ◌==◌}
use Rattle.std.specs.Option.{option_map}
use Rattle.std.specs.Ordering.{nat_cmp}
use Rattle.std.specs.Cmp.{unsigned_tied, nat_cmp_total}
use Rattle.std.specs.FinMap as fin
use Rattle.std.proofs.lemmas.Grind.{common_steps}
use Rattle.pg_outside.specs.Inside.calls.ListedCalls.{listed_calls, plan_entry}
use Rattle.pg_outside.specs.declared.memory.plans.Plan.{Plan}

kept_found : (plans : List Plan) (number : ℕ) → option_map (λ plan. plan.keep) (find (λ plan. plan.call == number) plans) ≡ fin.find nat_cmp number (map plan_entry plans)
kept_found [] number = refl
kept_found (plan ∷ plans) number = grind (arith, common_steps, kept_found plans number, unsigned_tied number plan.call)

-- what the plan of a call keeps, where it is listed
pub kept_of : (plans : List Plan) (number : ℕ) → option_map (λ plan. plan.keep) (find (λ plan. plan.call == number) plans) ≡ fin.get (listed_calls plans) number
kept_of plans number = kept_found plans number ∙ sym (fin.get-from_entries nat_cmp_total (map plan_entry plans) number)

-- a call without a plan is not listed
pub not_listed : {A B : Type 0} (f : A → B) (plan : Option A) (next : Option B) → option_map f plan ≡ next → plan ≡ None → IsSome next → ⊥
not_listed f plan next is none listed = grind (arith, common_steps)

-- a call with a plan is listed
pub not_unlisted : {A B : Type 0} (f : A → B) (plan : Option A) (next : Option B) (a : A) → option_map f plan ≡ next → plan ≡ Some a → next ≡ None → ⊥
not_unlisted f plan next a is some none = grind (arith, common_steps)

pub not_kept : {A B : Type 0} (f : A → B) (plan : Option A) (next : Option B) (b : B) → option_map f plan ≡ next → plan ≡ None → next ≡ Some b → ⊥
not_kept f plan next b is none some = grind (arith, common_steps)

-- what a listed call keeps is what its plan says
pub kept_is : {A B : Type 0} (f : A → B) (plan : Option A) (next : Option B) (a : A) (b : B) → option_map f plan ≡ next → plan ≡ Some a → next ≡ Some b → f a ≡ b
kept_is f plan next a b is some kept = some_same _ _ (sym (ap (option_map f) some) ∙ is ∙ kept)
  where
    some_same : {B : Type 0} (x y : B) → Some x ≡ Some y → x ≡ y
    some_same x y e = cc
