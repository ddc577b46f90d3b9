-- What a failure says that is passed on.
use Rattle.std.proofs.Common.{◌≡◌, ℕ, ◌≤◌, Result, Ok, Err, OnOk, OnErr, IfErr, ◌∙◌, sym, subst, arith}
use Rattle.std.specs.Result.{IsErrAnd}
use Rattle.pg_outside.specs.Faults.{Rose, next_count}
use Rattle.pg_outside.specs.Inside.disk.Causes.{IsCauseOf}
use Rattle.pg_outside.specs.declared.disk.error.WriteError.{WriteError}
use Rattle.pg_outside.specs.declared.disk.error.WriteError.TheVariants as error

-- a count that is the next one rose
pub rose_one : (a b : ℕ) → b ≡ next_count a → Rose a b
rose_one a b next = omega arith

-- a count that rose since it was the same
pub rose_since : (a b c : ℕ) → b ≡ a → Rose b c → Rose a c
rose_since a b c same rose = subst (λ (n : ℕ). Rose n c) same rose

pub rose_then : (a b c d : ℕ) → b ≡ a → Rose b c → c ≤ d → Rose a d
rose_then a b c d same rose later = let r : Rose a c = rose_since a b c same rose in omega arith

pub on_ok_both : {T E : Type 0} (P Q : Type 0) (result : Result T E) → OnOk result P → OnOk result Q → OnOk result (P × Q)
on_ok_both P Q (Ok value) p q = (p, q)
on_ok_both P Q (Err e) p q = tt

pub on_err_both : {T E : Type 0} (P Q : Type 0) (result : Result T E) → OnErr result P → OnErr result Q → OnErr result (P × Q)
on_err_both P Q (Ok value) p q = tt
on_err_both P Q (Err e) p q = (p, q)

-- a cause that is known since the count was the same
because_since : (a b c : ℕ) (K O U X K2 O2 U2 X2 : Type 0) → b ≡ a → (K → K2) → (O → O2) → (U → U2) → (X → X2) → (e : WriteError) → IsCauseOf b c K O U X e → IsCauseOf a c K2 O2 U2 X2 e
because_since a b c K O U X K2 O2 U2 X2 same k o u x error.Failed p = rose_since a b c same p
because_since a b c K O U X K2 O2 U2 X2 same k o u x error.Kept p = (p.0 ∙ same, k p.1)
because_since a b c K O U X K2 O2 U2 X2 same k o u x error.Opened p = (p.0 ∙ same, o p.1)
because_since a b c K O U X K2 O2 U2 X2 same k o u x error.Unfollowed p = (p.0 ∙ same, u p.1)
because_since a b c K O U X K2 O2 U2 X2 same k o u x error.Taken p = (p.0 ∙ same, x p.1)
because_since a b c K O U X K2 O2 U2 X2 same k o u x error.Memory p = p ∙ same

-- a result that is returned as it is
pub still_because : {T : Type 0} (result : Result T WriteError) (a b c : ℕ) (K O U X K2 O2 U2 X2 : Type 0) → IfErr result (IsCauseOf b c K O U X) → b ≡ a → (K → K2)
    → (O → O2) → (U → U2) → (X → X2) → IfErr result (IsCauseOf a c K2 O2 U2 X2)
still_because (Ok value) a b c K O U X K2 O2 U2 X2 p same k o u x = tt
still_because (Err e) a b c K O U X K2 O2 U2 X2 p same k o u x = because_since a b c K O U X K2 O2 U2 X2 same k o u x e p

-- an error that is passed on
pub passed_on : {T : Type 0} (result : Result T WriteError) (e : WriteError) (a c : ℕ) (K O U X : Type 0) → IsErrAnd result (λ d. d ≡ e) → IsCauseOf a c K O U X e → IfErr result (IsCauseOf a c K O U X)
passed_on (Ok value) e a c K O U X is p = tt
passed_on (Err d) e a c K O U X is p = subst (λ (d : WriteError). IsCauseOf a c K O U X d) (sym is) p

pub passed_since : {T : Type 0} (result : Result T WriteError) (e : WriteError) (a b c : ℕ) (K O U X K2 O2 U2 X2 : Type 0) → IsErrAnd result (λ d. d ≡ e)
    → IsCauseOf b c K O U X e → b ≡ a → (K → K2) → (O → O2) → (U → U2) → (X → X2) → IfErr result (IsCauseOf a c K2 O2 U2 X2)
passed_since result e a b c K O U X K2 O2 U2 X2 is p same k o u x = passed_on result e a c K2 O2 U2 X2 is (because_since a b c K O U X K2 O2 U2 X2 same k o u x e p)

pub failed_on : {T : Type 0} (result : Result T WriteError) (a c : ℕ) (K O U X : Type 0) → IsErrAnd result (λ d. d ≡ error.Failed) → Rose a c → IfErr result (IsCauseOf a c K O U X)
failed_on result a c K O U X is p = passed_on result error.Failed a c K O U X is p

pub memory_on : {T : Type 0} (result : Result T WriteError) (a c : ℕ) (K O U X : Type 0) → IsErrAnd result (λ d. d ≡ error.Memory) → c ≡ a → IfErr result (IsCauseOf a c K O U X)
memory_on result a c K O U X is same = passed_on result error.Memory a c K O U X is same

pub because_unfollowed : (e : WriteError) (a c : ℕ) (K O U X : Type 0) → e ≡ error.Unfollowed → c ≡ a → U → IsCauseOf a c K O U X e
because_unfollowed e a c K O U X is same p = subst (λ (d : WriteError). IsCauseOf a c K O U X d) (sym is) (same, p)
