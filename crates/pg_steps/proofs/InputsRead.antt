-- A file that was read as an input.
use Rattle.std.proofs.Common.{IfOk, ◌≡◌, ℕ, ◌+◌, List, take, Result, Ok, Err, inr, sym, subst, ap, ◌∙◌}
use Rattle.pg_types.specs.Inside.reading.Answers.{Gives as IsGiven}
use Rattle.pg_types.specs.declared.limits.TheConstants.{FILE_MAX}
use Rattle.pg_types.specs.declared.refusals.Refusal.{Refusal}
use Rattle.pg_types.specs.declared.refusals.ReadingError.{ReadingError}
use Rattle.pg_types.specs.declared.refusals.ReadingError.TheVariants as reader
use Rattle.pg_outside.specs.Content.{FilesShown}
use Rattle.pg_plans.specs.Calls.{Gets}
use Rattle.pg_steps.specs.InputPlans.{input, unless_refused}
use Rattle.pg_steps.specs.Inside.Accepting.{accepted_as}
use Rattle.pg_steps.specs.Inside.Steps.{Gives}
use Rattle.pg_steps.specs.declared.inputs.Input.{Input}
use Rattle.pg_steps.specs.declared.inputs.Stop.{Stop}
use Rattle.pg_steps.proofs.Fronts.{IsReadByFront}
use Rattle.pg_steps.proofs.Stopping.{short}

module _ {Y : Type 0} (kind : Input) (name : List ℕ) (parse : List ℕ → Result Y Refusal) (front : IsReadByFront parse) (old mid : FilesShown) (bytes first : List ℕ)
    (gets : Gets name bytes old mid) (cut : first ≡ take (FILE_MAX + 1) bytes) where
  whole : parse first ≡ parse bytes
  whole = ap parse cut ∙ front bytes

  given : (read : Result Y ReadingError) → IsGiven (λ y. y) read (parse first) → Gives (input kind name parse) (accepted_as kind read) old mid
  given (Ok y) is next status sink new h = inr (inr (bytes, mid, gets, rw (sym whole ∙ is) h))
  given (Err (reader.Refused refusal)) is next status sink new h = inr (inr (bytes, mid, gets, rw (sym whole ∙ is) h))
  given (Err reader.Memory) is next status sink new h = inr (inr (bytes, mid, gets, short (unless_refused kind (parse bytes) next) status (mid, sink) new h))

  pub input_read : (read : Result Y ReadingError) (r : Result Y Stop) → IsGiven (λ y. y) read (parse first) → r ≡ accepted_as kind read → Gives (input kind name parse) r old mid
  input_read read r is same = subst (λ (x : Result Y Stop). Gives (input kind name parse) x old mid) (sym same) (given read is)

-- what is known of a value is known of what was accepted
pub input_known : {Y : Type 0} (kind : Input) (read : Result Y ReadingError) (r : Result Y Stop) (P : Y → Type 0) → IfOk read P → r ≡ accepted_as kind read → IfOk r P
input_known kind (Ok y) r P known same = subst (λ (x : Result _ Stop). IfOk x P) (sym same) known
input_known kind (Err e) r P known same = subst (λ (x : Result _ Stop). IfOk x P) (sym same) tt
