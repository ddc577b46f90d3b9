-- An error of a read is no other one.
use Rattle.std.proofs.Common.{◌≡◌, ◌∙◌, Result, Ok, Err, IfErr}
use Rattle.std.specs.Result.{IsErrAnd, IsErrOf}
use Rattle.pg_outside.specs.declared.outside.ReadError.{ReadError}
use Rattle.pg_outside.specs.declared.outside.ReadError.TheVariants as error

-- a file that is too long was read
pub long_or_failed : {T : Type 0} (result : Result T ReadError) → IsErrOf result error.TooLong → IsErrOf result error.Failed → ⊥
long_or_failed result long failed = cc

-- where memory is short a file is not too long
pub memory_or_long : {T : Type 0} (result : Result T ReadError) → IsErrAnd result (λ d. d ≡ error.Memory) → IsErrOf result error.TooLong → ⊥
memory_or_long (Ok value) memory long = memory
memory_or_long (Err e) memory long = cc

-- nor did the read fail
pub memory_or_failed : {T : Type 0} (result : Result T ReadError) → IsErrAnd result (λ d. d ≡ error.Memory) → IsErrOf result error.Failed → ⊥
memory_or_failed (Ok value) memory failed = memory
memory_or_failed (Err e) memory failed = cc

-- a read that failed did not find memory short
pub failed_or_memory : {T : Type 0} (result : Result T ReadError) → IsErrOf result error.Failed → IsErrOf result error.Memory → ⊥
failed_or_memory result failed memory = cc

-- an error that is passed on is the one that it was
pub passed_error : {T U : Type 0} (result : Result T ReadError) (e d : ReadError) → IsErrAnd result (λ x. x ≡ e) → IsErrOf result d → IsErrOf {T = U} (Err e) d
passed_error (Ok value) e d same is = absurd same
passed_error (Err x) e d same is = cc

-- so is one that did not come of a failed call
pub passed_other : {T P : Type 0} (result : Result T ReadError) (e : ReadError) → IsErrAnd result (λ x. x ≡ e)
    → ((e ≡ error.Failed → ⊥) → P) → IfErr result (λ x. (x ≡ error.Failed → ⊥) → P)
passed_other (Ok value) e same holds = tt
passed_other (Err x) e same holds = λ apart. holds (λ is. apart (same ∙ is))
