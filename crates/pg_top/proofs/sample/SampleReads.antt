-- What `sample` reads is not refused.
use Rattle.std.proofs.Common.{◌≡◌, Result, Ok, refl}
use Rattle.pg_types.specs.Inside.reading.Answers.{Fails}
use Rattle.pg_types.specs.declared.refusals.Refusal.{Refusal}
use Rattle.pg_types.specs.declared.refusals.ReadingError.{ReadingError}
use Rattle.pg_types.specs.declared.refusals.ReadingError.TheVariants as reader

-- a reader that accepts fails for a shortage of memory alone
pub only_memory : {Y : Type 0} (error : ReadingError) (got : Result Y Refusal) (y : Y) → got ≡ Ok y → Fails error got → error ≡ reader.Memory
only_memory (reader.Refused refusal) got y accepted fails = cc
only_memory reader.Memory got y accepted fails = refl
