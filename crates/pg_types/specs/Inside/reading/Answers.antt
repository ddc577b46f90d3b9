-- What a reader's result says of the definition that it answers.
use Rattle.std.specs.Prelude.{◌≡◌, Option, Some, Result, Ok, Err}
use Rattle.pg_types.specs.declared.refusals.Refusal.{Refusal}
use Rattle.pg_types.specs.declared.refusals.ReadingError.{ReadingError}
use Rattle.pg_types.specs.declared.refusals.ReadingError.TheVariants.{Refused, Memory}

-- a reader's refusal is that of the definition; a lack of memory may always come
abbrev pub Fails : {Y : Type 0} → ReadingError → Result Y Refusal → Type 0
Fails (Refused r) reading = reading ≡ Err r
Fails Memory reading = Unit {0}

-- a refusal is that of the definition; a lack of memory may always come
abbrev pub FailsBy : ReadingError → Option Refusal → Type 0
FailsBy (Refused r) refusal = refusal ≡ Some r
FailsBy Memory refusal = Unit {0}

-- a reader gives, by this view, what the definition gives, or fails as the definition does
abbrev pub Gives : {X Y : Type 0} → (X → Y) → Result X ReadingError → Result Y Refusal → Type 0
Gives view (Ok x) reading = reading ≡ Ok (view x)
Gives view (Err e) reading = Fails e reading
