-- A refusal, and a value or the refusal that stands in its place.
use Rattle.std.specs.Prelude.{ℕ, Option, None, Some, Result, Ok, Err}
use Rattle.pg_types.specs.declared.refusals.Kind.{Kind}
use Rattle.pg_types.specs.declared.refusals.Refusal.{Refusal}

-- the refusal where there is one, else the value
abbrev pub unless : {Y : Type 0} → Option Refusal → Y → Result Y Refusal
unless None y = Ok y
unless (Some r) y = Err r

-- the refusal of a line, at a column
abbrev pub refusal_at : ℕ → Kind → ℕ → Refusal
refusal_at line kind column = record { kind = kind; line = line; column = column }
