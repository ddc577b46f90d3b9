-- What a reader gave of an input, or why a command stops there.
use Rattle.std.specs.Prelude.{Result, Ok, Err}
use Rattle.pg_types.specs.declared.refusals.ReadingError.{ReadingError}
use Rattle.pg_types.specs.declared.refusals.ReadingError.TheVariants as reader
use Rattle.pg_steps.specs.declared.inputs.Input.{Input}
use Rattle.pg_steps.specs.declared.inputs.Stop.{Stop}
use Rattle.pg_steps.specs.declared.inputs.Stop.TheVariants.{Refused, Memory}

abbrev pub stop_of : Input → ReadingError → Stop
stop_of input (reader.Refused refusal) = Refused input refusal
stop_of input reader.Memory = Memory

abbrev pub accepted_as : {T : Type 0} → Input → Result T ReadingError → Result T Stop
accepted_as input (Ok value) = Ok value
accepted_as input (Err error) = Err (stop_of input error)
