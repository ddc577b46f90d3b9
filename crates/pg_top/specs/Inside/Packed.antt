-- The packed table of `pack`, and why it makes none.
use Rattle.std.specs.Prelude.{ℕ, ◌+◌, List}
use Rattle.pg_types.specs.declared.refusals.Kind.TheVariants.{TableTooLong}
use Rattle.pg_types.specs.ValuesOrRefusals.{refusal_at}
use Rattle.pg_translate.specs.Alphabets.{Alphabet, letters_of}
use Rattle.pg_patterns.specs.Values.{Patterns}
use Rattle.pg_table.specs.Texts.{table_text}
use Rattle.pg_table.specs.declared.error.TableError.{TableError}
use Rattle.pg_table.specs.declared.error.TableError.TheVariants as table_error
use Rattle.pg_steps.specs.declared.inputs.Input.TheVariants as input
use Rattle.pg_steps.specs.declared.inputs.Stop.{Stop}
use Rattle.pg_steps.specs.declared.inputs.Stop.TheVariants as stop

-- the packed table of patterns for the letters of a table
abbrev pub packed_text : Alphabet → Patterns → List ℕ
packed_text t P = table_text (letters_of t + 1) P

-- why `pack` stops where no table is made
abbrev pub stop_of_table : TableError → Stop
stop_of_table table_error.TooLong = stop.Refused input.Table (refusal_at 0 TableTooLong 0)
stop_of_table table_error.Memory = stop.Memory
