use Rattle.std.proofs.Common.{◌-◌, length}
use Rattle.pg_table.proofs.text.EnteredStrings.{EnteredTo}
use Rattle.pg_table.proofs.text.entering.enter_strings.Given as goal

abbrev pub invariant-strings : goal.invariant-strings
invariant-strings l = EnteredTo l.initial.cells.signs l.patterns l.at l.cells l.outputs

abbrev pub decreases-strings : goal.decreases-strings
decreases-strings l = length l.patterns - l.at
