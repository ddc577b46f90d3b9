-- The line where an input is refused.
use Rattle.std.specs.Prelude.{ℕ, ◌==◌, if◌then◌else◌, List, [], ◌++◌, codes, decimal}
use Rattle.pg_types.specs.Refusals.{number_and_name}
use Rattle.pg_types.specs.declared.refusals.Refusal.{Refusal}
use Rattle.pg_steps.specs.declared.inputs.Input.{Input}
use Rattle.pg_steps.specs.declared.inputs.Input.TheVariants as input
use Rattle.pg_steps.specs.declared.inputs.Given.TheVariants as given

-- what a line of refusal or of `no` calls a file
abbrev pub label_of : Input → List ℕ
label_of input.Translate = codes "translate"
label_of input.Parameters = codes "parameters"
label_of input.Patterns = codes "patterns"
label_of input.Dictionary = codes "dictionary"
label_of (input.Set k) = codes "set " ++ decimal k
label_of input.Table = codes "table"
label_of (input.Given given.Patterns) = codes "patterns"
label_of (input.Given given.Pattmp) = codes "pattmp"
label_of (input.Given given.Cells) = codes "cells"
label_of (input.Given given.Report) = codes "report"

-- where in a file the refused place is: an item of parameters, a line and a column of the others
abbrev pub place_of : Input → Refusal → List ℕ
place_of input.Parameters r = codes " item " ++ decimal r.line
place_of (input.Set k) r = codes " item " ++ decimal r.line
place_of other r = codes " line " ++ decimal r.line ++ codes " column " ++ decimal r.column

-- the line where a file is refused; a refusal with line 0 has no place
abbrev pub refused_line : Input → Refusal → List ℕ
refused_line input r = codes "refused: " ++ label_of input ++ codes " "
    ++ decimal (number_and_name r.kind).0 ++ codes " " ++ (number_and_name r.kind).1
    ++ (if r.line == 0 then [] else place_of input r) ++ codes "\n"
