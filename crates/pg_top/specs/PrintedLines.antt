-- The lines that the commands print where they are done, and where arguments are no command.
use Rattle.std.specs.Prelude.{ℕ, List, ◌++◌, length, codes, decimal}
use Rattle.pg_types.specs.Lines.{lines}
use Rattle.pg_select.specs.Sums.{totals}
use Rattle.pg_texts.specs.ReportTexts.{totals_text}
use Rattle.pg_steps.specs.declared.inputs.Given.TheVariants as given
use Rattle.pg_top.specs.Selection.{selected_patterns, selected_file}
use Rattle.pg_top.specs.declared.selection.Inputs.{Inputs}

-- the line where arguments are no command
abbrev pub usage_line : List ℕ
usage_line = codes "usage: patgen COMMAND NAMES [OPTIONS]\n"

-- the line where `generate` or `sample` is done: how many lines the pattern file has, and the
-- totals of its patterns
abbrev pub done_line : Inputs → List ℕ
done_line i = codes "done: " ++ decimal (length (lines (selected_file i given.Patterns)))
    ++ codes " patterns, "
    ++ totals_text (totals i.table i.dictionary (selected_patterns i)) ++ codes "\n"
