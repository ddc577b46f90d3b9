-- The line where `generate` or `sample` is done, by what it tells.
use Rattle.std.specs.Prelude.{ℕ, List, ◌++◌, length, codes, decimal}
use Rattle.pg_types.specs.Lines.{lines}
use Rattle.pg_types.specs.declared.marks.Totals.{Totals}
use Rattle.pg_texts.specs.ReportTexts.{totals_text}

-- the line for this pattern file and these totals
abbrev pub done_text : List ℕ → Totals → List ℕ
done_text patterns t = codes "done: " ++ decimal (length (lines patterns))
    ++ codes " patterns, " ++ totals_text t ++ codes "\n"
