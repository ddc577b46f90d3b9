use Rattle.std.proofs.Common.{◌≡◌, ◌++◌, drop, map}
use Rattle.std.specs.List.{flat_map}
use Rattle.pg_driver.specs.Inside.records.RunAccounts.{line_of, level_line_of}
use Rattle.pg_texts.specs.Inside.ReportLines.{level_lines_text}
use Rattle.pg_texts.proofs.report.push_levels.Given as goal

abbrev pub invariant-levels : goal.invariant-levels
invariant-levels l = l.text.items ++ flat_map (level_lines_text (map line_of l.passes)) (map level_line_of (drop l.level-index l.levels)) ≡ l.fn.text.items
    ++ flat_map (level_lines_text (map line_of l.passes)) (map level_line_of l.levels)
