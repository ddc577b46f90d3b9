use Rattle.std.proofs.Common.{◌≡◌, ◌++◌, drop, map}
use Rattle.pg_driver.specs.Inside.records.RunAccounts.{line_of}
use Rattle.pg_texts.specs.Inside.ReportLines.{passes_text}
use Rattle.pg_texts.proofs.report.push_passes.Given as goal

abbrev pub invariant-passes : goal.invariant-passes
invariant-passes l = l.text.items ++ passes_text (map line_of (drop l.pass-index l.passes)) l.level ≡ l.fn.text.items ++ passes_text (map line_of l.passes) l.level
