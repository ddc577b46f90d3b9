use Rattle.std.proofs.Common.{◌≡◌, ◌≤◌, length, take}
use Rattle.pg_translate.specs.Inside.tables.Checks.{without_blanks}
use Rattle.pg_translate.proofs.reading.without_blanks.Given as goal

abbrev pub invariant-blanks : goal.invariant-blanks
invariant-blanks l = (without_blanks l.line ≡ without_blanks (take l.end l.line)) × (l.end ≤ length l.line)

abbrev pub decreases-blanks : goal.decreases-blanks
decreases-blanks l = l.end
