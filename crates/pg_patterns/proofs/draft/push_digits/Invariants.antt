use Rattle.std.proofs.Common.{◌≡◌, ◌++◌, map, take}
use Rattle.pg_patterns.specs.Inside.EntryLines.{entry_at}
use Rattle.pg_patterns.proofs.draft.push_digits.Given as goal

abbrev pub invariant-loop-digit : goal.invariant-loop-digit
invariant-loop-digit l = l.entries.items ≡ l.fn.entries.items ++ map (entry_at l.signs) (take l.digit-index l.digits)
