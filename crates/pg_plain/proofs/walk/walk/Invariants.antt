use Rattle.pg_patterns.specs.Values.{applies}
use Rattle.pg_plain.specs.Inside.Greatest.{entry_value, entry_cover}
use Rattle.pg_plain.specs.Inside.Walks.{applies_not_before}
use Rattle.pg_plain.proofs.Starts.{Left}
use Rattle.pg_plain.proofs.walk.walk.Given as goal

abbrev pub invariant-loop-i : goal.invariant-loop-i
invariant-loop-i g l = Left (entry_value g.F.DottedEntry.given) (entry_cover g.F.DottedEntry.covers_at l.pass) (applies_not_before l.w l.i) (applies l.w) l.map.entries l.fn.out l.out
