use Rattle.pg_plain.specs.Inside.Greatest.{entry_value, entry_cover}
use Rattle.pg_plain.specs.Inside.Walks.{applies_from_at_least, applies_from}
use Rattle.pg_plain.proofs.Starts.{Left}
use Rattle.pg_plain.proofs.walk.raise_from.Given as goal

abbrev pub invariant-loop-n : goal.invariant-loop-n
invariant-loop-n g l = Left (entry_value g.F.DottedEntry.given) (entry_cover g.F.DottedEntry.covers_at l.pass) (applies_from_at_least l.w l.i l.n) (applies_from l.w l.i) l.map.entries l.fn.out l.out
