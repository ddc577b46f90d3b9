use Rattle.pg_plain.specs.Inside.Greatest.{entry_value, entry_cover}
use Rattle.pg_plain.proofs.OneString.{StringLeft}
use Rattle.pg_plain.proofs.walk.raise_by_string.Given as goal

abbrev pub invariant-loop-dotted : goal.invariant-loop-dotted
invariant-loop-dotted g l = StringLeft (entry_value g.F.DottedEntry.given) (entry_cover g.F.DottedEntry.covers_at l.pass) l.q l.i l.map.entries l.dotted-iterator l.fn.out l.out
