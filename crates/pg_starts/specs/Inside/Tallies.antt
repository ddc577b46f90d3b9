-- The sums of the windows of a pass.
use Rattle.std.specs.Prelude.{map}
use Rattle.pg_starts.specs.declared.tallies.Tallies.{Tallies}
use Rattle.pg_starts.specs.Inside.CountsByNumber.{Tallied, told_by}

-- the sums by number
abbrev pub tallied : Tallies → Tallied
tallied t = map told_by t.sums.items
