use Rattle.std.proofs.Common.{◌≡◌, ◌+◌, drop}
use Rattle.pg_sweep.specs.Promises.{costs_of}
use Rattle.pg_sweep.specs.Inside.Least.{winner_from, first_least}
use Rattle.pg_sweep.proofs.rows.number_of_winner.Given as goal

abbrev pub invariant-rows : goal.invariant-rows
invariant-rows l = winner_from l.winner l.least (l.i + 1) (drop l.i (costs_of l.rows)) ≡ first_least (costs_of l.rows)
