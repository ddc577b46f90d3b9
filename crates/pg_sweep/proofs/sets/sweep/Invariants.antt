use Rattle.std.proofs.Common.{◌≡◌, map, take}
use Rattle.pg_sweep.specs.Sweeps.{set_row}
use Rattle.pg_sweep.proofs.sets.sweep.Given as goal

abbrev pub invariant-sets : goal.invariant-sets
invariant-sets g l = l.rows.items ≡ map (set_row (record { table = l.table; words = l.dictionary; start = l.start; folds = l.folds }) l.bad l.missed) (take l.i l.sets)
