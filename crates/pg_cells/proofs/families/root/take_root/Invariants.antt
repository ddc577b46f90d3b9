use Rattle.std.proofs.Common.{◌≡◌, length}
use Rattle.pg_cells.specs.Inside.families.Root.{IsRootTo}
use Rattle.pg_cells.proofs.families.root.take_root.Given as goal

abbrev pub invariant-loop-sign : goal.invariant-loop-sign
invariant-loop-sign g l = record { root_to : IsRootTo l.sign l.blank l.store; size : length l.store.signs ≡ length l.initial.store.signs }
