use Rattle.std.proofs.Common.{◌+◌, ◌/◌, arith}
use Rattle.pg_cells.proofs.FullSets.{full_taken}
use Rattle.pg_cells.proofs.store.taken_set.TakenSet.behind.Goals as goal

pub returns-clause-taken : goal.returns-clause-taken
returns-clause-taken c = λ i low lt.
    let set = c.args.self.now in
    full_taken set.cells set.full set.fills (c.args.cell / 64 + 1) c.first_absent.result i c.first_absent.ensures.before (omega arith) lt
