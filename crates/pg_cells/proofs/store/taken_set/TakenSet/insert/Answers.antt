use Rattle.std.proofs.Common.{◌*◌, ◌/◌}
use Rattle.pg_cells.proofs.FullSets.{all_set, full_insert}
use Rattle.pg_cells.proofs.store.taken_set.TakenSet.insert.Goals as goal

pub invariant_of-self : goal.invariant_of-self
invariant_of-self c =
    let old = c.args.self.now in
    record {
      fills = full_insert old.cells old.full old.fills c.args.cell c.insert.new.self c.insert.ensures.room c.insert.ensures.has c.insert-then-from.new.self
          c.insert-then-from.ensures.room c.insert-then-from.ensures.has (all_set c.insert.new.self (c.args.cell / 64 * 64) c.from.result c.if-from.true c.from.ensures);
    }
