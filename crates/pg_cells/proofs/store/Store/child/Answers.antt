use Rattle.std.proofs.Common.{ap, ◌∙◌}
use Rattle.pg_cells.specs.Inside.store.CellRows.{row_of, child_at}
use Rattle.pg_cells.proofs.RowCells.{taken_in_row}
use Rattle.pg_cells.proofs.store.Store.child.Goals as goal

pub child_of-requires : goal.child_of-requires
child_of-requires g c =
    let taken = taken_in_row c.as_slice.result.now c.args.self.now c.args.cell (ap row_of c.as_slice.ensures.value ∙ c.self.view_is) c.requires in
    record { cell = taken.0; taken = taken.1 }

pub returns : goal.returns
returns g c = c.child_of.ensures ∙ ap (λ r. child_at r c.args.cell) (ap row_of c.as_slice.ensures.value ∙ c.self.view_is)
