use Rattle.std.proofs.Common.{ap, subst, ◌∙◌}
use Rattle.pg_cells.specs.Inside.store.CellRows.{SaysTaken, row_of}
use Rattle.pg_cells.proofs.store.Store.is_taken.Goals as goal

pub returns : goal.returns
returns g c = subst (λ r. SaysTaken r c.args.cell c.is_taken_there.result) (ap row_of c.as_slice.ensures.value ∙ c.self.view_is) c.is_taken_there.ensures
