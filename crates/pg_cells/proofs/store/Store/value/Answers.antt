use Rattle.std.proofs.Common.{◌≡◌, ap, subst, ◌∙◌}
use Rattle.std.specs.Prelude.{slice_get, Some}
use Rattle.pg_cells.specs.declared.store.member.Member.{Member}
use Rattle.pg_cells.specs.Inside.store.CellRows.{Row, row_of}
use Rattle.pg_cells.proofs.RowCells.{taken_in_row}
use Rattle.pg_cells.proofs.store.Store.value.Goals as goal

pub value_of-requires : goal.value_of-requires
value_of-requires g c =
    let taken = taken_in_row c.as_slice.result.now c.args.self.now c.args.cell (ap row_of c.as_slice.ensures.value ∙ c.self.view_is) c.requires in
    record { cell = taken.0; taken = taken.1 }

pub returns-clause-value : goal.returns-clause-value
returns-clause-value g c = subst (λ (r : Row (Member g.row.V.Denot)). slice_get r.values c.args.cell ≡ Some c.value_of.result)
    (ap row_of c.as_slice.ensures.value ∙ c.self.view_is) c.value_of.ensures.value

pub returns-clause-fits : goal.returns-clause-fits
returns-clause-fits g c = c.value_of.ensures.fits
