use Rattle.std.proofs.Common.{ap, ◌∙◌, nat_eq}
use Rattle.pg_cells.specs.Inside.store.CellRows.{row_of, sign_at}
use Rattle.pg_cells.proofs.store.Store.has_sign.Goals as goal

pub returns : goal.returns
returns g c = c.has_sign_there.ensures ∙ ap (λ r. nat_eq (sign_at r c.args.cell) c.args.sign) (ap row_of c.as_slice.ensures.value ∙ c.self.view_is)
