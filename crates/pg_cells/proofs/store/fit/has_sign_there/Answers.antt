use Rattle.std.proofs.Common.{sym, ◌∙◌, nat_eq, ap}
use Rattle.std.proofs.lemmas.Bool.{ne_eqb}
use Rattle.pg_cells.proofs.RowCells.{sign_past}
use Rattle.pg_cells.proofs.store.fit.has_sign_there.Goals as goal

pub returns-then-cell-cells : goal.returns-then-cell-cells
returns-then-cell-cells g c = c.has_sign.ensures

pub returns-else-cell-cells : goal.returns-else-cell-cells
returns-else-cell-cells g c =
    sym (ap (λ x. nat_eq x c.args.sign) (sign_past c.args.cells.now c.args.cell c.if-cell-cells.false) ∙ ne_eqb 0 c.args.sign (λ e. c.requires (sym e)))
