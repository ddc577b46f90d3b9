use Rattle.std.proofs.Common.{◌∙◌, nat_eq, ap, get_or}
use Rattle.pg_cells.proofs.CellWrites.{sign_is}
use Rattle.pg_cells.proofs.WordLaws.{word_has}
use Rattle.pg_cells.proofs.store.cell.has_sign.Goals as goal

pub returns : goal.returns
returns g c =
    word_has (get_or c.args.cells.now c.args.cell c.index-cells-cell.result).signs c.args.sign c.requires.sign
    ∙ ap (λ x. nat_eq x c.args.sign) (sign_is c.args.cells.now c.args.cell c.index-cells-cell.result c.requires.cell)
