use Rattle.std.proofs.Common.{arith}
use Rattle.pg_table.proofs.parts.FormLaws.{form_told}
use Rattle.pg_table.proofs.view.TableView.read.Goals as goal

pub of-requires : goal.of-requires
of-requires c =
    let form = form_told c.args.bytes.now c.in-None.ensures.reader in
    omega (arith, form.sizes.whole)
