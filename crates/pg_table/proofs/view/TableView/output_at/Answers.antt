use Rattle.std.proofs.Common.{◌+◌, ◌≤◌, length, ap, arith}
use Rattle.pg_table.specs.declared.parts.sizes.Sizes.{Sizes}
use Rattle.pg_table.proofs.parts.FormLaws.{form_told}
use Rattle.pg_table.proofs.view.TableView.output_at.Goals as goal

pub slice_bounds-result-end : goal.slice_bounds-result-end
slice_bounds-result-end c =
    let form = form_told c.self.inside.bytes.now c.self.invariant.0 in
    let cells = ap (λ (h : Sizes). h.cells) c.self.invariant.1 in
    let records = ap (λ (h : Sizes). h.records) c.self.invariant.1 in
    let fits : c.record_start-start.result + 6 ≤ length c.self.inside.bytes.now = omega (arith, form.sizes.whole, cells, records) in
    fits
