use Rattle.std.proofs.Common.{◌≤◌, ap, arith}
use Rattle.pg_types.specs.declared.limits.TheConstants.{SIGNS_MAX}
use Rattle.pg_table.specs.declared.parts.sizes.Sizes.{Sizes}
use Rattle.pg_table.proofs.parts.FormLaws.{form_told}
use Rattle.pg_table.proofs.view.TableView.signs.Goals as goal

pub overflow_cast-result : goal.overflow_cast-result
overflow_cast-result c =
    let form = form_told c.self.inside.bytes.now c.self.invariant.0 in
    let signs = ap (λ (h : Sizes). h.signs) c.self.invariant.1 in
    let few : c.self.inside.sizes.signs ≤ SIGNS_MAX = omega (arith, form.sizes.few, signs) in
    omega arith

pub returns-clause-range : goal.returns-clause-range
returns-clause-range c =
    let form = form_told c.self.inside.bytes.now c.self.invariant.0 in
    let signs = ap (λ (h : Sizes). h.signs) c.self.invariant.1 in
    (omega (arith, form.sizes.some, signs), omega (arith, form.sizes.few, signs))
