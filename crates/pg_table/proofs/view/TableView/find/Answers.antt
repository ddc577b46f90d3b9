use Rattle.std.proofs.Common.{◌≡◌, ◌+◌, ap, subst, ◌∙◌, arith, rules}
use Rattle.pg_table.specs.declared.parts.sizes.Sizes.{Sizes}
use Rattle.pg_table.specs.declared.parts.cell.Cell.{Cell}
use Rattle.pg_table.specs.Forms.{sizes_of, cell_at}
use Rattle.pg_table.proofs.parts.FormLaws.{IsWellFormed, form_told}
use Rattle.pg_table.proofs.view.TableView.find.Goals as goal

pub overflow_add-at : goal.overflow_add-at
overflow_add-at c =
    let form : IsWellFormed c.args.self.now = subst IsWellFormed c.self.view_is (form_told c.self.inside.bytes.now c.self.invariant.0) in
    omega (arith, form.sizes.whole, form.sizes.small)

pub read-cell-requires : goal.read-cell-requires
read-cell-requires c =
    let form : IsWellFormed c.self.inside.bytes.now = form_told c.self.inside.bytes.now c.self.invariant.0 in
    let cells = ap (λ (h : Sizes). h.cells) c.self.invariant.1 in
    omega (arith, form.sizes.whole, cells)

pub returns-then-cell-s-clause-within : goal.returns-then-cell-s-clause-within
returns-then-cell-s-clause-within c =
    let form : IsWellFormed c.args.self.now = subst IsWellFormed c.self.view_is (form_told c.self.inside.bytes.now c.self.invariant.0) in
    let cells : c.self.inside.sizes.cells ≡ (sizes_of c.args.self.now).cells = ap (λ (h : Sizes). h.cells) (c.self.invariant.1 ∙ ap sizes_of c.self.view_is) in
    let cell : c.read-cell.result ≡ cell_at c.args.self.now (c.args.base + c.from.result) = c.read-cell.ensures ∙ ap (λ b. cell_at b (c.args.base + c.from.result)) c.self.view_is in
    let sound = form.cells (c.args.base + c.from.result) (omega (arith, cells)) in
    let child : c.read-cell.result.child ≡ (cell_at c.args.self.now (c.args.base + c.from.result)).child = ap (λ (x : Cell). x.child) cell in
    let head : c.read-cell.result.head ≡ (cell_at c.args.self.now (c.args.base + c.from.result)).head = ap (λ (x : Cell). x.head) cell in
    (omega (arith, sound.child, child), omega (arith, sound.head, head))

pub returns-else-cell-s-clause-cell : goal.returns-else-cell-s-clause-cell
returns-else-cell-s-clause-cell c = search rules
