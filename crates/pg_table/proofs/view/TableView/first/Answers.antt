use Rattle.std.proofs.Common.{◌≡◌, ◌+◌, ◌<◌, ◌≤◌, ◌∷◌, ap, subst, sym, ◌∙◌, arith}
use Rattle.pg_outputs.specs.declared.records.Record.{Record}
use Rattle.pg_table.specs.declared.parts.sizes.Sizes.{Sizes}
use Rattle.pg_table.specs.Forms.{sizes_of, record_at}
use Rattle.pg_table.specs.Inside.Extents.{record_start, read_record}
use Rattle.pg_table.specs.Inside.view.ListsOf.{list_in}
use Rattle.pg_table.proofs.parts.FormLaws.{IsWellFormed, form_told}
use Rattle.pg_table.proofs.view.FileRecords.{list_in-zero, list_in-at}
use Rattle.pg_table.proofs.view.TableView.first.Goals as goal

pub returns-in_err-i-clause-list : goal.returns-in_err-i-clause-list
returns-in_err-i-clause-list c =
    let none : c.args.head ≡ 0 = omega (arith, c.in_err-i.ensures) in
    rw c.from_residual.ensures (ap (list_in c.args.self.now) none ∙ list_in-zero c.args.self.now)

pub read_record-entry-requires : goal.read_record-entry-requires
read_record-entry-requires c =
    let form : IsWellFormed c.self.inside.bytes.now = form_told c.self.inside.bytes.now c.self.invariant.0 in
    let here : sizes_of c.self.inside.bytes.now ≡ sizes_of c.args.self.now = ap sizes_of c.self.view_is in
    let cells = ap (λ (h : Sizes). h.cells) c.self.invariant.1 in
    let records = ap (λ (h : Sizes). h.records) here in
    omega (arith, form.sizes.whole, cells, records, c.in_ok-i.ensures)

form : (c : goal.After-struct_known-1) → IsWellFormed c.args.self.now
form c = subst IsWellFormed c.self.view_is (form_told c.self.inside.bytes.now c.self.invariant.0)

inside : (c : goal.After-struct_known-1) → c.in_ok-i.i < (sizes_of c.args.self.now).records
inside c = omega (arith, c.in_ok-i.ensures)

entry : (c : goal.After-struct_known-1) → c.read_record-entry.result ≡ record_at c.args.self.now c.in_ok-i.i
entry c =
    c.read_record-entry.ensures
    ∙ ap (λ start. read_record c.self.inside.bytes.now start) (c.record_start.ensures ∙ ap (λ (h : Sizes). record_start h.cells c.in_ok-i.i) c.self.invariant.1)
    ∙ ap (λ b. record_at b c.in_ok-i.i) c.self.view_is

back : (c : goal.After-struct_known-1) → c.read_record-entry.result.next ≤ c.in_ok-i.i
back c = let sound = (form c).records c.in_ok-i.i (inside c) in omega (arith, sound.back, ap (λ (r : Record). r.next) (entry c))

pub overflow_cast-result : goal.overflow_cast-result
overflow_cast-result c = omega (arith, back c, c.in_ok-i.ensures)

pub returns-clause-list : goal.returns-clause-list
returns-clause-list c =
    let head : c.args.head ≡ c.in_ok-i.i + 1 = omega (arith, c.in_ok-i.ensures) in
    let list = list_in-at c.args.self.now (form c) c.in_ok-i.i (inside c) in
    ap (list_in c.args.self.now) head ∙ list ∙ ap (λ (r : Record). (r.value, r.dot) ∷ list_in c.args.self.now r.next) (sym (entry c))

pub returns-clause-back : goal.returns-clause-back
returns-clause-back c = omega (arith, back c, c.in_ok-i.ensures)
