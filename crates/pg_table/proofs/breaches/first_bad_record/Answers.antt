use Rattle.std.proofs.Common.{sym, ◌∙◌, ap, arith}
use Rattle.pg_table.specs.Inside.Extents.{read_record}
use Rattle.pg_table.proofs.parts.BreachLaws.{bad_record, all_records}
use Rattle.pg_table.proofs.breaches.first_bad_record.Goals as goal

pub returns-in-Some-clause-all : goal.returns-in-Some-clause-all
returns-in-Some-clause-all c =
    bad_record c.args.bytes.now c.args.sizes.now c.records.i c.read_record-record.result c.in-Some.rule c.records-test.true
    (c.read_record-record.ensures ∙ ap (read_record c.args.bytes.now) c.record_start.ensures) (sym c.in-Some.ensures)

pub returns-clause-all : goal.returns-clause-all
returns-clause-all c = all_records c.args.bytes.now c.args.sizes.now (λ k inside. c.records.invariant k (omega arith))
