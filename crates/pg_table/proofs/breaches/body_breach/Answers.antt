use Rattle.std.proofs.Common.{true}
use Rattle.pg_table.proofs.parts.FormLaws.{form_is, no_cells, no_records}
use Rattle.pg_table.proofs.parts.BreachLaws.{record_is}
use Rattle.pg_table.proofs.breaches.body_breach.Goals as goal

pub returns-in-Some-clause-reader : goal.returns-in-Some-clause-reader
returns-in-Some-clause-reader c = no_cells c.args.bytes.now c.of-sizes.result c.requires.sizes c.of-sizes.ensures c.in-Some.ensures.all

pub returns-in-Some-first_bad_record-clause-reader : goal.returns-in-Some-first_bad_record-clause-reader
returns-in-Some-first_bad_record-clause-reader c =
    no_records c.args.bytes.now c.of-sizes.result c.requires.sizes c.of-sizes.ensures c.in-None.ensures.all c.in-Some-first_bad_record.ensures.all

pub returns-in-Some-first_bad_record-clause-breach : goal.returns-in-Some-first_bad_record-clause-breach
returns-in-Some-first_bad_record-clause-breach c =
    let bad = c.in-Some-first_bad_record in
    record_is c.args.bytes.now c.of-sizes.result bad.i bad.rule c.of-sizes.ensures c.requires.sizes c.in-None.ensures.all bad.ensures.inside bad.ensures.before bad.ensures.rule

pub returns-in-None-first_bad_record-clause-reader : goal.returns-in-None-first_bad_record-clause-reader
returns-in-None-first_bad_record-clause-reader c =
    form_is c.args.bytes.now c.of-sizes.result true true true c.requires.sizes c.of-sizes.ensures c.in-None.ensures.all c.in-None-first_bad_record.ensures.all
