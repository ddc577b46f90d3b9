use Rattle.pg_table.proofs.parts.FormLaws.{no_sizes}
use Rattle.pg_table.proofs.breaches.first_breach.Goals as goal

pub returns-in-Some-clause-reader : goal.returns-in-Some-clause-reader
returns-in-Some-clause-reader c = no_sizes c.args.bytes.now c.in-Some.ensures.sizes
