use Rattle.std.proofs.Common.{◌+◌, add-one, length, arith}
use Rattle.std.proofs.lemmas.List.{take_rest, drop_all}
use Rattle.pg_audit.proofs.Cuts.{feed_at, feed_nowhere}
use Rattle.pg_audit.proofs.lines.first_line.Goals as goal

pub returns-in-Some-clause-line : goal.returns-in-Some-clause-line
returns-in-Some-clause-line c = rw add-one (feed_at c.args.rest.now c.in-Some.end c.in-Some.ensures.0.before c.in-Some.ensures.0.high c.in-Some.ensures.1).0

pub returns-in-Some-clause-rest : goal.returns-in-Some-clause-rest
returns-in-Some-clause-rest c =
    rw (take_rest c.args.rest.now (c.in-Some.end + 1), add-one) (feed_at c.args.rest.now c.in-Some.end c.in-Some.ensures.0.before c.in-Some.ensures.0.high c.in-Some.ensures.1).1

pub returns-in-None-clause-line : goal.returns-in-None-clause-line
returns-in-None-clause-line c = (feed_nowhere c.args.rest.now c.in-None.ensures).0

pub returns-in-None-clause-rest : goal.returns-in-None-clause-rest
returns-in-None-clause-rest c =
    rw (take_rest c.args.rest.now (length c.args.rest.now), drop_all (length c.args.rest.now) c.args.rest.now (omega arith)) (feed_nowhere c.args.rest.now c.in-None.ensures).1
