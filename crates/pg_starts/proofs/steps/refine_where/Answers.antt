use Rattle.std.proofs.Common.{◌≡◌, length, subst, rules}
use Rattle.pg_starts.specs.Inside.Orders.{AreOrdered, then_part}
use Rattle.pg_starts.specs.Inside.Starts.{has_window, part_behind}
use Rattle.pg_starts.proofs.Orders.{ordered_same}
use Rattle.pg_starts.proofs.steps.refine_where.Goals as goal

pub returns-then-not-is_there-clause-ok : goal.returns-then-not-is_there-clause-ok
returns-then-not-is_there-clause-ok c = λ order ordered.
    ordered_same order (part_behind c.args.signs.now c.args.at c.args.part) (has_window c.args.signs.now c.args.starts.now c.args.len) c.args.numbers.now c.args.count
    (c.requires.there c.if-not-is_there.true) ordered

pub returns-clause-ok : goal.returns-clause-ok
returns-clause-ok c = λ order ordered.
    let long : length c.in_ok-firsts.firsts.items ≡ c.len.result = search rules in
    subst (AreOrdered (then_part order (part_behind c.args.signs.now c.args.at c.args.part)) (has_window c.args.signs.now c.args.starts.now c.args.len) c.refine.new.numbers)
    long (c.in_ok-firsts.ensures.ok order ordered).ordered
