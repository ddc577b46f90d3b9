use Rattle.std.proofs.Common.{sym}
use Rattle.pg_types.specs.Parameters.{items}
use Rattle.pg_types.proofs.DemandLaws.{nothing_left, surplus_left}
use Rattle.pg_types.proofs.demands.refused_end.Goals as goal

pub returns-in-Ok : goal.returns-in-Ok
returns-in-Ok c = sym (nothing_left c.args.items.now.item_number (items c.args.items.now.rest.now) c.in-Ok.ensures.passed)

pub returns-in-Err : goal.returns-in-Err
returns-in-Err c = sym (surplus_left c.args.items.now.item_number (items c.args.items.now.rest.now) c.in-Err.refusal c.in-Err.ensures.refused)
