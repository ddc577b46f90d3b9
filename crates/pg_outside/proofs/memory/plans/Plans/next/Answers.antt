use Rattle.std.proofs.Common.{arith}
use Rattle.pg_outside.specs.Faults.{next_count}
use Rattle.pg_outside.proofs.ListedCalls.{kept_of}
use Rattle.pg_outside.proofs.memory.plans.Plans.next.Goals as goal

pub returns-clause-plan : goal.returns-clause-plan
returns-clause-plan c = grind (arith, kept_of c.args.self.now.listed.items (next_count c.args.self.now.calls))
