use Rattle.std.proofs.Common.{refl, ap, arith, rules}
use Rattle.pg_outside.specs.Inside.calls.ListedCalls.{listed_calls}
use Rattle.pg_outside.proofs.memory.files.MemoryFiles.next_plan.Goals as goal

pub returns-then-is_some : goal.returns-then-is_some
returns-then-is_some c = record {
  plan = c.next-plan.ensures.plan;
  files = refl;
  alloc = refl;
  missing = refl;
  made = refl;
  listed = ap listed_calls c.next-plan.ensures.listed;
  calls = c.next-plan.ensures.calls;
  reads = search rules;
  writes = search rules;
  reads_by_one = search rules;
  writes_by_one = search rules;
  reads_rose = search rules;
  writes_rose = search rules;
  reads_same = search rules;
  writes_same = search rules;
}

pub returns-else-is_some : goal.returns-else-is_some
returns-else-is_some c = record {
  plan = c.next-plan.ensures.plan;
  files = refl;
  alloc = refl;
  missing = refl;
  made = refl;
  listed = ap listed_calls c.next-plan.ensures.listed;
  calls = c.next-plan.ensures.calls;
  reads = omega arith;
  writes = omega arith;
  reads_by_one = omega arith;
  writes_by_one = omega arith;
  reads_rose = search rules;
  writes_rose = search rules;
  reads_same = search rules;
  writes_same = search rules;
}
