use Rattle.std.proofs.Common.{◌∙◌, refl, ap, arith, rules}
use Rattle.pg_outside.specs.Inside.calls.ListedCalls.{listed_calls}
use Rattle.pg_outside.proofs.Results.{on_err, no_value}
use Rattle.pg_outside.proofs.ListedCalls.{not_listed, not_unlisted, not_kept}
use Rattle.pg_outside.proofs.memory.sink.MemorySinkSink.put.Goals as goal

pub returns-then-not-has_room : goal.returns-then-not-has_room
returns-then-not-has_room c = record {
  whole = no_value _ c.fail.result c.fail.ensures.failed;
  part = search rules;
  later = c.fail.ensures.later;
  failed = on_err c.fail.result (omega (arith, c.fail.ensures.faults));
  puts = ap (λ plans. plans.calls) c.fail.ensures.plans ∙ c.next-plan.ensures.calls;
  listed = ap listed_calls (ap (λ plans. plans.listed.items) c.fail.ensures.plans ∙ c.next-plan.ensures.listed);
  room = ap (λ held. held.room) c.fail.ensures.held;
  listed_fails = λ _. c.fail.ensures.failed;
  past_fails = λ _. c.fail.ensures.failed;
  past = λ _. ap (λ held. held.bytes.items) c.fail.ensures.held;
  keeps_none = λ _. ap (λ held. held.bytes.items) c.fail.ensures.held;
  keeps = search rules;
  succeeds = search rules;
  ok_faults = no_value _ c.fail.result c.fail.ensures.failed;
  by_one = c.fail.ensures.by_one;
}

pub returns-in-None : goal.returns-in-None
returns-in-None c = record {
  whole = c.append.ensures.bytes;
  part = tt;
  later = omega arith;
  failed = tt;
  puts = c.next-plan.ensures.calls;
  listed = ap listed_calls c.next-plan.ensures.listed;
  room = c.append.ensures.room;
  listed_fails = λ listed. absurd (not_listed _ _ _ c.next-plan.ensures.plan c.in-None.is listed);
  past_fails = search rules;
  past = search rules;
  keeps_none = λ kept. absurd (not_kept _ _ _ _ c.next-plan.ensures.plan c.in-None.is kept);
  keeps = λ keep kept. absurd (not_kept _ _ _ _ c.next-plan.ensures.plan c.in-None.is kept);
  succeeds = search rules;
  ok_faults = refl;
  by_one = omega arith;
}

pub returns-in-Some : goal.returns-in-Some
returns-in-Some c = record {
  whole = no_value _ c.fail-in-Some.result c.fail-in-Some.ensures.failed;
  part = search rules;
  later = c.fail-in-Some.ensures.later;
  failed = on_err c.fail-in-Some.result (omega (arith, c.fail-in-Some.ensures.faults));
  puts = search rules;
  listed = search rules;
  room = search rules;
  listed_fails = λ _. c.fail-in-Some.ensures.failed;
  past_fails = λ _. c.fail-in-Some.ensures.failed;
  past = search rules;
  keeps_none = search rules;
  keeps = search rules;
  succeeds = λ unlisted. absurd (not_unlisted _ _ _ _ c.next-plan.ensures.plan c.in-Some.is unlisted);
  ok_faults = no_value _ c.fail-in-Some.result c.fail-in-Some.ensures.failed;
  by_one = c.fail-in-Some.ensures.by_one;
}
