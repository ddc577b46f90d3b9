use Rattle.std.proofs.Common.{arith, rules}
use Rattle.pg_outside.proofs.MemoryCounts.{noted, noted_others, noted_later, noted_by_one}
use Rattle.pg_outside.proofs.Results.{no_value}
use Rattle.pg_outside.proofs.memory.missing.note_name.Goals as goal

pub returns : goal.returns
returns c = record {
  counted = noted _ _ _ c.in_ok-push.ensures.items _ c.in_ok-name.ensures.ok;
  others = noted_others _ _ _ c.in_ok-push.ensures.items _ c.in_ok-name.ensures.ok;
  later = noted_later _ _ _ c.in_ok-push.ensures.items;
  by_one = noted_by_one _ _ _ c.in_ok-push.ensures.items;
  err = tt;
}

pub returns-in_err-name : goal.returns-in_err-name
returns-in_err-name c = record {
  counted = no_value _ c.from_residual.result c.from_residual.ensures.0;
  others = no_value _ c.from_residual.result c.from_residual.ensures.0;
  later = λ q. omega arith;
  by_one = λ q. omega arith;
  err = search rules;
}

pub returns-in_err-push : goal.returns-in_err-push
returns-in_err-push c = record {
  counted = no_value _ c.from_residual-in_err-push.result c.from_residual-in_err-push.ensures.0;
  others = no_value _ c.from_residual-in_err-push.result c.from_residual-in_err-push.ensures.0;
  later = search rules;
  by_one = search rules;
  err = search rules;
}
