use Rattle.std.proofs.Common.{refl}
use Rattle.std.proofs.lemmas.Result.{IfOk-from_err}
use Rattle.pg_outside.proofs.Results.{if_err, no_value, not_err}
use Rattle.pg_outside.proofs.ReadErrors.{long_or_failed, memory_or_long, memory_or_failed}
use Rattle.pg_outside.proofs.disk.read.read_piece.Goals as goal

pub returns-in-Err : goal.returns-in-Err
returns-in-Err g c = record {
  same = c.read_some.ensures.same;
  file = c.read_some.ensures.file;
  bound = tt;
  bytes = tt;
  items = tt;
  ok_failures = tt;
  long = λ is. long_or_failed _ is refl;
  failed = λ _. c.in-Err.ensures.failed;
  other_failures = λ apart. absurd (apart refl);
}

pub returns-in_err-extend_from_slice : goal.returns-in_err-extend_from_slice
returns-in_err-extend_from_slice g c = record {
  same = c.read_some.ensures.same;
  file = c.read_some.ensures.file;
  bound = IfOk-from_err _ _ c.from_residual.ensures.0;
  bytes = IfOk-from_err _ _ c.from_residual.ensures.0;
  items = IfOk-from_err _ _ c.from_residual.ensures.0;
  ok_failures = no_value _ c.from_residual.result c.from_residual.ensures.0;
  long = λ is. memory_or_long _ c.from_residual.ensures.1 is;
  failed = λ is. absurd (memory_or_failed _ c.from_residual.ensures.1 is);
  other_failures = if_err _ c.from_residual.result (λ _ _. c.in-Ok.ensures.ok_failures);
}

pub returns : goal.returns
returns g c = record {
  same = c.read_some.ensures.same;
  file = c.read_some.ensures.file;
  bound = c.in-Ok.ensures.bound;
  bytes = c.in-Ok.ensures.bytes;
  items = c.in_ok-extend_from_slice.ensures.items;
  ok_failures = c.in-Ok.ensures.ok_failures;
  long = λ is. not_err _ _ is;
  failed = λ is. absurd (not_err _ _ is);
  other_failures = tt;
}
