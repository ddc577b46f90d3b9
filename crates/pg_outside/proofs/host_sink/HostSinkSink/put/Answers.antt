use Rattle.std.proofs.Common.{refl, arith}
use Rattle.pg_outside.proofs.host_sink.HostSinkSink.put.Goals as goal

pub returns-in-Ok : goal.returns-in-Ok
returns-in-Ok g c = record {
  whole = tt;
  part = tt;
  later = omega arith;
  failed = tt;
  puts = omega arith;
  one_fault = tt;
  ok_faults = refl;
  reason = tt;
  ok_reason = refl;
  written = c.in-Ok.ensures.whole;
  part_written = tt;
}

pub returns-in-Err : goal.returns-in-Err
returns-in-Err g c = record {
  whole = tt;
  part = tt;
  later = omega arith;
  failed = omega arith;
  puts = omega arith;
  one_fault = omega arith;
  ok_faults = tt;
  reason = refl;
  ok_reason = tt;
  written = tt;
  part_written = c.in-Err.ensures.part;
}
