use Rattle.std.proofs.Common.{arith}
use Rattle.pg_outside.proofs.KnownBytes.{kept, kept_twice, kept_then_written}
use Rattle.pg_outside.proofs.streams.write_some.Goals as goal

pub loop-init : goal.loop-init
loop-init g c = kept _

pub returns-in-Ok : goal.returns-in-Ok
returns-in-Ok g c = record {
  bound = c.in-Ok.ensures.bound;
  ok = kept_then_written _ _ _ _ c.loop.invariant c.in-Ok.ensures.bytes;
  err = tt;
}

pub returns-in-Err-2 : goal.returns-in-Err-2
returns-in-Err-2 g c = record { bound = tt; ok = tt; err = kept_twice _ _ _ c.loop.invariant c.in-Err-2.ensures.bytes }

pub loop-preserved : goal.loop-preserved
loop-preserved g c = kept_twice _ _ _ c.loop.invariant c.in-Err.ensures.bytes

pub loop-smaller : goal.loop-smaller
loop-smaller g c = omega (arith, c.loop-test.true)

pub returns : goal.returns
returns g c = record { bound = tt; ok = tt; err = c.loop.invariant }
