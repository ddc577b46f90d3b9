use Rattle.std.proofs.Common.{◌∙◌, arith, refl}
use Rattle.pg_outside.proofs.KnownBytes.{kept, kept_twice, kept_then_read}
use Rattle.pg_outside.proofs.streams.read_some.Goals as goal

pub loop-init : goal.loop-init
loop-init g c = (refl, kept _)

pub returns-in-Ok : goal.returns-in-Ok
returns-in-Ok g c = record {
  bound = c.in-Ok.ensures.bound;
  ok = kept_then_read _ _ _ _ c.loop.invariant.1 c.in-Ok.ensures.bytes.0;
  end = λ none some. c.in-Ok.ensures.bytes.1 none (omega (arith, some, c.loop.invariant.0));
  err = tt;
}

pub returns-in-Err-2 : goal.returns-in-Err-2
returns-in-Err-2 g c = record { bound = tt; ok = tt; end = tt; err = kept_twice _ _ _ c.loop.invariant.1 c.in-Err-2.ensures.bytes }

pub loop-preserved : goal.loop-preserved
loop-preserved g c = (c.read.auto.buf ∙ c.loop.invariant.0, kept_twice _ _ _ c.loop.invariant.1 c.in-Err.ensures.bytes)

pub loop-smaller : goal.loop-smaller
loop-smaller g c = omega (arith, c.loop-test.true)

pub returns : goal.returns
returns g c = record { bound = tt; ok = tt; end = tt; err = c.loop.invariant.1 }
