use Rattle.std.proofs.Common.{refl, arith, rules}
use Rattle.pg_outside.proofs.WhereTold.{was_put, puts_within, stays_untold}
use Rattle.pg_outside.proofs.quiet.sink.QuietSinkSink.put.Goals as goal

pub returns-then-has_room : goal.returns-then-has_room
returns-then-has_room c = record {
  whole = was_put c.args.self.now.is_told _ _ _ c.append.ensures.bytes;
  part = tt;
  later = omega arith;
  failed = tt;
  puts = omega arith;
  succeeds = refl;
  within = puts_within c.args.self.now.is_told _ _ _ _ c.append.ensures.bytes;
  past = search rules;
  untold = stays_untold c.args.self.now.is_told _ _;
  room = c.append.ensures.room;
}

pub returns-else-self : goal.returns-else-self
returns-else-self c = record {
  whole = tt;
  part = tt;
  later = omega arith;
  failed = tt;
  puts = omega arith;
  succeeds = refl;
  within = search rules;
  past = search rules;
  untold = λ _. refl;
  room = refl;
}
