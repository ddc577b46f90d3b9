use Rattle.std.proofs.Common.{refl, sym, ◌∙◌, arith, rules}
use Rattle.pg_outside.proofs.Results.{at_ok}
use Rattle.pg_outside.proofs.WhereTold.{was_written}
use Rattle.pg_outside.proofs.quiet.files.QuietFilesFiles.write.Goals as goal

pub returns-then-is_err : goal.returns-then-is_err
returns-then-is_err c = record {
  all = record { whole = tt; part = tt; reads = λ _. omega arith; writes = λ _. omega arith; failed = tt; calls = c.and-self.ensures };
  succeeds = refl;
  within = search rules;
  rooms = c.store.ensures.rooms;
}

pub returns-else-is_err : goal.returns-else-is_err
returns-else-is_err c = record {
  all = record {
    whole = was_written c.args.self.now.is_told _ _ _ _ (at_ok c.store.result (sym c.is_err.ensures.value ∙ c.if-is_err.false) c.store.ensures.ok);
    part = tt;
    reads = λ _. omega arith;
    writes = λ _. omega arith;
    failed = tt;
    calls = c.and-self.ensures;
  };
  succeeds = refl;
  within = λ _ _. refl;
  rooms = c.store.ensures.rooms;
}
