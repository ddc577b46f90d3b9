use Rattle.std.proofs.Common.{refl, rules}
use Rattle.pg_told_disk.proofs.Calls.{stayed_step, stored_step}
use Rattle.pg_told_disk.proofs.told_disk.ToldDiskSystem.sync.Goals as goal

pub returns-then-next_fails : goal.returns-then-next_fails
returns-then-next_fails c = record {
  file = refl;
  ok = tt;
  err = stayed_step _ _ _ _ _ _ _ c.change.ensures.told c.change.ensures.links c.change.ensures.log;
  later = search rules;
  ok_failures = tt;
  failed = search rules;
}

pub returns : goal.returns
returns c = record {
  file = refl;
  ok = stored_step _ _ _ _ _ _ _ c.change-2.ensures.told c.change-2.ensures.links c.change-2.ensures.log;
  err = tt;
  later = search rules;
  ok_failures = search rules;
  failed = tt;
}
