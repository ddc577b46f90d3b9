use Rattle.std.proofs.Common.{rules}
use Rattle.pg_told_disk.proofs.Calls.{removed_step, refused_step}
use Rattle.pg_told_disk.proofs.told_disk.ToldDiskSystem.remove.Goals as goal

pub returns-then-next_fails : goal.returns-then-next_fails
returns-then-next_fails c = record {
  ok = tt;
  err = refused_step _ _ _ _ _ _ _ _ c.change.ensures.told c.change.ensures.links c.change.ensures.log c.in-Ok.ensures.ok;
  later = search rules;
  ok_failures = tt;
  failed = search rules;
}

pub returns : goal.returns
returns c = record {
  ok = removed_step _ _ _ _ _ _ _ _ c.change-2.ensures.told c.change-2.ensures.links c.change-2.ensures.log c.in-Ok.ensures.ok;
  err = tt;
  later = search rules;
  ok_failures = search rules;
  failed = tt;
}
