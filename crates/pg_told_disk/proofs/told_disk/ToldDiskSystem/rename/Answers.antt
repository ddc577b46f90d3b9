use Rattle.std.proofs.Common.{rules}
use Rattle.pg_told_disk.proofs.Calls.{renamed_step}
use Rattle.pg_told_disk.proofs.told_disk.ToldDiskSystem.rename.Goals as goal

pub returns : goal.returns
returns c = record {
  ok = renamed_step _ _ _ _ _ _ _ _ _ _ c.change.ensures.told c.change.ensures.links c.change.ensures.log c.in-Ok.ensures.ok c.in-Ok-from_str.ensures.ok;
  err = tt;
  later = search rules;
  ok_failures = search rules;
  failed = tt;
}
