use Rattle.std.proofs.Common.{refl, arith, rules}
use Rattle.std.proofs.lemmas.Grind.{common_steps}
use Rattle.pg_told_disk.proofs.Calls.{part_step, wrote_step}
use Rattle.pg_told_disk.proofs.told_disk.ToldDiskSystem.write_some.Goals as goal

pub returns-in_default : goal.returns-in_default
returns-in_default c = record {
  file = refl;
  bound = tt;
  ok = tt;
  err = part_step _ _ _ _ _ _ _ _ c.change-in_default.ensures.told c.change-in_default.ensures.links c.change-in_default.ensures.log;
  later = search rules;
  none = tt;
  ok_failures = tt;
  failed = search rules;
}

pub returns : goal.returns
returns c = record {
  file = refl;
  bound = search rules;
  ok = wrote_step _ _ _ _ _ _ _ c.in-Ok.held _ c.change-2.ensures.told c.change-2.ensures.links c.change-2.ensures.log (grind (arith, common_steps));
  err = tt;
  later = search rules;
  none = search rules;
  ok_failures = search rules;
  failed = tt;
}

pub returns-then-next_fails : goal.returns-then-next_fails
returns-then-next_fails c = record {
  file = refl;
  bound = tt;
  ok = tt;
  err = part_step _ _ _ _ _ _ _ _ c.change.ensures.told c.change.ensures.links c.change.ensures.log;
  later = search rules;
  none = tt;
  ok_failures = tt;
  failed = search rules;
}
