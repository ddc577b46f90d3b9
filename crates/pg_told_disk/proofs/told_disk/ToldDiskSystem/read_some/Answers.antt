use Rattle.std.proofs.Common.{refl}
use Rattle.pg_told_disk.proofs.Calls.{rose_since, later_both}
use Rattle.pg_told_disk.proofs.ToldBy.{keeps}
use Rattle.pg_told_disk.proofs.told_disk.ToldDiskSystem.read_some.Goals as goal

pub returns-then-next_fails : goal.returns-then-next_fails
returns-then-next_fails c = record {
  same = keeps c.args.self.now.is_told c.args.self.now.links.items c.args.self.now.log.items;
  file = refl;
  bound = tt;
  bytes = tt;
  later = c.next_fails.ensures.later;
  ok_failures = tt;
  failed = c.if-next_fails.ensures.rose refl;
}

pub returns-in_default : goal.returns-in_default
returns-in_default c = record {
  same = keeps c.args.self.now.is_told c.args.self.now.links.items c.args.self.now.log.items;
  file = refl;
  bound = tt;
  bytes = tt;
  later = later_both _ _ _ c.next_fails.ensures.later c.fail.ensures.later;
  ok_failures = tt;
  failed = rose_since _ _ _ (c.if-next_fails.ensures.calm refl) c.fail.ensures.rose;
}

pub returns-then-len-file : goal.returns-then-len-file
returns-then-len-file c = record {
  same = keeps c.args.self.now.is_told c.args.self.now.links.items c.args.self.now.log.items;
  file = refl;
  bound = tt;
  bytes = tt;
  later = later_both _ _ _ c.next_fails.ensures.later c.fail-then-len-file.ensures.later;
  ok_failures = tt;
  failed = rose_since _ _ _ (c.if-next_fails.ensures.calm refl) c.fail-then-len-file.ensures.rose;
}

pub returns-clause-same : goal.returns-clause-same
returns-clause-same c = keeps c.args.self.now.is_told c.args.self.now.links.items c.args.self.now.log.items

pub returns-clause-file : goal.returns-clause-file
returns-clause-file c = refl

pub returns-clause-later : goal.returns-clause-later
returns-clause-later c = c.next_fails.ensures.later

pub returns-clause-ok_failures : goal.returns-clause-ok_failures
returns-clause-ok_failures c = c.if-next_fails.ensures.calm refl
