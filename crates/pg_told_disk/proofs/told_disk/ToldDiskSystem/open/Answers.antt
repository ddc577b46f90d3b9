use Rattle.std.proofs.Common.{refl, sym}
use Rattle.pg_told_disk.proofs.ToldBy.{keeps}
use Rattle.pg_told_disk.proofs.Calls.{rose_since, later_both, opened}
use Rattle.pg_told_disk.proofs.told_disk.ToldDiskSystem.open.Goals as goal

pub returns-in-Some : goal.returns-in-Some
returns-in-Some c = record {
  same = keeps c.args.self.now.is_told c.args.self.now.links.items c.args.self.now.log.items;
  opened = opened _ c.args.self.now.links.items c.args.self.now.log.items c.args.name.now c.in-Some.number
      (sym (rw (c.deref.ensures.value, c.real_of.ensures, c.deref-2.ensures.value) at c.in-Some.ensures));
  start = refl;
  later = c.next_fails.ensures.later;
  ok_failures = c.if-next_fails.ensures.calm refl;
  failed = tt;
}

pub returns-then-next_fails : goal.returns-then-next_fails
returns-then-next_fails c = record {
  same = keeps c.args.self.now.is_told c.args.self.now.links.items c.args.self.now.log.items;
  opened = tt;
  start = tt;
  later = c.next_fails.ensures.later;
  ok_failures = tt;
  failed = c.if-next_fails.ensures.rose refl;
}

pub returns-in-None : goal.returns-in-None
returns-in-None c = record {
  same = keeps c.args.self.now.is_told c.args.self.now.links.items c.args.self.now.log.items;
  opened = tt;
  start = tt;
  later = later_both _ _ _ c.next_fails.ensures.later c.fail.ensures.later;
  ok_failures = tt;
  failed = rose_since _ _ _ (c.if-next_fails.ensures.calm refl) c.fail.ensures.rose;
}
