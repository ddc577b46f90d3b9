use Rattle.std.proofs.Common.{refl, sym}
use Rattle.pg_told_disk.proofs.ToldBy.{keeps}
use Rattle.pg_told_disk.proofs.Calls.{rose_since, later_both, leads_none, opened, writable}
use Rattle.pg_told_disk.proofs.told_disk.ToldDiskSystem.open_to_write.Goals as goal

pub returns-in_default : goal.returns-in_default
returns-in_default c = record {
  same = keeps c.args.self.now.is_told c.args.self.now.links.items c.args.self.now.log.items;
  opened = leads_none _ c.args.self.now.links.items c.args.self.now.log.items c.args.name.now
      (sym (rw (c.deref-2.ensures.value, c.real_of-real.ensures, c.deref.ensures.value) at c.in_default.ensures));
  writable = tt;
  later = c.next_fails.ensures.later;
  ok_failures = c.if-next_fails.ensures.calm refl;
  failed = tt;
}

pub returns-in-Some-mode_of : goal.returns-in-Some-mode_of
returns-in-Some-mode_of c = record {
  same = keeps c.args.self.now.is_told c.args.self.now.links.items c.args.self.now.log.items;
  opened = opened _ c.args.self.now.links.items c.args.self.now.log.items c.args.name.now c.in-Some.number
      (sym (rw (c.deref-2.ensures.value, c.real_of-real.ensures, c.deref.ensures.value) at c.in-Some.ensures));
  writable = writable _ c.args.self.now.links.items c.args.self.now.log.items c.in-Some.number c.in-Some-mode_of.mode (sym (rw c.deref-3.ensures.value at c.in-Some-mode_of.ensures))
      (sym c.if-lets_write.ensures);
  later = c.next_fails.ensures.later;
  ok_failures = c.if-next_fails.ensures.calm refl;
  failed = tt;
}

pub returns-then-next_fails : goal.returns-then-next_fails
returns-then-next_fails c = record {
  same = keeps c.args.self.now.is_told c.args.self.now.links.items c.args.self.now.log.items;
  opened = tt;
  writable = tt;
  later = c.next_fails.ensures.later;
  ok_failures = tt;
  failed = c.if-next_fails.ensures.rose refl;
}

pub returns-then-is_link : goal.returns-then-is_link
returns-then-is_link c = record {
  same = keeps c.args.self.now.is_told c.args.self.now.links.items c.args.self.now.log.items;
  opened = tt;
  writable = tt;
  later = later_both _ _ _ c.next_fails.ensures.later c.fail.ensures.later;
  ok_failures = tt;
  failed = rose_since _ _ _ (c.if-next_fails.ensures.calm refl) c.fail.ensures.rose;
}

pub returns-in_default-mode_of : goal.returns-in_default-mode_of
returns-in_default-mode_of c = record {
  same = keeps c.args.self.now.is_told c.args.self.now.links.items c.args.self.now.log.items;
  opened = tt;
  writable = tt;
  later = later_both _ _ _ c.next_fails.ensures.later c.fail-in_default-mode_of.ensures.later;
  ok_failures = tt;
  failed = rose_since _ _ _ (c.if-next_fails.ensures.calm refl) c.fail-in_default-mode_of.ensures.rose;
}
