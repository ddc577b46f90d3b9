use Rattle.std.proofs.Common.{refl, string_bytes}
use Rattle.pg_told_disk.proofs.ToldBy.{keeps}
use Rattle.pg_told_disk.proofs.Calls.{rose_since, later_both, is_followed}
use Rattle.pg_told_disk.proofs.told_disk.ToldDiskSystem.read_link.Goals as goal

pub returns-in-Some-text_of : goal.returns-in-Some-text_of
returns-in-Some-text_of c = record {
  same = keeps c.args.self.now.is_told c.args.self.now.links.items c.args.self.now.log.items;
  text = is_followed _ c.args.self.now.links.items c.args.self.now.log.items c.args.name.now (string_bytes c.in-Some-text_of.text) c.in-Some.link.now
      (rw c.deref.ensures.value at c.in-Some.ensures) c.in-Some-text_of.ensures.said;
  later = c.next_fails.ensures.later;
  ok_failures = c.if-next_fails.ensures.calm refl;
  failed = tt;
}

pub returns-then-next_fails : goal.returns-then-next_fails
returns-then-next_fails c = record {
  same = keeps c.args.self.now.is_told c.args.self.now.links.items c.args.self.now.log.items;
  text = tt;
  later = c.next_fails.ensures.later;
  ok_failures = tt;
  failed = c.if-next_fails.ensures.rose refl;
}

pub returns-in-None : goal.returns-in-None
returns-in-None c = record {
  same = keeps c.args.self.now.is_told c.args.self.now.links.items c.args.self.now.log.items;
  text = tt;
  later = later_both _ _ _ c.next_fails.ensures.later c.fail.ensures.later;
  ok_failures = tt;
  failed = rose_since _ _ _ (c.if-next_fails.ensures.calm refl) c.fail.ensures.rose;
}

pub returns-in-None-text_of : goal.returns-in-None-text_of
returns-in-None-text_of c = record {
  same = keeps c.args.self.now.is_told c.args.self.now.links.items c.args.self.now.log.items;
  text = tt;
  later = later_both _ _ _ c.next_fails.ensures.later c.fail-in-None-text_of.ensures.later;
  ok_failures = tt;
  failed = rose_since _ _ _ (c.if-next_fails.ensures.calm refl) c.fail-in-None-text_of.ensures.rose;
}
