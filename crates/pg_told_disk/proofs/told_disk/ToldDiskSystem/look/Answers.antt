use Rattle.std.proofs.Common.{refl, sym}
use Rattle.pg_told_disk.proofs.ToldBy.{keeps}
use Rattle.pg_told_disk.proofs.Calls.{is_linked, is_open_file, is_missing, is_file}
use Rattle.pg_told_disk.proofs.told_disk.ToldDiskSystem.look.Goals as goal

pub returns-in-None : goal.returns-in-None
returns-in-None c = record {
  same = keeps c.args.self.now.is_told c.args.self.now.links.items c.args.self.now.log.items;
  kind = is_missing _ c.args.self.now.links.items c.args.self.now.log.items c.args.name.now (sym (rw c.deref-2.ensures.value at c.if-is_link.ensures))
      (sym (rw c.deref-3.ensures.value at c.in-None.ensures));
  later = c.next_fails.ensures.later;
  ok_failures = c.if-next_fails.ensures.calm refl;
  failed = tt;
}

pub returns-in-Some : goal.returns-in-Some
returns-in-Some c = record {
  same = keeps c.args.self.now.is_told c.args.self.now.links.items c.args.self.now.log.items;
  kind = is_file _ c.args.self.now.links.items c.args.self.now.log.items c.args.name.now c.in-Some.number _ (sym (rw c.deref-2.ensures.value at c.if-is_link.ensures)) c.id_of.ensures
      (sym (rw c.deref-3.ensures.value at c.in-Some.ensures));
  later = c.next_fails.ensures.later;
  ok_failures = c.if-next_fails.ensures.calm refl;
  failed = tt;
}

pub returns-then-next_fails : goal.returns-then-next_fails
returns-then-next_fails c = record {
  same = keeps c.args.self.now.is_told c.args.self.now.links.items c.args.self.now.log.items;
  kind = tt;
  later = c.next_fails.ensures.later;
  ok_failures = tt;
  failed = c.if-next_fails.ensures.rose refl;
}

pub returns-then-is_open : goal.returns-then-is_open
returns-then-is_open c = record {
  same = keeps c.args.self.now.is_told c.args.self.now.links.items c.args.self.now.log.items;
  kind = is_open_file _ c.args.self.now.links.items c.args.self.now.log.items c.args.name.now (sym (rw c.deref.ensures.value at c.if-is_open.ensures));
  later = c.next_fails.ensures.later;
  ok_failures = c.if-next_fails.ensures.calm refl;
  failed = tt;
}

pub returns-then-is_link : goal.returns-then-is_link
returns-then-is_link c = record {
  same = keeps c.args.self.now.is_told c.args.self.now.links.items c.args.self.now.log.items;
  kind = is_linked _ c.args.self.now.links.items c.args.self.now.log.items c.args.name.now (sym (rw c.deref-2.ensures.value at c.if-is_link.ensures))
      (sym (rw c.deref.ensures.value at c.if-is_open.ensures));
  later = c.next_fails.ensures.later;
  ok_failures = c.if-next_fails.ensures.calm refl;
  failed = tt;
}
