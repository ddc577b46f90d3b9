use Rattle.std.proofs.Common.{rules, ◌∙◌, ap, refl, ◌≡◌, length, sym, arith}
use Rattle.std.proofs.lemmas.Grind.{common_steps}
use Rattle.pg_told_disk.proofs.ToldBy.{keeps}
use Rattle.pg_told_disk.proofs.Calls.{rose_since, later_both, taken, made_step}
use Rattle.pg_told_disk.proofs.told_disk.ToldDiskSystem.make.Goals as goal

pub returns-in-Some : goal.returns-in-Some
returns-in-Some c = record {
  ok = keeps c.args.self.now.is_told c.args.self.now.links.items c.args.self.now.log.items;
  err = tt;
  later = c.next_fails.ensures.later;
  taken = taken _ c.args.self.now.links.items c.args.self.now.log.items c.args.name.now _ (sym (rw c.deref.ensures.value at c.if-is_link.ensures))
      (sym (rw c.deref-2.ensures.value at c.in-Some.ensures));
  ok_failures = c.if-next_fails.ensures.calm refl;
  failed = tt;
}

pub returns-in-Ok : goal.returns-in-Ok
returns-in-Ok c = record {
  ok = let counted : c.len-number.result ≡ length c.args.self.now.log.items = grind (arith, common_steps) in
      made_step _ _ _ _ _ _ _ _ _ c.change.ensures.told c.change.ensures.links c.change.ensures.log c.in-Ok.ensures.ok counted
      (sym (rw c.deref.ensures.value at c.if-is_link.ensures)) (sym (rw c.deref-2.ensures.value at c.in-None.ensures));
  err = tt;
  later = search rules;
  taken = tt;
  ok_failures = ap (λ p. p.failures) c.change.ensures.failing ∙ c.if-next_fails.ensures.calm refl;
  failed = tt;
}

pub returns-then-next_fails : goal.returns-then-next_fails
returns-then-next_fails c = record {
  ok = tt;
  err = keeps c.args.self.now.is_told c.args.self.now.links.items c.args.self.now.log.items;
  taken = tt;
  later = c.next_fails.ensures.later;
  ok_failures = tt;
  failed = c.if-next_fails.ensures.rose refl;
}

pub returns-then-is_link : goal.returns-then-is_link
returns-then-is_link c = record {
  ok = keeps c.args.self.now.is_told c.args.self.now.links.items c.args.self.now.log.items;
  err = tt;
  later = c.next_fails.ensures.later;
  taken = search rules;
  ok_failures = c.if-next_fails.ensures.calm refl;
  failed = tt;
}

pub returns-in_default : goal.returns-in_default
returns-in_default c = record {
  ok = tt;
  err = keeps c.args.self.now.is_told c.args.self.now.links.items c.args.self.now.log.items;
  later = later_both _ _ _ c.next_fails.ensures.later c.fail.ensures.later;
  taken = tt;
  ok_failures = tt;
  failed = rose_since _ _ _ (c.if-next_fails.ensures.calm refl) c.fail.ensures.rose;
}
