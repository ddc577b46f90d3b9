use Rattle.std.proofs.Common.{refl, sym}
use Rattle.pg_told_disk.proofs.ToldBy.{keeps}
use Rattle.pg_told_disk.proofs.Calls.{stat}
use Rattle.pg_told_disk.proofs.told_disk.ToldDiskSystem.stat.Goals as goal

pub returns : goal.returns
returns c = record {
  same = keeps c.args.self.now.is_told c.args.self.now.links.items c.args.self.now.log.items;
  seen = stat _ c.args.self.now.links.items c.args.self.now.log.items c.args.file.now.number c.in-Some.mode _ c.id_of.ensures
      (sym (rw c.deref.ensures.value at c.in-Some.ensures));
  later = c.next_fails.ensures.later;
  ok_failures = c.if-next_fails.ensures.calm refl;
  failed = tt;
}
