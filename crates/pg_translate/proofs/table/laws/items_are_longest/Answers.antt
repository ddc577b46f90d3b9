use Rattle.std.proofs.Common.{length, le_refl}
use Rattle.pg_translate.proofs.CutLaws.{longest, counted}
use Rattle.pg_translate.proofs.table.laws.items_are_longest.Goals as goal

pub returns : goal.returns
returns c = λ line. record {
  longest = longest c.args.table.now c.keeps_rules.ensures c.args.place (length line) 1 line (le_refl (length line));
  columns = counted c.args.table.now c.args.place (length line) 1 line;
}
