use Rattle.pg_translate.proofs.CutLaws.{cuts_agree}
use Rattle.pg_translate.proofs.table.laws.cuts_agree.Goals as goal

pub returns : goal.returns
returns c = cuts_agree c.args.table.now c.keeps_rules.ensures c.args.place
