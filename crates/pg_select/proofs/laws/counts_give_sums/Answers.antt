use Rattle.pg_select.proofs.LawsCounts.{counts_give_sums, candidates_listed}
use Rattle.pg_select.proofs.laws.counts_give_sums.Goals as goal

pub returns : goal.returns
returns c = record { counts = counts_give_sums; candidates = candidates_listed }
