use Rattle.pg_select.proofs.LawsLonger.{counted_behind, counted_before, nothing_behind, nothing_before}
use Rattle.pg_select.proofs.laws.nothing_counts_longer.Goals as goal

pub returns : goal.returns
returns c = record {
  counted = λ pass P H w p good. (counted_behind pass P H w p good, counted_before pass P H w p good);
  longer = λ m words pass P H is. (nothing_behind m words pass P H is, nothing_before m words pass P H is);
}
