use Rattle.pg_select.proofs.LawsSums.{positions_within, candidates_few, totals_small, counted_light, sums_are_parts}
use Rattle.pg_select.proofs.laws.sums_are_small.Goals as goal

pub returns : goal.returns
returns c = record { positions = positions_within; candidates = candidates_few; totals = totals_small; counted_positions = counted_light; parts = sums_are_parts }
