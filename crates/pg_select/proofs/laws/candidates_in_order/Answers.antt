use Rattle.pg_select.proofs.LawsCounts.{candidates_in_order, candidates_are_counted}
use Rattle.pg_select.proofs.laws.candidates_in_order.Goals as goal

pub returns : goal.returns
returns c = record { order = candidates_in_order; counted = candidates_are_counted }
