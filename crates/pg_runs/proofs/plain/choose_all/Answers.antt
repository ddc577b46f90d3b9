use Rattle.pg_runs.proofs.CountedAbove.{counted_above}
use Rattle.pg_runs.proofs.plain.choose_all.Goals as goal

pub choose_at-requires-clause-counted : goal.choose_at-requires-clause-counted
choose_at-requires-clause-counted g c = counted_above c.candidates.at (g.E.Engine.meaning c.candidates.engine).counts (c.next_candidate.new.at, (c.in-Some.good, c.in-Some.bad)) _ c.in-Some.ensures
