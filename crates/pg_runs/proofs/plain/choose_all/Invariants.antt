use Rattle.pg_runs.specs.Inside.Keeping.{KeepsPass}
use Rattle.pg_runs.proofs.plain.choose_all.Given as goal

abbrev pub invariant-candidates : goal.invariant-candidates
invariant-candidates g l = KeepsPass (g.E.Engine.meaning l.fn.engine) (g.E.Engine.meaning l.engine)
