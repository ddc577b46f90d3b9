use Rattle.std.proofs.Common.{◌*◌}
use Rattle.pg_types.specs.declared.limits.TheConstants.{WEIGHT_MAX}
use Rattle.pg_runs.specs.Inside.Keeping.{AreAtMost, KeepsPass}
use Rattle.pg_runs.proofs.plain.count_words.Given as goal

abbrev pub invariant-words : goal.invariant-words
invariant-words g l = record {
  kept : KeepsPass (g.E.Engine.meaning l.fn.engine) (g.E.Engine.meaning l.engine);
  sums : AreAtMost (g.E.Engine.meaning l.engine).counts (WEIGHT_MAX * l.seen);
}
