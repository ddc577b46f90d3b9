use Rattle.std.proofs.Common.{◌≡◌, ◌≤◌, length}
use Rattle.pg_runs.proofs.plain.run_passes.Given as goal

abbrev pub invariant-passes : goal.invariant-passes
invariant-passes g l = record {
  begun : (g.E.Engine.meaning l.engine).begun ≤ length l.passes.items;
  signs : (g.E.Engine.meaning l.engine).signs ≡ (g.E.Engine.meaning l.fn.engine).signs;
}
