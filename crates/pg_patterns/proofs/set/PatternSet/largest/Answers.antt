use Rattle.std.proofs.Common.{arith}
use Rattle.std.proofs.lemmas.Grind.{common_steps}
use Rattle.pg_patterns.proofs.Sound.{greatest_bound}
use Rattle.pg_patterns.proofs.set.PatternSet.largest.Goals as goal

pub returns-clause-bound : goal.returns-clause-bound
returns-clause-bound c =
    greatest_bound c.self.inside.held.items c.as_slice-entry-items.result.now c.loop-entry.largest _ c.self.invariant c.as_slice-entry-items.ensures.value c.loop-entry.invariant

pub loop-entry-preserved : goal.loop-entry-preserved
loop-entry-preserved c = grind (arith, common_steps)
