use Rattle.std.proofs.Common.{◌+◌, arith}
use Rattle.pg_select.specs.Inside.words.Positions.{values_of}
use Rattle.pg_table.specs.Inside.view.Raising.{by_table_strings, by_table_starts}
use Rattle.pg_table.proofs.view.Levels.{level_step, level_end}
use Rattle.pg_table.proofs.view.CellWalks.{starts_more, starts_none}
use Rattle.pg_table.proofs.view.walks.walk.Goals as goal

pub loop-start-preserved : goal.loop-start-preserved
loop-start-preserved c =
    let b = c.args.view.now in
    let w = c.args.w.now in
    record {
      values = level_step (by_table_starts b w c.loop-start.start) (by_table_strings b w c.loop-start.start 1) (by_table_starts b w (c.loop-start.start + 1)) (by_table_starts b w 0)
          (values_of c.args.out.now) (values_of c.loop-start.out) (values_of c.take_strings.new.out)
          (λ p. starts_more b w p c.loop-start.start c.loop-start-test.true) c.loop-start.invariant.values c.take_strings.ensures.values;
      uncovered = c.take_strings.ensures.uncovered;
    }

pub returns-clause-values : goal.returns-clause-values
returns-clause-values c =
    let b = c.args.view.now in
    let w = c.args.w.now in
    level_end (by_table_starts b w c.loop-start.start) (by_table_starts b w 0) (values_of c.args.out.now) (values_of c.loop-start.out)
    (λ p. starts_none b w p c.loop-start.start (omega arith)) c.loop-start.invariant.values
