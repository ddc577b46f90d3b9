use Rattle.std.proofs.Common.{refl, arith}
use Rattle.pg_trie.specs.Inside.Lists.{outputs_at}
use Rattle.pg_select.specs.Inside.words.Positions.{values_of, covers_of}
use Rattle.pg_hyph.specs.Inside.ListValues.{value_by, cover_by}
use Rattle.pg_hyph.proofs.Loops.{start_next, start_last}
use Rattle.pg_hyph.proofs.walk.walk.Goals as goal

pub loop-start-init : goal.loop-start-init
loop-start-init c = record {
  values = λ p inside. refl;
  covers = λ p inside. refl;
}

pub loop-start-preserved : goal.loop-start-preserved
loop-start-preserved c = record {
  values = start_next value_by (outputs_at c.args.trie.now.patterns c.args.trie.now.hopeless) c.args.w.now c.loop-start.start (values_of c.args.out.now)
      (values_of c.loop-start.out) (values_of c.raise_by_strings.new.out) (omega arith) c.loop-start.invariant.values c.raise_by_strings.ensures.values;
  covers = start_next (cover_by c.args.pass.now) (outputs_at c.args.trie.now.patterns c.args.trie.now.hopeless) c.args.w.now c.loop-start.start
      (covers_of c.args.out.now) (covers_of c.loop-start.out) (covers_of c.raise_by_strings.new.out) (omega arith) c.loop-start.invariant.covers c.raise_by_strings.ensures.covers;
}

pub returns-clause-values : goal.returns-clause-values
returns-clause-values c = start_last value_by (outputs_at c.args.trie.now.patterns c.args.trie.now.hopeless) c.args.w.now c.loop-start.start
    (values_of c.args.out.now) (values_of c.loop-start.out) (omega arith) c.loop-start.invariant.values

pub returns-clause-covers : goal.returns-clause-covers
returns-clause-covers c = start_last (cover_by c.args.pass.now) (outputs_at c.args.trie.now.patterns c.args.trie.now.hopeless) c.args.w.now c.loop-start.start
    (covers_of c.args.out.now) (covers_of c.loop-start.out) (omega arith) c.loop-start.invariant.covers
