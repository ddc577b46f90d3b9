use Rattle.std.proofs.Common.{◌≡◌, ◌+◌, true, false, [], drop, sym, ap, ◌∙◌, arith}
use Rattle.std.proofs.lemmas.List.{length-map, drop_all}
use Rattle.pg_sweep.specs.declared.rows.SweepRow.{SweepRow}
use Rattle.std.proofs.lemmas.Bool.{lt-ltb, le-ltb}
use Rattle.pg_sweep.specs.Promises.{costs_of}
use Rattle.pg_sweep.specs.Inside.Least.{winner_from, first_least}
use Rattle.pg_sweep.proofs.Steps.{costs_from, looked_at}
use Rattle.pg_sweep.proofs.Winners.{winner_agrees}
use Rattle.pg_sweep.proofs.rows.number_of_winner.Goals as goal
use Rattle.pg_sweep.proofs.rows.number_of_winner.Goals.{then-rows-i, else-rows-i}

pub rows-preserved : goal.rows-preserved
rows-preserved c = elim c.if-rows-i.branch [
  | then-rows-i w ↦
      let e : winner_from c.if-rows-i.winner c.if-rows-i.least (c.rows.i + 1 + 1) (drop (c.rows.i + 1) (costs_of c.args.rows.now))
      ≡ first_least (costs_of c.args.rows.now) = rw (w.winner-is, w.least-is)
      (looked_at true c.rows.winner c.rows.least c.rows.i _ _ (drop c.rows.i (costs_of c.args.rows.now)) (drop (c.rows.i + 1) (costs_of c.args.rows.now))
      (costs_from c.args.rows.now c.rows.i _ c.rows-test.true) (lt-ltb _ _ w.if-rows-i.true) c.rows.invariant) in
      e
  | else-rows-i w ↦
      let e : winner_from c.if-rows-i.winner c.if-rows-i.least (c.rows.i + 1 + 1) (drop (c.rows.i + 1) (costs_of c.args.rows.now))
      ≡ first_least (costs_of c.args.rows.now) = rw (w.winner-is, w.least-is)
      (looked_at false c.rows.winner c.rows.least c.rows.i _ _ (drop c.rows.i (costs_of c.args.rows.now)) (drop (c.rows.i + 1) (costs_of c.args.rows.now))
      (costs_from c.args.rows.now c.rows.i _ c.rows-test.true) (le-ltb _ _ w.if-rows-i.false) c.rows.invariant) in
      e
]

pub returns : goal.returns
returns c =
    let rows = c.args.rows.now in
    let none : drop c.rows.i (costs_of rows) ≡ [] = drop_all c.rows.i (costs_of rows) (omega (arith, c.rows-test.false, length-map rows (λ (r : SweepRow). r.cost))) in
    let first : c.rows.winner ≡ first_least (costs_of rows) = ap (winner_from c.rows.winner c.rows.least (c.rows.i + 1)) (sym none) ∙ c.rows.invariant in
    first ∙ winner_agrees (costs_of rows) (omega (arith, c.requires, length-map rows (λ (r : SweepRow). r.cost)))
