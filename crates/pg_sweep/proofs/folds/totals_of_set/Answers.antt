use Rattle.std.proofs.Common.{refl, arith}
use Rattle.std.proofs.lemmas.Result.{IfOk-from_err}
use Rattle.pg_sweep.specs.Sweeps.{fold_totals}
use Rattle.pg_sweep.specs.Inside.Inputs.{terms}
use Rattle.pg_sweep.proofs.Steps.{totals_step}
use Rattle.pg_sweep.proofs.folds.totals_of_set.Goals as goal

pub folds-init : goal.folds-init
folds-init g c = record { sums = refl; small = (omega arith, omega arith, omega arith) }

pub folds-preserved : goal.folds-preserved
folds-preserved g c = record {
  sums = totals_step (fold_totals (terms c.args.inputs.now) c.args.params.now) c.folds.fold c.folds.sums c.in_ok-more.more c.folds.invariant.sums c.in_ok-more.ensures.value;
  small = (
    omega (arith, c.folds.invariant.small.0, c.in_ok-more.ensures.small),
    omega (arith, c.folds.invariant.small.1, c.in_ok-more.ensures.small),
    omega (arith, c.folds.invariant.small.2, c.in_ok-more.ensures.small),
  );
}

pub returns-in_err-more-clause-value : goal.returns-in_err-more-clause-value
returns-in_err-more-clause-value g c = IfOk-from_err c.from_residual.result _ c.from_residual.ensures.0

pub returns-in_err-more-clause-small : goal.returns-in_err-more-clause-small
returns-in_err-more-clause-small g c = IfOk-from_err c.from_residual.result _ c.from_residual.ensures.0

pub totals_of_fold-requires-clause-fold : goal.totals_of_fold-requires-clause-fold
totals_of_fold-requires-clause-fold g c = c.folds-test.true

pub totals_of_fold-requires-clause-signs : goal.totals_of_fold-requires-clause-signs
totals_of_fold-requires-clause-signs g c = c.requires.signs
