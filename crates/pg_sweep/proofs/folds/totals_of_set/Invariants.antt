use Rattle.std.proofs.Common.{◌≡◌}
use Rattle.pg_sweep.specs.Inside.Inputs.{terms, totals_of_first_folds, IsSmallFor}
use Rattle.pg_sweep.proofs.folds.totals_of_set.Given as goal

abbrev pub invariant-folds : goal.invariant-folds
invariant-folds g l = record {
  sums : l.sums ≡ totals_of_first_folds (terms l.inputs) l.params l.fold;
  small : IsSmallFor l.fold l.sums;
}
