use Rattle.std.proofs.Common.{◌*◌, ap, arith}
use Rattle.pg_types.specs.declared.limits.TheConstants.{WEIGHT_MAX}
use Rattle.pg_select.specs.Inside.engine.Meanings.{Meaning}
use Rattle.pg_runs.proofs.Bounds.{bound_more, small_more}
use Rattle.pg_runs.proofs.plain.count_window.Goals as goal

pub count-requires : goal.count-requires
count-requires g c = record {
  len = c.requires.len;
  signs = c.requires.signs;
  light = c.requires.weight;
  small = small_more _ _ c.args.good _ (WEIGHT_MAX * c.args.seen.now) WEIGHT_MAX c.requires.weight (omega arith) c.requires.sums;
}

pub returns-clause-sums : goal.returns-clause-sums
returns-clause-sums g c = bound_more _ _ c.args.window.now c.args.good c.args.weight (WEIGHT_MAX * c.args.seen.now) WEIGHT_MAX _ c.requires.weight
    (omega arith) c.requires.sums (ap (λ (m : Meaning). m.counts) c.in_ok-count.ensures.ok)
