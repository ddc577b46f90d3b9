-- The limits fit together.
use Rattle.std.proofs.Common.{ℕ, ◌+◌, ◌*◌, ◌<◌, arith}
use Rattle.pg_types.specs.declared.limits.TheConstants.{FILE_MAX, WEIGHT_MAX, LEVEL_MAX, COST_MAX}
use Rattle.pg_types.specs.Inside.Limits.{sums_limit, positions_limit, counts_limit, level_passes, begun_before_run, begun_before_pass}

-- the weights of the longest dictionary
all_weights_fit : WEIGHT_MAX * FILE_MAX < sums_limit
all_weights_fit = omega arith

-- the positions of the longest dictionary, three for a word of one letter, in whole rows of 64
all_positions_fit : 3 * FILE_MAX + 64 < positions_limit
all_positions_fit = omega arith

-- a sum times a weight of the parameters
products_fit : (n : ℕ) → n < sums_limit → n * COST_MAX < counts_limit
products_fit n small = omega arith

-- the passes of a run
runs_fit : (n : ℕ) → n < begun_before_run → n + LEVEL_MAX * level_passes < begun_before_pass
runs_fit n few = omega arith
