-- The ranges that the numbers of parameters keep.
use Rattle.std.specs.Prelude.{◌≡◌, ◌+◌, ◌-◌, ◌≤◌, length, All}
use Rattle.pg_types.specs.declared.limits.TheConstants.{LEVEL_MAX, LENGTH_MAX, COST_MAX}
use Rattle.pg_types.specs.declared.parameters.LevelParams.{LevelParams}
use Rattle.pg_types.specs.Parameters.{Parameters}

-- the ranges that the numbers of a level keep
pub record IsLevel (level : LevelParams) : Type 0 where
  pub start_low : 1 ≤ level.pat_start
  pub start_high : level.pat_start ≤ level.pat_finish
  pub finish_high : level.pat_finish ≤ LENGTH_MAX
  pub good_low : 1 ≤ level.good_wt
  pub good_high : level.good_wt ≤ COST_MAX
  pub bad_low : 1 ≤ level.bad_wt
  pub bad_high : level.bad_wt ≤ COST_MAX
  pub thresh_low : 1 ≤ level.thresh
  pub thresh_high : level.thresh ≤ COST_MAX

-- the ranges that all parameters keep
pub record AreParameters (run : Parameters) : Type 0 where
  pub start_low : 1 ≤ run.start
  pub start_high : run.start ≤ LEVEL_MAX
  pub finish_low : 1 ≤ run.finish
  pub finish_high : run.finish ≤ LEVEL_MAX
  pub count : length run.levels ≡ run.finish + 1 - run.start
  pub levels : All IsLevel run.levels
