-- The numbers that follow from the limits of the files and of a run.
use Rattle.std.specs.Prelude.{ℕ, ◌+◌, ◌*◌, ◌^◌}
use Rattle.pg_types.specs.declared.limits.TheConstants.{LENGTH_MAX, LEVEL_MAX}

-- the number behind the last item of a parameters file: two, and five for each level
abbrev pub items_end : ℕ
items_end = 2 + 5 * LEVEL_MAX + 1

-- the most passes of a length: one for each dot
abbrev pub length_passes : ℕ
length_passes = LENGTH_MAX + 1

-- the most passes of a level: one for each length and dot
abbrev pub level_passes : ℕ
level_passes = LENGTH_MAX * length_passes

-- every sum of weights is below this: FILE_MAX letters, each position of at most WEIGHT_MAX
abbrev pub sums_limit : ℕ
sums_limit = 2 ^ 40

-- a dictionary has fewer positions than this: one for each of FILE_MAX letters and for each edge
abbrev pub positions_limit : ℕ
positions_limit = 2 ^ 32

-- both sums of a window that an engine counts stay below this
abbrev pub counts_limit : ℕ
counts_limit = 2 ^ 60

-- before a run an engine has begun fewer passes than this
abbrev pub begun_before_run : ℕ
begun_before_run = 2 ^ 59

-- before a pass an engine has begun fewer than this; the passes of a run fit in between
abbrev pub begun_before_pass : ℕ
begun_before_pass = 2 ^ 60
