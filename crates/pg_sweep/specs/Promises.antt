-- What the winner among costs is.
use Rattle.std.specs.Prelude.{ℕ, ◌-◌, ◌<◌, ◌≤◌, List, length, map, take, slice_index, All}
use Rattle.pg_sweep.specs.declared.rows.SweepRow.{SweepRow}

-- what rows cost
abbrev pub costs_of : List SweepRow → List ℕ
costs_of rows = map (λ (r : SweepRow). r.cost) rows

-- what a winner is: no cost is less than that with its number, and all costs before it are greater
pub record IsWinner (costs : List ℕ) (number : ℕ) : Type 0 where
  pub from_one : 1 ≤ number
  pub there : number ≤ length costs
  pub least : All (λ cost. slice_index costs (number - 1) ≤ cost) costs
  pub first : All (λ cost. slice_index costs (number - 1) < cost) (take (number - 1) costs)
