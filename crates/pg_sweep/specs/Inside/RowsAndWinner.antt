-- What a sweep found.
use Rattle.std.specs.Prelude.{ℕ, List}
use Rattle.pg_sweep.specs.declared.rows.SweepRow.{SweepRow}

-- what a sweep found: its rows, and the number of the winner
pub record RowsAndWinner : Type 0 where
  pub rows : List SweepRow
  pub winner : ℕ
