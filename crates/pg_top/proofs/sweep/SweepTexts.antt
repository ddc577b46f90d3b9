-- What a sweep writes and prints.
use Rattle.std.proofs.Common.{◌≡◌, ℕ, ◌-◌, List, [], ◌∷◌, ap, ◌∙◌}
use Rattle.std.specs.Prelude.{slice_index}
use Rattle.pg_plans.specs.Plans.{Ending}
use Rattle.pg_plans.specs.declared.answers.Status.TheVariants.{Done}
use Rattle.pg_sweep.specs.Files.{sweep_file}
use Rattle.pg_sweep.specs.Inside.RowsAndWinner.{RowsAndWinner}
use Rattle.pg_sweep.specs.Promises.{costs_of}
use Rattle.pg_sweep.specs.Winners.{winner_of}
use Rattle.pg_sweep.specs.declared.rows.SweepRow.{SweepRow}
use Rattle.pg_top.specs.Sweeping.{winner_line, rows_ended}

-- it is made of what was found
pub rows_made : (output : List ℕ) (folds : ℕ) (rows : List SweepRow) (found : RowsAndWinner) (writing : List (List ℕ × List ℕ)) (lines : List ℕ) → found.rows ≡ rows
    → found.winner ≡ winner_of (costs_of found.rows) → writing ≡ (output, sweep_file folds found.rows found.winner) ∷ []
    → lines ≡ winner_line found.winner (slice_index (costs_of found.rows) (found.winner - 1)) → Ending Done writing lines ≡ rows_ended output folds rows
rows_made output folds rows found writing lines are winner is_file is_line =
    (λ k. Ending Done (is_file k) (is_line k))
    ∙ ap (λ (w : ℕ). Ending Done ((output, sweep_file folds found.rows w) ∷ []) (winner_line w (slice_index (costs_of found.rows) (w - 1)))) winner
    ∙ ap (rows_ended output folds) are
