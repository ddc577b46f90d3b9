use Rattle.std.proofs.Common.{◌≡◌, drop}
use Rattle.pg_types.specs.declared.parameters.LevelParams.{LevelParams}
use Rattle.pg_types.specs.Inside.counting.Counts.{Counts}
use Rattle.pg_types.specs.Inside.counting.NumberedWindows.{Windows}
use Rattle.pg_driver.specs.Inside.level.PassWindows.{AreFates, HaveNumbers, is_counted_at}
use Rattle.pg_driver.specs.Inside.counting.WordLevels.{TookChosen, chosen_weights, with_chosen}
use Rattle.pg_driver.proofs.counting.above_positions.kept_above.Given as goal

abbrev pub invariant-positions : goal.invariant-positions
invariant-positions l =
    record {
      whole : (params : LevelParams) (counts : Counts) (ws : Windows) → AreFates params counts ws l.fates
          → HaveNumbers l.pass (is_counted_at l.pass counts) l.dictionary ws l.above l.numbers
          → with_chosen l.kept (chosen_weights params l.pass counts l.dictionary (drop l.k l.above)) ≡ chosen_weights params l.pass counts l.dictionary l.above;
      took : TookChosen (record { good = 0; bad = 0 }) l.kept l.k;
    }
