use Rattle.std.proofs.Common.{◌≡◌, ◌+◌, ◌-◌, ◌*◌, ◌≤◌, max, true, drop}
use Rattle.std.specs.List.{enumerate_from}
use Rattle.std.specs.Option.{IfSome}
use Rattle.pg_select.specs.Sums.{totals as totals_by}
use Rattle.pg_select.specs.Inside.laws.Steps.{IsUpTo}
use Rattle.pg_dict.specs.Inside.Store.{all_signs}
use Rattle.pg_starts.specs.Inside.Known.{AreKnown}
use Rattle.pg_driver.specs.Inside.counting.LevelCounting.{HasEnded}
use Rattle.pg_driver.specs.Inside.records.SoundRecords.{IsSmall}
use Rattle.pg_driver.specs.Inside.records.RunAccounts.{run_from}
use Rattle.pg_driver.proofs.RunSteps.{RunReaches}
use Rattle.pg_driver.proofs.levels.run_levels.Given as goal
use Rattle.pg_types.specs.Inside.Limits.{level_passes}

abbrev pub invariant-levels : goal.invariant-levels
invariant-levels g l =
    let m0 = g.E.Engine.meaning l.fn.engine in
    let m = g.E.Engine.meaning l.engine in
    record {
      reaches : RunReaches l.table l.dictionary m0 m l.records (enumerate_from (l.first + l.i) (drop l.i l.params.levels)) (run_from l.table l.dictionary l.params m0);
      upto : IsUpTo (max l.greatest (l.first + l.i - 1)) m.patterns;
      ended : HasEnded l.table l.dictionary (l.first + l.i - 1) m.patterns l.counting;
      known : AreKnown (all_signs l.dictionary) l.windows.counts.numbers;
      totals : IfSome l.last (λ after. after ≡ totals_by l.table l.dictionary m.patterns);
      small : IfSome l.last IsSmall;
      signs : m.signs ≡ m0.signs;
      tidy : m.tidy ≡ true;
      begun : m.begun ≡ m0.begun + l.records.begun;
      passes : l.records.begun ≤ level_passes * l.i;
      chosen : l.records.chosen ≡ 0;
    }
