use Rattle.std.proofs.Common.{◌≡◌, ◌+◌, ◌*◌, ◌^◌, ◌≤◌, ◌<◌}
use Rattle.pg_dict.specs.Inside.Store.{all_signs}
use Rattle.pg_starts.specs.Inside.Known.{AreKnown}
use Rattle.pg_driver.specs.Inside.counting.LevelCounting.{IsCounted, IsReady}
use Rattle.pg_driver.specs.Inside.level.Levels.{WillCount, all_made_by}
use Rattle.pg_driver.specs.Inside.records.RunAccounts.{known_of}
use Rattle.pg_driver.specs.Traces.{passes_of}
use Rattle.pg_driver.specs.Inside.level.Passes.{known_at_end}
use Rattle.pg_driver.proofs.LevelSteps.{Reaches, lengths_from}
use Rattle.pg_driver.proofs.level.run_lengths.Given as goal

abbrev pub invariant-lengths : goal.invariant-lengths
invariant-lengths g l =
    let m0 = g.E.Engine.meaning l.fn.engine in
    let m = g.E.Engine.meaning l.engine in
    let T = l.table in
    let W = l.dictionary in
    let all = all_made_by T W l.params m0 (passes_of l.number l.params) in
    record {
      reaches : Reaches T W l.params l.number l.len (record { engine = m0; records = l.fn.records }) m l.records l.skippable (lengths_from l.number l.len
          l.end) all (known_at_end (known_of m0) all);
      ready : IsReady T W l.number l.len (known_of m) l.counting;
      numbers : AreKnown (all_signs l.dictionary) l.windows.counts.numbers;
      will : WillCount l.skippable l.counting;
      counted : l.params.pat_start < l.len → IsCounted l.counting;
      signs : m.signs ≡ m0.signs;
      begun : m.begun + l.fn.records.begun ≡ m0.begun + l.records.begun;
      passes : l.records.begun + 16 ≤ l.fn.records.begun + 16 * l.len;
      chosen : l.records.chosen + 16 * 2 ^ 26 ≤ 16 * 2 ^ 26 * l.len;
      few : l.len ≤ 16;
    }
