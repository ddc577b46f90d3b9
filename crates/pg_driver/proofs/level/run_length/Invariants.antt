use Rattle.std.proofs.Common.{◌≡◌, ◌+◌, ◌*◌, ◌^◌, ◌≤◌, ◌++◌, List}
use Rattle.pg_driver.specs.Inside.counting.LevelCounting.{IsCounted, IsReady, MayHaveNumbers}
use Rattle.pg_driver.specs.Inside.level.Levels.{IsPointAt, LevelStart, WillCount, all_made_by, point}
use Rattle.pg_driver.specs.Inside.records.RunAccounts.{known_of}
use Rattle.pg_driver.specs.Traces.{PassTrace}
use Rattle.pg_driver.specs.Inside.level.Passes.{known_at_end, passes_of_length}
use Rattle.pg_driver.proofs.LevelSteps.{Reaches, passes_from}
use Rattle.pg_driver.proofs.level.run_length.Given as goal

abbrev pub invariant-dots : goal.invariant-dots
invariant-dots g l =
    let m0 = g.E.Engine.meaning l.fn.engine in
    let m = g.E.Engine.meaning l.engine in
    let T = l.table in
    let W = l.dictionary in
    let all = all_made_by T W l.params m0 (passes_of_length l.number l.len) in
    record {
      reaches : (start : LevelStart) (ps : List PassTrace) → IsPointAt T W l.number l.len start ps (point m0 l.fn.records l.fn.skippable)
          → Reaches T W l.params l.number l.len start m l.records l.skippable (passes_from l.number l.len l.k l.end) (ps ++ all) (known_at_end (known_of m0) all);
      ready : IsReady T W l.number l.len (known_of m) l.counting;
      numbers : MayHaveNumbers l.dictionary l.len l.windows l.counting;
      here : l.skippable.here ≡ l.fn.skippable.here;
      will : WillCount l.skippable l.counting;
      counted : 1 ≤ l.k → IsCounted l.counting;
      signs : m.signs ≡ m0.signs;
      begun : m.begun + l.fn.records.begun ≡ m0.begun + l.records.begun;
      passes : l.records.begun ≤ l.fn.records.begun + l.k;
      chosen : l.records.chosen ≤ l.fn.records.chosen + 2 ^ 26 * l.k;
      few : l.k ≤ l.len + 1;
    }
