use Rattle.std.proofs.Common.{◌≡◌, ◌+◌, ◌*◌, ◌≤◌, length, map, drop, slice_get, Some}
use Rattle.std.specs.List.{sum_by}
use Rattle.pg_types.specs.declared.limits.TheConstants.{WEIGHT_MAX, FILE_MAX}
use Rattle.pg_types.specs.Inside.counting.Counts.{Counts}
use Rattle.pg_starts.specs.Inside.StartCountings.{counts_in, windows_in}
use Rattle.pg_driver.specs.Inside.choices.Choosing.{candidate_of, with_candidates, no_choices}
use Rattle.pg_driver.specs.Inside.choices.LookAhead.{AreSeen}
use Rattle.pg_driver.specs.Inside.level.PassWindows.{IsPart}
use Rattle.pg_driver.specs.Inside.level.States.{state_of}
use Rattle.pg_driver.proofs.ChoiceSteps.{KeepsButState, state_with}
use Rattle.pg_driver.proofs.choices.choose_all.Given as goal

abbrev pub invariant-candidates : goal.invariant-candidates
invariant-candidates g l =
    let m0 = g.E.Engine.meaning l.fn.engine in
    let m = g.E.Engine.meaning l.engine in
    record {
      kept : KeepsButState m0 m;
      rest : Counts;
      ahead : map (slice_get (windows_in l.signs l.counts)) (drop l.k l.order) ≡ map (λ e. Some e.0) rest;
      part : IsPart rest (counts_in l.signs l.counts);
      from : l.from ≤ l.k;
      seen : AreSeen l.fates (windows_in l.signs l.counts) l.order l.from l.seen.items;
      state : state_with m0.signs l.params m0.pass (state_of m) (map candidate_of rest) ≡ state_with m0.signs l.params m0.pass (state_of m0) (map candidate_of (counts_in l.signs l.counts));
      choices : with_candidates l.params l.choices (map candidate_of rest) ≡ with_candidates l.params no_choices (map candidate_of (counts_in l.signs l.counts));
      few : l.choices.candidates + length (map candidate_of rest) ≤ FILE_MAX;
      sound : l.choices.chosen + l.choices.hopeless ≤ l.choices.candidates;
      good : l.choices.good + sum_by (λ c. c.good) (map candidate_of rest) ≤ WEIGHT_MAX * FILE_MAX;
      bad : l.choices.bad + sum_by (λ c. c.bad) (map candidate_of rest) ≤ WEIGHT_MAX * FILE_MAX;
    }
