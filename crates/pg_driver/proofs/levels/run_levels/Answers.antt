use Rattle.std.proofs.Common.{◌≡◌, ℕ, ◌+◌, ◌-◌, max, List, [], Option, drop, length, refl, ap, subst, ◌∙◌, arith, sym}
use Rattle.pg_select.specs.Sums.{totals as totals_by}
use Rattle.pg_dict.specs.Inside.SoundWords.{SignsAtMost}
use Rattle.std.specs.List.{enumerate_from}
use Rattle.std.specs.Option.{IfSome}
use Rattle.pg_types.specs.declared.marks.Totals.{Totals}
use Rattle.pg_types.specs.declared.parameters.LevelParams.{LevelParams}
use Rattle.pg_patterns.specs.Values.{largest}
use Rattle.pg_select.specs.Inside.laws.Steps.{IsUpTo}
use Rattle.pg_starts.specs.Inside.Known.{AreKnown}
use Rattle.pg_driver.specs.Inside.level.Passes.{level_traces}
use Rattle.pg_driver.specs.Inside.counting.LevelCounting.{HasEnded}
use Rattle.pg_driver.specs.Inside.records.SoundRecords.{IsSmall, RunRecords}
use Rattle.pg_driver.specs.Inside.level.States.{State}
use Rattle.pg_driver.specs.Inside.records.RunAccounts.{run_from}
use Rattle.pg_driver.proofs.OpenSigns.{signs_few}
use Rattle.pg_driver.proofs.OpenTraces.{below_level, up_to_next, up_to_starting}
use Rattle.pg_driver.proofs.RunSteps.{all_levels, level_on, levels_step, no_levels, run_begins, run_whole}
use Rattle.pg_driver.proofs.levels.run_levels.Goals as goal

pub levels-init : goal.levels-init
levels-init g c =
    let m0 = g.E.Engine.meaning c.args.engine.now in
    let T = c.args.table.now in
    let W = c.args.dictionary.now in
    record {
      reaches = record {
        done = [];
        did = run_begins T W m0 c.args.records.now c.requires.hopeless c.requires.none;
        left =
            ap (λ (ls : List (ℕ × LevelParams)). level_traces T W m0.patterns ls) (all_levels c.start-first.result c.args.params.now.levels
            ∙ ap (λ (n : ℕ). enumerate_from n c.args.params.now.levels) c.start-first.ensures.value);
      };
      upto = up_to_starting c.largest-greatest.result (c.start-first.result + 0 - 1) m0.patterns (c.largest-greatest.ensures.value ∙ ap largest c.in_ok-copy_patterns.ensures);
      ended = c.new-counting.ensures T W (c.start-first.result + 0 - 1) m0.patterns;
      known = subst (λ (xs : List ℕ). AreKnown xs c.in_ok-windows.windows.counts.numbers) c.all_signs.ensures c.in_ok-windows.ensures;
      totals = tt;
      small = tt;
      signs = refl;
      tidy = c.requires.tidy;
      begun = omega (arith, ap (λ (r : RunRecords). r.begun) c.requires.none);
      passes = omega (arith, ap (λ (r : RunRecords). r.begun) c.requires.none);
      chosen = ap (λ (r : RunRecords). r.chosen) c.requires.none;
    }

pub run_level-requires-clause-hopeless : goal.run_level-requires-clause-hopeless
run_level-requires-clause-hopeless g c = ap (λ (s : State). s.known.hopeless) c.levels.invariant.reaches.did.state

pub levels-preserved : goal.levels-preserved
levels-preserved g c =
    let m0 = g.E.Engine.meaning c.args.engine.now in
    let m = g.E.Engine.meaning c.levels.engine in
    let n = g.E.Engine.meaning c.run_level.new.engine in
    let T = c.args.table.now in
    let W = c.args.dictionary.now in
    let start = c.start-first.result in
    let i = c.levels.i in
    let levels = c.args.params.now.levels in
    let greatest = c.largest-greatest.result in
    let on : start + i + 1 ≡ start + (i + 1) = omega arith in
    record {
      reaches =
          level_on T W m0 m n c.levels.records c.run_level.new.records (start + i, c.level.result.now) (enumerate_from (start + i) (drop i levels))
          (enumerate_from (start + (i + 1)) (drop (i + 1) levels)) (run_from c.args.table.now c.args.dictionary.now c.args.params.now m0) c.levels.invariant.signs
          (levels_step start i levels c.level.result.now c.level.ensures.value) c.in_ok-after.ensures.done c.levels.invariant.reaches;
      upto =
          subst (λ (k : ℕ). IsUpTo (max greatest (k - 1)) n.patterns) on
          (up_to_next T W c.level.result.now greatest (start + i) m.patterns n.patterns (ap (λ (s : State). s.known.patterns) c.in_ok-after.ensures.done.state) c.levels.invariant.upto);
      ended = subst (λ (k : ℕ). HasEnded T W k n.patterns c.run_level.new.counting) (let last : start + i ≡ start + (i + 1) - 1 = omega arith in last) c.in_ok-after.ensures.ended;
      known = c.in_ok-after.ensures.known;
      totals = c.in_ok-after.ensures.totals;
      small = c.in_ok-after.ensures.small;
      signs = c.in_ok-after.ensures.signs ∙ c.levels.invariant.signs;
      tidy = c.in_ok-after.ensures.tidy;
      begun = omega (arith, c.in_ok-after.ensures.begun, c.levels.invariant.begun);
      passes = omega (arith, c.in_ok-after.ensures.few, c.levels.invariant.passes);
      chosen = c.in_ok-after.ensures.chosen;
    }

pub returns-in-Some-clause-run : goal.returns-in-Some-clause-run
returns-in-Some-clause-run g c =
    let m0 = g.E.Engine.meaning c.args.engine.now in
    let m = g.E.Engine.meaning c.levels.engine in
    let rest = enumerate_from (c.start-first.result + c.levels.i) (drop c.levels.i c.args.params.now.levels) in
    run_whole c.args.table.now c.args.dictionary.now m0 m c.levels.records rest (run_from c.args.table.now c.args.dictionary.now c.args.params.now m0)
    (no_levels c.start-first.result c.levels.i c.args.params.now.levels (omega (arith, c.count-count.ensures.value))) c.levels.invariant.reaches

pub run_level-requires-clause-below : goal.run_level-requires-clause-below
run_level-requires-clause-below g c = λ low. below_level c.largest-greatest.result (c.start-first.result + c.levels.i)
    (g.E.Engine.meaning c.levels.engine).patterns c.levels.invariant.upto (omega (arith, c.start-first.ensures.low)) low

pub run_level-requires-clause-ended : goal.run_level-requires-clause-ended
run_level-requires-clause-ended g c = c.levels.invariant.ended

pub returns-in-Some-clause-totals : goal.returns-in-Some-clause-totals
returns-in-Some-clause-totals g c =
    let m = g.E.Engine.meaning c.levels.engine in
    subst (λ (o : Option Totals). IfSome o (λ after. after ≡ totals_by c.args.table.now c.args.dictionary.now m.patterns)) c.in-Some.is c.levels.invariant.totals

pub returns-in-Some-clause-small : goal.returns-in-Some-clause-small
returns-in-Some-clause-small g c = subst (λ (o : Option Totals). IfSome o IsSmall) c.in-Some.is c.levels.invariant.small

pub returns-in-Some-clause-tidy : goal.returns-in-Some-clause-tidy
returns-in-Some-clause-tidy g c = c.levels.invariant.tidy

pub returns-in-Some-clause-begun : goal.returns-in-Some-clause-begun
returns-in-Some-clause-begun g c = c.levels.invariant.begun

pub returns-in-Some-clause-signs : goal.returns-in-Some-clause-signs
returns-in-Some-clause-signs g c = c.levels.invariant.signs

pub returns-in-Some-clause-few : goal.returns-in-Some-clause-few
returns-in-Some-clause-few g c = omega (arith, c.levels.invariant.passes, c.count-count.ensures.few, c.start-first.ensures.low)

pub run_level-requires-clause-level : goal.run_level-requires-clause-level
run_level-requires-clause-level g c = c.level.ensures.ranges

pub run_level-requires-clause-number : goal.run_level-requires-clause-number
run_level-requires-clause-number g c = (omega (arith, c.start-first.ensures.low), omega (arith, c.count-count.ensures.few, c.start-first.ensures.value))

pub run_level-requires-clause-begun : goal.run_level-requires-clause-begun
run_level-requires-clause-begun g c = omega (arith, c.levels.invariant.begun, c.levels.invariant.passes, c.requires.begun, c.count-count.ensures.few)

pub run_level-requires-clause-few : goal.run_level-requires-clause-few
run_level-requires-clause-few g c = omega (arith, c.levels.invariant.passes, c.count-count.ensures.few)

pub run_level-requires-clause-chosen : goal.run_level-requires-clause-chosen
run_level-requires-clause-chosen g c = c.levels.invariant.chosen

pub run_level-requires-clause-signs : goal.run_level-requires-clause-signs
run_level-requires-clause-signs g c = subst (λ (n : ℕ). SignsAtMost n c.args.dictionary.now) (sym c.levels.invariant.signs) c.requires.signs

pub totals-requires : goal.totals-requires
totals-requires g c = subst (λ (n : ℕ). SignsAtMost n c.args.dictionary.now) (sym c.levels.invariant.signs) c.requires.signs

pub level-requires : goal.level-requires
level-requires g c = omega (arith, c.count-count.ensures.value)

pub overflow_add-number : goal.overflow_add-number
overflow_add-number g c = omega (arith, c.count-count.ensures.few, c.start-first.ensures.value)

pub overflow_cast-number : goal.overflow_cast-number
overflow_cast-number g c = omega (arith, c.count-count.ensures.few)

pub returns-in_err-copy_patterns-clause-signs : goal.returns-in_err-copy_patterns-clause-signs
returns-in_err-copy_patterns-clause-signs g c = refl

pub returns-in_err-after-clause-signs : goal.returns-in_err-after-clause-signs
returns-in_err-after-clause-signs g c = c.run_level.ensures.signs ∙ c.levels.invariant.signs

pub returns-clause-run : goal.returns-clause-run
returns-clause-run g c =
    let m0 = g.E.Engine.meaning c.args.engine.now in
    let m = g.E.Engine.meaning c.levels.engine in
    let rest = enumerate_from (c.start-first.result + c.levels.i) (drop c.levels.i c.args.params.now.levels) in
    run_whole c.args.table.now c.args.dictionary.now m0 m c.levels.records rest (run_from c.args.table.now c.args.dictionary.now c.args.params.now m0)
    (no_levels c.start-first.result c.levels.i c.args.params.now.levels (omega (arith, c.count-count.ensures.value))) c.levels.invariant.reaches

pub returns-clause-totals : goal.returns-clause-totals
returns-clause-totals g c = c.totals.ensures.value

pub returns-clause-small : goal.returns-clause-small
returns-clause-small g c = c.totals.ensures.small

pub returns-clause-tidy : goal.returns-clause-tidy
returns-clause-tidy g c = c.levels.invariant.tidy

pub returns-clause-begun : goal.returns-clause-begun
returns-clause-begun g c = c.levels.invariant.begun

pub returns-clause-few : goal.returns-clause-few
returns-clause-few g c = omega (arith, c.levels.invariant.passes, c.count-count.ensures.few, c.start-first.ensures.low)

pub returns-clause-signs : goal.returns-clause-signs
returns-clause-signs g c = c.levels.invariant.signs

pub run_level-requires-clause-known : goal.run_level-requires-clause-known
run_level-requires-clause-known g c = c.levels.invariant.known

pub new-requires : goal.new-requires
new-requires g c = omega (arith, ap (λ (xs : List ℕ). length xs) c.all_signs.ensures, signs_few c.args.dictionary.now c.len-words.ensures.words, c.len-words.ensures.letters)

pub returns-in_err-windows-clause-signs : goal.returns-in_err-windows-clause-signs
returns-in_err-windows-clause-signs g c = refl
