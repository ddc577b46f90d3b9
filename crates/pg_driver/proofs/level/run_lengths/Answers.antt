use Rattle.std.proofs.Common.{◌≡◌, ◌+◌, ◌<◌, inl, inr, [], refl, ap, ◌∙◌, arith, subst, sym, ℕ}
use Rattle.pg_dict.specs.Inside.SoundWords.{SignsAtMost}
use Rattle.pg_driver.specs.Inside.level.Levels.{LevelStart, all_made_by}
use Rattle.pg_driver.specs.Inside.records.RunAccounts.{known_of}
use Rattle.pg_driver.specs.Traces.{passes_of}
use Rattle.pg_driver.specs.Inside.level.Passes.{known_at_end, passes_of_length}
use Rattle.pg_driver.proofs.LevelSteps.{at_level_start, at_next, at_whole, lengths_from, lengths_step, no_lengths, reaches_on}
use Rattle.pg_driver.proofs.ReadySteps.{has_ended, tells_totals}
use Rattle.pg_driver.proofs.level.run_lengths.Goals as goal

pub lengths-init : goal.lengths-init
lengths-init g c =
    let m0 = g.E.Engine.meaning c.args.engine.now in
    let T = c.args.table.now in
    let W = c.args.dictionary.now in
    record {
      reaches = record {
        done = [];
        at = at_level_start T W c.args.number c.args.params.now.pat_start m0 c.args.records.now c.new-skippable.result c.requires.chosen c.new-skippable.ensures.here c.new-skippable.ensures.longer;
        left = refl;
        known = refl;
      };
      ready = c.requires.ready c.args.params.now.pat_start;
      numbers = c.requires.known;
      will = inl c.new-skippable.ensures.here;
      counted = λ some. absurd (omega arith);
      signs = refl;
      begun = refl;
      passes = omega (arith, c.requires.level.start_low);
      chosen = omega (arith, c.requires.level.start_low, c.requires.chosen);
      few = omega (arith, c.requires.level.start_high);
    }

pub lengths-preserved : goal.lengths-preserved
lengths-preserved g c =
    let m0 = g.E.Engine.meaning c.args.engine.now in
    let m = g.E.Engine.meaning c.lengths.engine in
    let n = g.E.Engine.meaning c.run_length.new.engine in
    let params = c.args.params.now in
    let number = c.args.number in
    let len = c.lengths.len in
    let end = params.pat_finish + 1 in
    let T = c.args.table.now in
    let W = c.args.dictionary.now in
    let start : LevelStart = record { engine = m0; records = c.args.records.now } in
    let all = all_made_by T W params m0 (passes_of number params) in
    let reached = reaches_on T W params number len start m n c.lengths.records c.run_length.new.records c.lengths.skippable c.run_length.new.skippable
    (lengths_from number len end) (passes_of_length number len) (lengths_from number (len + 1) end) all (known_at_end (known_of m0) all)
    (lengths_step number len end c.lengths-test.true) c.in_ok-run_length.ensures.ok c.lengths.invariant.reaches in
    record {
      reaches = record {
        done = reached.done;
        at = at_next T W number len start reached.done n c.run_length.new.records c.run_length.new.skippable c.next_length.new.self
            c.next_length.ensures.here c.next_length.ensures.longer reached.at;
        left = reached.left;
        known = reached.known;
      };
      ready = c.in_ok-next_length.ensures.ready T W number len (known_of n) c.in_ok-run_length.ensures.ready;
      numbers = c.in_ok-run_length.ensures.known;
      will = inr (c.in_ok-next_length.ensures.counted c.in_ok-run_length.ensures.counted);
      counted = λ _. c.in_ok-next_length.ensures.counted c.in_ok-run_length.ensures.counted;
      signs = c.in_ok-run_length.ensures.signs ∙ c.lengths.invariant.signs;
      begun = omega (arith, c.in_ok-run_length.ensures.begun, c.lengths.invariant.begun);
      passes = omega (arith, c.in_ok-run_length.ensures.few, c.lengths.invariant.passes);
      chosen = omega (arith, c.in_ok-run_length.ensures.chosen, c.lengths.invariant.chosen);
      few = omega (arith, c.lengths-test.true, c.requires.level.finish_high);
    }

pub returns-clause-state : goal.returns-clause-state
returns-clause-state g c =
    let m0 = g.E.Engine.meaning c.args.engine.now in
    let params = c.args.params.now in
    let number = c.args.number in
    let end = params.pat_finish + 1 in
    let T = c.args.table.now in
    let W = c.args.dictionary.now in
    let start : LevelStart = record { engine = m0; records = c.args.records.now } in
    let all = all_made_by T W params m0 (passes_of number params) in
    let ends : c.lengths.len ≡ end = omega (arith, c.requires.level.start_high) in
    let none : lengths_from number c.lengths.len end ≡ [] = ap (λ len. lengths_from number len end) ends ∙ no_lengths number end in
    (at_whole T W params number c.lengths.len start (g.E.Engine.meaning c.lengths.engine) c.lengths.records c.lengths.skippable (lengths_from number c.lengths.len end) all
    (known_at_end (known_of m0) all) none c.lengths.invariant.reaches).0.state

pub returns-clause-records : goal.returns-clause-records
returns-clause-records g c =
    let m0 = g.E.Engine.meaning c.args.engine.now in
    let params = c.args.params.now in
    let number = c.args.number in
    let end = params.pat_finish + 1 in
    let T = c.args.table.now in
    let W = c.args.dictionary.now in
    let start : LevelStart = record { engine = m0; records = c.args.records.now } in
    let all = all_made_by T W params m0 (passes_of number params) in
    let ends : c.lengths.len ≡ end = omega (arith, c.requires.level.start_high) in
    let none : lengths_from number c.lengths.len end ≡ [] = ap (λ len. lengths_from number len end) ends ∙ no_lengths number end in
    (at_whole T W params number c.lengths.len start (g.E.Engine.meaning c.lengths.engine) c.lengths.records c.lengths.skippable (lengths_from number c.lengths.len end) all
    (known_at_end (known_of m0) all) none c.lengths.invariant.reaches).0.records

pub returns-clause-ready : goal.returns-clause-ready
returns-clause-ready g c =
    let m = g.E.Engine.meaning c.lengths.engine in
    let some : c.args.params.now.pat_start < c.lengths.len = omega (arith, c.requires.level.start_high) in
    tells_totals c.args.table.now c.args.dictionary.now c.args.number c.lengths.len (known_of m) m.patterns c.lengths.counting refl
    (c.lengths.invariant.counted some) c.lengths.invariant.ready

pub returns-clause-ended : goal.returns-clause-ended
returns-clause-ended g c =
    has_ended c.args.table.now c.args.dictionary.now c.args.number c.lengths.len (known_of (g.E.Engine.meaning c.lengths.engine)) c.lengths.counting c.lengths.invariant.ready

pub run_length-requires-clause-level : goal.run_length-requires-clause-level
run_length-requires-clause-level g c = c.requires.level

pub run_length-requires-clause-len : goal.run_length-requires-clause-len
run_length-requires-clause-len g c = (omega (arith, c.requires.level.start_low), omega (arith, c.requires.level.finish_high))

pub run_length-requires-clause-number : goal.run_length-requires-clause-number
run_length-requires-clause-number g c = c.requires.number

pub run_length-requires-clause-begun : goal.run_length-requires-clause-begun
run_length-requires-clause-begun g c = omega (arith, c.lengths.invariant.begun, c.lengths.invariant.passes, c.lengths.invariant.few, c.requires.begun)

pub run_length-requires-clause-few : goal.run_length-requires-clause-few
run_length-requires-clause-few g c = omega (arith, c.lengths.invariant.passes, c.lengths.invariant.few, c.requires.few)

pub run_length-requires-clause-signs : goal.run_length-requires-clause-signs
run_length-requires-clause-signs g c = subst (λ (n : ℕ). SignsAtMost n c.args.dictionary.now) (sym c.lengths.invariant.signs) c.requires.signs

pub run_length-requires-clause-ready : goal.run_length-requires-clause-ready
run_length-requires-clause-ready g c = c.lengths.invariant.ready

pub run_length-requires-clause-counts : goal.run_length-requires-clause-counts
run_length-requires-clause-counts g c = c.lengths.invariant.will

pub returns-in_err-run_length-clause-signs : goal.returns-in_err-run_length-clause-signs
returns-in_err-run_length-clause-signs g c = c.run_length.ensures.signs ∙ c.lengths.invariant.signs

pub returns-in_err-next_length-clause-signs : goal.returns-in_err-next_length-clause-signs
returns-in_err-next_length-clause-signs g c = c.run_length.ensures.signs ∙ c.lengths.invariant.signs

pub returns-clause-begun : goal.returns-clause-begun
returns-clause-begun g c = c.lengths.invariant.begun

pub returns-clause-few : goal.returns-clause-few
returns-clause-few g c = omega (arith, c.lengths.invariant.passes, c.lengths.invariant.few)

pub returns-clause-signs : goal.returns-clause-signs
returns-clause-signs g c = c.lengths.invariant.signs

pub overflow_add-end : goal.overflow_add-end
overflow_add-end g c = omega (arith, c.requires.level.finish_high)

pub run_length-requires-clause-known : goal.run_length-requires-clause-known
run_length-requires-clause-known g c = c.lengths.invariant.numbers

pub returns-clause-known : goal.returns-clause-known
returns-clause-known g c = c.lengths.invariant.numbers
