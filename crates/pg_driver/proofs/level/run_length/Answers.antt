use Rattle.std.proofs.Common.{◌≡◌, ℕ, ◌+◌, ◌≤◌, true, false, inr, List, [], ◌∷◌, ◌++◌, refl, ap, subst, ◌∙◌, arith, sym}
use Rattle.pg_dict.specs.Inside.SoundWords.{SignsAtMost}
use Rattle.pg_select.specs.declared.pass.Pass.{Pass}
use Rattle.pg_driver.specs.Inside.level.Levels.{GoesOn, all_made_by, point}
use Rattle.pg_driver.specs.Inside.records.RunAccounts.{known_of}
use Rattle.pg_driver.specs.Inside.level.Passes.{known_at_end, passes_of_length}
use Rattle.pg_driver.proofs.LevelSteps.{all_from, at_whole, none_from, pass_with, passes_from, passes_step, reaches_on}
use Rattle.pg_driver.specs.Dots.{dot_at}
use Rattle.pg_driver.proofs.level.run_length.Goals as goal

pub dots-init : goal.dots-init
dots-init g c =
    let m0 = g.E.Engine.meaning c.args.engine.now in
    let T = c.args.table.now in
    let W = c.args.dictionary.now in
    record {
      reaches = λ start ps at. record {
        done = ps;
        at = at;
        left = ap (λ (passes : List Pass). ps ++ all_made_by T W c.args.params.now m0 passes) (all_from c.args.number c.args.len);
        known = ap (λ (passes : List Pass). known_at_end (known_of m0) (all_made_by T W c.args.params.now m0 passes)) (all_from c.args.number c.args.len);
      };
      ready = c.requires.ready;
      numbers = record { known = c.requires.known; numbers = λ noted. absurd (let wrong : false ≡ true = noted in cc) };
      here = refl;
      will = c.requires.counts;
      counted = λ some. absurd (omega arith);
      signs = refl;
      begun = refl;
      passes = omega arith;
      chosen = omega arith;
      few = omega arith;
    }

pub dots-preserved : goal.dots-preserved
dots-preserved g c =
    let m0 = g.E.Engine.meaning c.args.engine.now in
    let m = g.E.Engine.meaning c.dots.engine in
    let n = g.E.Engine.meaning c.run_or_skip.new.engine in
    let params = c.args.params.now in
    let number = c.args.number in
    let len = c.args.len in
    let k = c.dots.k in
    let T = c.args.table.now in
    let W = c.args.dictionary.now in
    let all = all_made_by T W params m0 (passes_of_length number len) in
    let on : GoesOn T W number len (all_made_by T W params m (pass_with number len (dot_at len k) ∷ [])) (point m c.dots.records c.dots.skippable)
    (point n c.run_or_skip.new.records c.run_or_skip.new.skippable) =
    subst (λ (dot : ℕ). GoesOn T W number len (all_made_by T W params m (pass_with number len dot ∷ [])) (point m c.dots.records c.dots.skippable)
    (point n c.run_or_skip.new.records c.run_or_skip.new.skippable)) c.dot_at.ensures.dot c.in_ok-run_or_skip.ensures.ok in
    record {
      reaches = λ start ps at.
          reaches_on T W params number len start m n c.dots.records c.run_or_skip.new.records c.dots.skippable c.run_or_skip.new.skippable
          (passes_from number len k (len + 1)) (pass_with number len (dot_at len k) ∷ []) (passes_from number len (k + 1) (len + 1)) (ps ++ all) (known_at_end (known_of m0) all)
          (passes_step number len k (len + 1) c.dots-test.true) on (c.dots.invariant.reaches start ps at);
      ready = c.in_ok-run_or_skip.ensures.ready;
      numbers = c.in_ok-run_or_skip.ensures.numbers;
      here = c.in_ok-run_or_skip.ensures.here ∙ c.dots.invariant.here;
      will = inr (c.in_ok-run_or_skip.ensures.counted c.dots.invariant.will);
      counted = λ _. c.in_ok-run_or_skip.ensures.counted c.dots.invariant.will;
      signs = c.in_ok-run_or_skip.ensures.signs ∙ c.dots.invariant.signs;
      begun = omega (arith, c.in_ok-run_or_skip.ensures.begun, c.dots.invariant.begun);
      passes = omega (arith, c.in_ok-run_or_skip.ensures.few, c.dots.invariant.passes);
      chosen = omega (arith, c.in_ok-run_or_skip.ensures.chosen, c.dots.invariant.chosen);
      few = omega arith;
    }

pub returns-clause-ok : goal.returns-clause-ok
returns-clause-ok g c = λ start ps at.
    let m0 = g.E.Engine.meaning c.args.engine.now in
    let number = c.args.number in
    let len = c.args.len in
    let T = c.args.table.now in
    let W = c.args.dictionary.now in
    let all = all_made_by T W c.args.params.now m0 (passes_of_length number len) in
    let ends : c.dots.k ≡ len + 1 = omega arith in
    let none : passes_from number len c.dots.k (len + 1) ≡ [] = ap (λ k. passes_from number len k (len + 1)) ends ∙ none_from number len (len + 1) in
    at_whole T W c.args.params.now number len start (g.E.Engine.meaning c.dots.engine) c.dots.records c.dots.skippable (passes_from number len c.dots.k (len + 1))
    (ps ++ all) (known_at_end (known_of m0) all) none (c.dots.invariant.reaches start ps at)

pub returns-clause-counted : goal.returns-clause-counted
returns-clause-counted g c =
    let some : 1 ≤ c.dots.k = omega arith in
    c.dots.invariant.counted some

pub run_or_skip-requires-clause-level : goal.run_or_skip-requires-clause-level
run_or_skip-requires-clause-level g c = c.requires.level

pub run_or_skip-requires-clause-begun : goal.run_or_skip-requires-clause-begun
run_or_skip-requires-clause-begun g c = omega (arith, c.dots.invariant.begun, c.dots.invariant.passes, c.dots.invariant.few, c.requires.begun, c.requires.len)

pub run_or_skip-requires-clause-few : goal.run_or_skip-requires-clause-few
run_or_skip-requires-clause-few g c = omega (arith, c.dots.invariant.passes, c.dots.invariant.few, c.requires.few, c.requires.len)

pub run_or_skip-requires-clause-chosen : goal.run_or_skip-requires-clause-chosen
run_or_skip-requires-clause-chosen g c = omega (arith, c.dots.invariant.chosen, c.dots.invariant.few, c.requires.chosen, c.requires.len)

pub run_or_skip-requires-clause-signs : goal.run_or_skip-requires-clause-signs
run_or_skip-requires-clause-signs g c = subst (λ (n : ℕ). SignsAtMost n c.args.dictionary.now) (sym c.dots.invariant.signs) c.requires.signs

pub run_or_skip-requires-clause-ready : goal.run_or_skip-requires-clause-ready
run_or_skip-requires-clause-ready g c = c.dots.invariant.ready

pub returns-in_err-run_or_skip-clause-signs : goal.returns-in_err-run_or_skip-clause-signs
returns-in_err-run_or_skip-clause-signs g c = c.run_or_skip.ensures.signs ∙ c.dots.invariant.signs

pub returns-clause-begun : goal.returns-clause-begun
returns-clause-begun g c = c.dots.invariant.begun

pub returns-clause-few : goal.returns-clause-few
returns-clause-few g c = omega (arith, c.dots.invariant.passes, c.dots.invariant.few, c.requires.len)

pub returns-clause-chosen : goal.returns-clause-chosen
returns-clause-chosen g c = omega (arith, c.dots.invariant.chosen, c.dots.invariant.few, c.requires.len)

pub returns-clause-ready : goal.returns-clause-ready
returns-clause-ready g c = c.dots.invariant.ready

pub returns-clause-signs : goal.returns-clause-signs
returns-clause-signs g c = c.dots.invariant.signs

pub run_or_skip-requires-clause-numbers : goal.run_or_skip-requires-clause-numbers
run_or_skip-requires-clause-numbers g c = c.dots.invariant.numbers

pub returns-clause-known : goal.returns-clause-known
returns-clause-known g c = c.dots.invariant.numbers.known
