use Rattle.std.proofs.Common.{sym, ap, subst, ◌∙◌, arith, refl}
use Rattle.pg_select.specs.Sums.{totals as totals_by}
use Rattle.pg_select.specs.Inside.engine.Meanings.{Meaning}
use Rattle.pg_patterns.specs.Values.{Patterns}
use Rattle.pg_driver.specs.Inside.counting.LevelCounting.{HasEnded}
use Rattle.pg_driver.specs.Inside.records.SoundRecords.{IsSmall, RunRecords}
use Rattle.pg_driver.proofs.RunSteps.{did_level}
use Rattle.pg_driver.proofs.level.run_level.Goals as goal

pub returns-clause-done : goal.returns-clause-done
returns-clause-done g c =
    let m0 = g.E.Engine.meaning c.args.engine.now in
    did_level c.args.table.now c.args.dictionary.now c.args.number c.args.params.now m0 (g.E.Engine.meaning c.run_lengths.new.engine)
    (g.E.Engine.meaning c.end_level.new.self) c.args.records.now c.run_lengths.new.records c.end_level-2.new.self c.totals-after.result c.layout.result c.requires.hopeless
    c.in_ok-run_lengths.ensures.state
    c.in_ok-run_lengths.ensures.records
    c.requires.chosen
    c.in_ok-end_level.ensures.ok
    (c.totals-after.ensures ∙ c.in_ok-run_lengths.ensures.ready.0 ∙ ap (λ (x : Meaning). totals_by c.args.table.now c.args.dictionary.now x.patterns) (sym c.in_ok-end_level.ensures.ok))
    c.layout.ensures
    c.in_ok-end_level-2.ensures

pub returns-clause-totals : goal.returns-clause-totals
returns-clause-totals g c = c.totals-after.ensures ∙ c.in_ok-run_lengths.ensures.ready.0
    ∙ ap (λ (x : Meaning). totals_by c.args.table.now c.args.dictionary.now x.patterns) (sym c.in_ok-end_level.ensures.ok)

pub returns-clause-small : goal.returns-clause-small
returns-clause-small g c = subst IsSmall (sym c.totals-after.ensures) c.in_ok-run_lengths.ensures.ready.1

pub returns-clause-tidy : goal.returns-clause-tidy
returns-clause-tidy g c = ap (λ (x : Meaning). x.tidy) c.in_ok-end_level.ensures.ok

pub returns-clause-begun : goal.returns-clause-begun
returns-clause-begun g c =
    omega (arith, ap (λ (x : Meaning). x.begun) c.in_ok-end_level.ensures.ok, ap (λ (r : RunRecords). r.begun) c.in_ok-end_level-2.ensures, c.in_ok-run_lengths.ensures.begun)

pub returns-clause-few : goal.returns-clause-few
returns-clause-few g c = omega (arith, ap (λ (r : RunRecords). r.begun) c.in_ok-end_level-2.ensures, c.in_ok-run_lengths.ensures.few)

pub returns-clause-chosen : goal.returns-clause-chosen
returns-clause-chosen g c = ap (λ (r : RunRecords). r.chosen) c.in_ok-end_level-2.ensures

pub returns-clause-signs : goal.returns-clause-signs
returns-clause-signs g c = ap (λ (x : Meaning). x.signs) c.in_ok-end_level.ensures.ok ∙ c.run_lengths.ensures.signs

pub run_lengths-requires-clause-level : goal.run_lengths-requires-clause-level
run_lengths-requires-clause-level g c = c.requires.level

pub run_lengths-requires-clause-number : goal.run_lengths-requires-clause-number
run_lengths-requires-clause-number g c = c.requires.number

pub run_lengths-requires-clause-begun : goal.run_lengths-requires-clause-begun
run_lengths-requires-clause-begun g c = c.requires.begun

pub run_lengths-requires-clause-few : goal.run_lengths-requires-clause-few
run_lengths-requires-clause-few g c = c.requires.few

pub run_lengths-requires-clause-chosen : goal.run_lengths-requires-clause-chosen
run_lengths-requires-clause-chosen g c = c.requires.chosen

pub run_lengths-requires-clause-signs : goal.run_lengths-requires-clause-signs
run_lengths-requires-clause-signs g c = c.requires.signs

pub run_lengths-requires-clause-ready : goal.run_lengths-requires-clause-ready
run_lengths-requires-clause-ready g c = c.in_ok-begin_level.ensures.ready

pub begin_level-requires-clause-first : goal.begin_level-requires-clause-first
begin_level-requires-clause-first g c = c.requires.number.0

pub begin_level-requires-clause-ended : goal.begin_level-requires-clause-ended
begin_level-requires-clause-ended g c = c.requires.ended

pub returns-clause-ended : goal.returns-clause-ended
returns-clause-ended g c =
    subst (λ (P : Patterns). HasEnded c.args.table.now c.args.dictionary.now c.args.number P c.run_lengths.new.counting)
    (sym (ap (λ (x : Meaning). x.patterns) c.in_ok-end_level.ensures.ok)) c.in_ok-run_lengths.ensures.ended

pub returns-in_err-begin_level-clause-signs : goal.returns-in_err-begin_level-clause-signs
returns-in_err-begin_level-clause-signs g c = refl

pub returns-in_err-run_lengths-clause-signs : goal.returns-in_err-run_lengths-clause-signs
returns-in_err-run_lengths-clause-signs g c = c.run_lengths.ensures.signs

pub begin_level-requires-clause-signs : goal.begin_level-requires-clause-signs
begin_level-requires-clause-signs g c = c.requires.signs

pub begin_level-requires-clause-hopeless : goal.begin_level-requires-clause-hopeless
begin_level-requires-clause-hopeless g c = c.requires.hopeless

pub begin_level-requires-clause-below : goal.begin_level-requires-clause-below
begin_level-requires-clause-below g c = c.requires.below

pub end_level-requires-2 : goal.end_level-requires-2
end_level-requires-2 g c = subst IsSmall (sym c.totals-after.ensures) c.in_ok-run_lengths.ensures.ready.1

pub returns-in_err-end_level-clause-signs : goal.returns-in_err-end_level-clause-signs
returns-in_err-end_level-clause-signs g c = ap (λ (x : Meaning). x.signs) c.in_err-end_level.ensures.err ∙ c.run_lengths.ensures.signs

pub run_lengths-requires-clause-known : goal.run_lengths-requires-clause-known
run_lengths-requires-clause-known g c = c.requires.known

pub returns-clause-known : goal.returns-clause-known
returns-clause-known g c = c.in_ok-run_lengths.ensures.known
