use Rattle.std.proofs.Common.{ap, ◌∙◌, sym, subst, arith}
use Rattle.pg_patterns.specs.Inside.PatternMaps.{SignsUpTo}
use Rattle.pg_driver.specs.Inside.records.SoundRecords.{CompletedRun}
use Rattle.pg_driver.specs.Inside.level.States.{State}
use Rattle.pg_driver.specs.Inside.records.RunAccounts.{TellsCells, account_of, cells_from, run_from}
use Rattle.pg_driver.proofs.RunAccountSteps.{told_account, told_cells}
use Rattle.pg_driver.proofs.RunSigns.{run_signs}
use Rattle.pg_driver.proofs.levels.generate.Goals as goal

pub returns-clause-patterns : goal.returns-clause-patterns
returns-clause-patterns g c = ap (λ (r : CompletedRun). r.patterns) c.new.ensures ∙ c.in_ok-patterns.ensures ∙ ap (λ (s : State). s.known.patterns) c.in_ok-totals.ensures.run.state

pub returns-clause-pattern_signs : goal.returns-clause-pattern_signs
returns-clause-pattern_signs g c = λ start.
    let m0 = g.E.Engine.meaning c.args.engine.now in
    subst (SignsUpTo m0.signs) (sym (ap (λ (r : CompletedRun). r.patterns) c.new.ensures ∙ c.in_ok-patterns.ensures ∙ ap (λ (s : State). s.known.patterns) c.in_ok-totals.ensures.run.state))
    (run_signs m0.signs c.args.table.now c.args.dictionary.now c.args.params.now m0 c.requires.signs start)

pub returns-clause-account : goal.returns-clause-account
returns-clause-account g c =
    let m0 = g.E.Engine.meaning c.args.engine.now in
    let n = g.E.Engine.meaning c.run_levels.new.engine in
    let run = run_from c.args.table.now c.args.dictionary.now c.args.params.now m0 in
    ap account_of c.new.ensures ∙ told_account c.args.table.now c.args.dictionary.now run m0 n c.run_levels.new.records c.in_ok-patterns.patterns
    c.in_ok-totals.totals c.layout-first_layout.result c.in_ok-totals.ensures.run c.in_ok-totals.ensures.totals

pub returns-clause-cells : goal.returns-clause-cells
returns-clause-cells g c =
    let m0 = g.E.Engine.meaning c.args.engine.now in
    let n = g.E.Engine.meaning c.run_levels.new.engine in
    let run = run_from c.args.table.now c.args.dictionary.now c.args.params.now m0 in
    subst (TellsCells (cells_from c.args.table.now c.args.dictionary.now c.args.params.now m0)) (sym c.new.ensures)
    (told_cells c.args.table.now c.args.dictionary.now run m0 n c.run_levels.new.records c.in_ok-patterns.patterns c.in_ok-totals.totals
    c.layout-first_layout.result c.in_ok-totals.ensures.run c.layout-first_layout.ensures c.requires.tidy)

pub returns-clause-begun : goal.returns-clause-begun
returns-clause-begun g c = ap (λ (r : CompletedRun). r.begun) c.new.ensures ∙ c.in_ok-totals.ensures.run.begun

pub returns-clause-kept : goal.returns-clause-kept
returns-clause-kept g c = sym (ap (λ (r : CompletedRun). r.patterns) c.new.ensures ∙ c.in_ok-patterns.ensures)

pub returns-clause-families : goal.returns-clause-families
returns-clause-families g c = ap (λ (s : State). s.families) c.in_ok-totals.ensures.run.state

pub returns-clause-hopeless : goal.returns-clause-hopeless
returns-clause-hopeless g c = ap (λ (s : State). s.known.hopeless) c.in_ok-totals.ensures.run.state

pub returns-clause-counted : goal.returns-clause-counted
returns-clause-counted g c = omega (arith, c.in_ok-totals.ensures.begun, ap (λ (r : CompletedRun). r.begun) c.new.ensures)

pub new-requires : goal.new-requires
new-requires g c = c.in_ok-totals.ensures.small

pub returns-in_err-totals-clause-signs : goal.returns-in_err-totals-clause-signs
returns-in_err-totals-clause-signs g c = c.run_levels.ensures.signs

pub returns-in_err-patterns-clause-signs : goal.returns-in_err-patterns-clause-signs
returns-in_err-patterns-clause-signs g c = c.run_levels.ensures.signs

pub returns-clause-tidy : goal.returns-clause-tidy
returns-clause-tidy g c = c.in_ok-totals.ensures.tidy

pub returns-clause-few : goal.returns-clause-few
returns-clause-few g c = omega (arith, c.in_ok-totals.ensures.begun, c.in_ok-totals.ensures.few)

pub returns-clause-signs : goal.returns-clause-signs
returns-clause-signs g c = c.run_levels.ensures.signs

pub run_levels-requires-clause-hopeless : goal.run_levels-requires-clause-hopeless
run_levels-requires-clause-hopeless g c = c.requires.hopeless

pub run_levels-requires-clause-tidy : goal.run_levels-requires-clause-tidy
run_levels-requires-clause-tidy g c = c.requires.tidy

pub run_levels-requires-clause-begun : goal.run_levels-requires-clause-begun
run_levels-requires-clause-begun g c = c.requires.begun

pub run_levels-requires-clause-signs : goal.run_levels-requires-clause-signs
run_levels-requires-clause-signs g c = c.requires.signs

pub run_levels-requires-clause-none : goal.run_levels-requires-clause-none
run_levels-requires-clause-none g c = c.new-records.ensures
