use Rattle.std.proofs.Common.{◌≡◌, Bool, true, false, ⊎_elim, refl, sym, ap, ◌∙◌, arith}
use Rattle.pg_driver.specs.Inside.counting.LevelCounting.{IsCounted}
use Rattle.pg_driver.specs.Inside.level.Levels.{is_set, no_flags}
use Rattle.pg_driver.specs.Inside.records.SoundRecords.{RunRecords}
use Rattle.pg_driver.proofs.SkipFlags.{none_set}
use Rattle.pg_driver.proofs.LevelSteps.{done_on, skipped_on}
use Rattle.pg_driver.proofs.StartSteps.{has_size, known_in}
use Rattle.pg_driver.specs.Inside.records.RunAccounts.{known_of}
use Rattle.pg_driver.proofs.level.run_or_skip.Goals as goal

pub returns-then-is_skippable-clause-ok : goal.returns-then-is_skippable-clause-ok
returns-then-is_skippable-clause-ok g c =
    let pass = c.args.pass in
    skipped_on c.args.table.now c.args.dictionary.now c.args.params.now pass.level pass.len pass.dot
    (g.E.Engine.meaning c.args.engine.now) c.args.records.now c.args.skippable.now c.set.new.self (sym c.is_skippable.ensures ∙ c.if-is_skippable.true) c.set.ensures.here c.set.ensures.longer

pub returns-clause-ok : goal.returns-clause-ok
returns-clause-ok g c =
    let m = g.E.Engine.meaning c.args.engine.now in
    let pass = c.args.pass in
    done_on c.args.table.now c.args.dictionary.now c.args.params.now pass.level pass.len pass.dot m c.args.records.now c.args.skippable.now c.set-2.new.self
    (g.E.Engine.meaning c.run_pass.new.engine) c.add_pass.new.self c.in_ok-record.record c.left_none.result
    (sym c.is_skippable.ensures ∙ c.if-is_skippable.false)
    c.set-2.ensures.here
    c.set-2.ensures.longer
    c.left_none.ensures
    c.in_ok-record.ensures.signs
    c.in_ok-record.ensures.done
    c.in_ok-add_pass.ensures

pub returns-then-is_skippable-clause-counted : goal.returns-then-is_skippable-clause-counted
returns-then-is_skippable-clause-counted g c = λ will.
    ⊎_elim
    (λ (none : c.args.skippable.now.here ≡ no_flags). not_both (is_set c.args.skippable.now.here c.args.pass.dot) (none_set c.args.skippable.now.here c.args.pass.dot none)
    (sym c.is_skippable.ensures ∙ c.if-is_skippable.true))
    (λ (counted : IsCounted c.args.counting.now). counted)
    will
  where
    not_both : (b : Bool) → b ≡ false → b ≡ true → IsCounted c.args.counting.now
    not_both b is not = cc

pub returns-then-is_skippable-clause-begun : goal.returns-then-is_skippable-clause-begun
returns-then-is_skippable-clause-begun g c = refl

pub returns-then-is_skippable-clause-few : goal.returns-then-is_skippable-clause-few
returns-then-is_skippable-clause-few g c = omega arith

pub returns-then-is_skippable-clause-chosen : goal.returns-then-is_skippable-clause-chosen
returns-then-is_skippable-clause-chosen g c = omega arith

pub returns-then-is_skippable-clause-ready : goal.returns-then-is_skippable-clause-ready
returns-then-is_skippable-clause-ready g c = c.requires.ready

pub returns-then-is_skippable-clause-here : goal.returns-then-is_skippable-clause-here
returns-then-is_skippable-clause-here g c = c.set.ensures.here

pub returns-then-is_skippable-clause-signs : goal.returns-then-is_skippable-clause-signs
returns-then-is_skippable-clause-signs g c = refl

pub returns-clause-few : goal.returns-clause-few
returns-clause-few g c = omega (arith, ap (λ (r : RunRecords). r.begun) c.in_ok-add_pass.ensures)

pub returns-clause-chosen : goal.returns-clause-chosen
returns-clause-chosen g c = omega (arith, ap (λ (r : RunRecords). r.chosen) c.in_ok-add_pass.ensures, c.in_ok-record.ensures.few)

pub returns-clause-ready : goal.returns-clause-ready
returns-clause-ready g c = c.in_ok-record.ensures.ready

pub returns-clause-here : goal.returns-clause-here
returns-clause-here g c = c.set-2.ensures.here

pub returns-clause-counted : goal.returns-clause-counted
returns-clause-counted g c = λ will. c.in_ok-record.ensures.counted

pub returns-clause-signs : goal.returns-clause-signs
returns-clause-signs g c = c.run_pass.ensures.signs

pub returns-clause-begun : goal.returns-clause-begun
returns-clause-begun g c = omega (arith, c.in_ok-record.ensures.done.begun, ap (λ (r : RunRecords). r.begun) c.in_ok-add_pass.ensures)

pub run_pass-requires-clause-ranges : goal.run_pass-requires-clause-ranges
run_pass-requires-clause-ranges g c = c.requires.ranges

pub run_pass-requires-clause-level : goal.run_pass-requires-clause-level
run_pass-requires-clause-level g c = c.requires.level

pub run_pass-requires-clause-begun : goal.run_pass-requires-clause-begun
run_pass-requires-clause-begun g c = c.requires.begun

pub run_pass-requires-clause-signs : goal.run_pass-requires-clause-signs
run_pass-requires-clause-signs g c = c.requires.signs

pub run_pass-requires-clause-ready : goal.run_pass-requires-clause-ready
run_pass-requires-clause-ready g c = c.requires.ready

pub add_pass-requires-clause-sound : goal.add_pass-requires-clause-sound
add_pass-requires-clause-sound g c = c.in_ok-record.ensures.sound

pub add_pass-requires-clause-room : goal.add_pass-requires-clause-room
add_pass-requires-clause-room g c = omega (arith, c.in_ok-record.ensures.few, c.requires.chosen)

pub add_pass-requires-clause-few : goal.add_pass-requires-clause-few
add_pass-requires-clause-few g c = omega (arith, c.requires.few)

pub left_none-requires : goal.left_none-requires
left_none-requires g c = c.in_ok-record.ensures.sound

pub set-requires : goal.set-requires
set-requires g c = omega (arith, c.requires.ranges.within, c.requires.ranges.len_high)

pub set-requires-2 : goal.set-requires-2
set-requires-2 g c = omega (arith, c.requires.ranges.within, c.requires.ranges.len_high)

pub is_skippable-requires : goal.is_skippable-requires
is_skippable-requires g c = omega (arith, c.requires.ranges.within, c.requires.ranges.len_high)

pub returns-in_err-record-clause-signs : goal.returns-in_err-record-clause-signs
returns-in_err-record-clause-signs g c = c.run_pass.ensures.signs

pub returns-in_err-record-clause-here : goal.returns-in_err-record-clause-here
returns-in_err-record-clause-here g c = refl

pub returns-in_err-add_pass-clause-here : goal.returns-in_err-add_pass-clause-here
returns-in_err-add_pass-clause-here g c = c.set-2.ensures.here

pub returns-in_err-add_pass-clause-signs : goal.returns-in_err-add_pass-clause-signs
returns-in_err-add_pass-clause-signs g c = c.run_pass.ensures.signs

pub returns-then-is_skippable-clause-numbers : goal.returns-then-is_skippable-clause-numbers
returns-then-is_skippable-clause-numbers g c = c.requires.numbers

pub returns-clause-numbers : goal.returns-clause-numbers
returns-clause-numbers g c =
    let numbers = c.in_ok-record.ensures.numbers in
    record {
      known = known_in c.args.dictionary.now c.args.pass.len c.run_pass.new.windows.counts.numbers c.run_pass.new.counting numbers;
      numbers = λ noted. numbers;
    }

pub run_pass-requires-clause-numbers : goal.run_pass-requires-clause-numbers
run_pass-requires-clause-numbers g c = c.in_ok-number_once.ensures

pub number_once-requires-clause-len : goal.number_once-requires-clause-len
number_once-requires-clause-len g c = (omega (arith, c.requires.ranges.len_low), omega (arith, c.requires.ranges.len_high))

pub number_once-requires-clause-size : goal.number_once-requires-clause-size
number_once-requires-clause-size g c =
    has_size c.args.table.now c.args.dictionary.now c.args.pass.level c.args.pass.len (known_of (g.E.Engine.meaning c.args.engine.now)) c.args.counting.now c.requires.ready

pub number_once-requires-clause-numbers : goal.number_once-requires-clause-numbers
number_once-requires-clause-numbers g c = c.requires.numbers

pub returns-in_err-number_once-clause-signs : goal.returns-in_err-number_once-clause-signs
returns-in_err-number_once-clause-signs g c = refl

pub returns-in_err-number_once-clause-here : goal.returns-in_err-number_once-clause-here
returns-in_err-number_once-clause-here g c = refl
