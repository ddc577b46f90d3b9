use Rattle.std.proofs.Common.{◌-◌, refl, subst, arith}
use Rattle.pg_driver.specs.Inside.counting.LevelCounting.{HasEnded, HasEndedOpen}
use Rattle.pg_driver.specs.Inside.records.RunAccounts.{known_of}
use Rattle.pg_driver.proofs.WordLevels.{words_begin}
use Rattle.pg_driver.proofs.ReadySteps.{ready_at_start, ready_next}
use Rattle.pg_driver.proofs.counting.WayToCount.begin_level.Goals as goal

pub next_level-requires : goal.next_level-requires
next_level-requires g c =
    let m = g.E.Engine.meaning c.args.engine.now in
    let T = c.args.table.now in
    let W = c.args.dictionary.now in
    let ended : HasEndedOpen T W (c.args.level - 1) m.patterns c.in-Open.open = subst (HasEnded T W (c.args.level - 1) m.patterns) c.in-Open.is c.requires.ended in
    record { room = ended.room }

pub returns-in-Open-clause-ready : goal.returns-in-Open-clause-ready
returns-in-Open-clause-ready g c = λ len.
    let m = g.E.Engine.meaning c.args.engine.now in
    let T = c.args.table.now in
    let W = c.args.dictionary.now in
    let o = c.in-Open.open in
    let ended : HasEndedOpen T W (c.args.level - 1) m.patterns o = subst (HasEnded T W (c.args.level - 1) m.patterns) c.in-Open.is c.requires.ended in
    ready_next T W c.args.level len m o (record { dots = c.next_level.new.self; never = o.never; totals = o.totals }) c.requires.first c.requires.hopeless
    (c.requires.below (omega (arith, c.if-level-greatest.false))) ended c.next_level.ensures.positions c.next_level.ensures.closed refl refl

pub returns-in-Open-clause-form : goal.returns-in-Open-clause-form
returns-in-Open-clause-form g c = λ low. tt

pub returns-clause-ready : goal.returns-clause-ready
returns-clause-ready g c = λ len.
    ready_at_start c.args.table.now c.args.dictionary.now c.args.level len (g.E.Engine.meaning c.args.engine.now) c.in_ok-opened.opened
    c.requires.hopeless
    (c.requires.below (omega (arith, c.if-level-greatest.false)))
    c.in_ok-opened.ensures.bounded
    c.in_ok-opened.ensures.size
    c.in_ok-opened.ensures.closed
    c.in_ok-opened.ensures.set_size
    c.in_ok-opened.ensures.never
    c.in_ok-opened.ensures.totals

pub returns-clause-form : goal.returns-clause-form
returns-clause-form g c = λ low. tt

pub returns-then-level-greatest-clause-form : goal.returns-then-level-greatest-clause-form
returns-then-level-greatest-clause-form g c = λ low. absurd (omega (arith, c.if-level-greatest.true))

pub returns-then-level-greatest-clause-ready : goal.returns-then-level-greatest-clause-ready
returns-then-level-greatest-clause-ready g c = λ len.
    words_begin c.args.table.now c.args.dictionary.now c.args.level (known_of (g.E.Engine.meaning c.args.engine.now)) c.new.result
    c.new.ensures.counted
    c.new.ensures.above
