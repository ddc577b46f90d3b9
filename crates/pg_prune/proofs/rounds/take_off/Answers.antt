use Rattle.std.proofs.Common.{◌<◌, ◌-◌, ◌∙◌, length, get_or, ap, sym, subst, arith}
use Rattle.pg_prune.specs.Inside.rounds.Holders.{less_one}
use Rattle.pg_prune.proofs.rounds.TurnLaws.{there_less, there_some}
use Rattle.pg_prune.proofs.rounds.TurnSteps.{off_begins, off_steps, off_ends}
use Rattle.pg_prune.proofs.rounds.take_off.Goals as goal

pub bounds-holders-position : goal.bounds-holders-position
bounds-holders-position c =
    (off_steps c.requires.0 c.args.positions.now c.args.value c.args.holders.now c.requires.1 c.positions.holders c.positions.position-index c.positions-test.true
    (c.positions.invariant c.requires.0 c.requires.1)).within

pub offset_bounds-holders-position : goal.offset_bounds-holders-position
offset_bounds-holders-position c = let within : get_or c.args.positions.now c.positions.position-index 0 < length c.positions.holders = bounds-holders-position c in omega arith

pub take_off-requires-clause-some : goal.take_off-requires-clause-some
take_off-requires-clause-some c =
    let t = c.requires.0 in
    let s = off_steps t c.args.positions.now c.args.value c.args.holders.now c.requires.1 c.positions.holders c.positions.position-index c.positions-test.true (c.positions.invariant t c.requires.1) in
    subst (λ h. 0 < get_or h (c.args.value - 1) 0) (sym (s.at c.index-holders-position.result)) (there_some t c.args.positions.now c.args.value c.requires.1.entry s.position s.there)

pub positions-init : goal.positions-init
positions-init c = λ turn held. off_begins turn c.args.positions.now c.args.value c.args.holders.now held

pub positions-preserved : goal.positions-preserved
positions-preserved c = λ turn held.
    let s = off_steps turn c.args.positions.now c.args.value c.args.holders.now held c.positions.holders c.positions.position-index c.positions-test.true (c.positions.invariant turn held) in
    s.next c.take_off.new.self (c.take_off.ensures ∙ ap (λ h. less_one h c.args.value) (s.at c.index-holders-position.result)
    ∙ there_less turn c.args.positions.now c.args.value held.entry s.position s.there)

pub returns : goal.returns
returns c = λ turn held. off_ends turn c.args.positions.now c.args.value c.args.holders.now held c.positions.holders c.positions.position-index c.positions-test.false (c.positions.invariant turn held)
