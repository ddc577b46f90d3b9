use Rattle.std.proofs.Common.{◌<◌, ◌-◌, ◌^◌, ◌∙◌, length, get_or, ap, sym, subst, arith}
use Rattle.pg_prune.specs.Inside.rounds.Holders.{with_one}
use Rattle.pg_prune.specs.Inside.rounds.Turns.{without_entry}
use Rattle.pg_prune.proofs.rounds.TurnLaws.{there_more, held_low, value_low, value_high}
use Rattle.pg_prune.proofs.rounds.TurnSteps.{on_begins, on_steps, on_ends}
use Rattle.pg_prune.proofs.rounds.add.Goals as goal

pub bounds-holders-position : goal.bounds-holders-position
bounds-holders-position c =
    (on_steps c.requires.0 c.args.positions.now c.args.value c.args.holders.now c.requires.1 c.positions.holders c.positions.position-index c.positions-test.true
    (c.positions.invariant c.requires.0 c.requires.1)).within

pub offset_bounds-holders-position : goal.offset_bounds-holders-position
offset_bounds-holders-position c = let within : get_or c.args.positions.now c.positions.position-index 0 < length c.positions.holders = bounds-holders-position c in omega arith

pub add-requires-clause-value : goal.add-requires-clause-value
add-requires-clause-value c = (value_low c.requires.0 c.args.positions.now c.args.value c.requires.1.entry, value_high c.requires.0 c.args.positions.now c.args.value c.requires.1.entry)

pub add-requires-clause-room : goal.add-requires-clause-room
add-requires-clause-room c =
    let t = c.requires.0 in
    let s = on_steps t c.args.positions.now c.args.value c.args.holders.now c.requires.1 c.positions.holders c.positions.position-index c.positions-test.true (c.positions.invariant t c.requires.1) in
    let low = held_low (without_entry t) s.position (c.args.value - 1) in
    let room = c.requires.1.room in
    subst (λ h. get_or h (c.args.value - 1) 0 < 2 ^ 64 - 1) (sym (s.at c.index-holders-position.result)) (omega arith)

pub positions-init : goal.positions-init
positions-init c = λ turn held. on_begins turn c.args.positions.now c.args.value c.args.holders.now held

pub positions-preserved : goal.positions-preserved
positions-preserved c = λ turn held.
    let s = on_steps turn c.args.positions.now c.args.value c.args.holders.now held c.positions.holders c.positions.position-index c.positions-test.true (c.positions.invariant turn held) in
    s.next c.add.new.self (c.add.ensures ∙ ap (λ h. with_one h c.args.value) (s.at c.index-holders-position.result)
    ∙ sym (there_more turn c.args.positions.now c.args.value held.entry s.position s.there))

pub returns : goal.returns
returns c = λ turn held. on_ends turn c.args.positions.now c.args.value c.args.holders.now held c.positions.holders c.positions.position-index c.positions-test.false (c.positions.invariant turn held)
