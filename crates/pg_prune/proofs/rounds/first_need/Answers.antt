use Rattle.std.proofs.Common.{◌≡◌, ◌<◌, ◌-◌, ◌∙◌, true, false, length, get_or, Some, ap, sym, subst, arith}
use Rattle.std.proofs.lemmas.List.{length-map}
use Rattle.pg_prune.specs.Inside.rounds.Holders.{holder_counts, stays_alike}
use Rattle.pg_prune.specs.Prunes.{break_alike_at}
use Rattle.pg_prune.specs.Inside.rounds.Turns.{with_entry, without_entry}
use Rattle.pg_prune.proofs.rounds.TurnLaws.{there_alike, there_some, value_low, value_high}
use Rattle.pg_prune.proofs.rounds.TurnSteps.{looks_begin, looks_step, looks_end, held_at}
use Rattle.pg_prune.proofs.rounds.first_need.Goals as goal

pub bounds-holders-position : goal.bounds-holders-position
bounds-holders-position c =
    let t = c.requires.0 in
    let within = (looks_step t c.args.positions.now c.args.value c.args.holders.now c.requires.1 c.positions.position-index c.positions-test.true (c.positions.invariant t c.requires.1)).within in
    let many : length c.args.holders.now ≡ length t.positions = ap length c.requires.1.tallied ∙ length-map t.positions (holder_counts (with_entry t)) in
    omega arith

pub offset_bounds-holders-position : goal.offset_bounds-holders-position
offset_bounds-holders-position c = let within : get_or c.args.positions.now c.positions.position-index 0 < length c.args.holders.now = bounds-holders-position c in omega arith

pub stays_alike-requires-clause-value : goal.stays_alike-requires-clause-value
stays_alike-requires-clause-value c = (value_low c.requires.0 c.args.positions.now c.args.value c.requires.1.entry, value_high c.requires.0 c.args.positions.now c.args.value c.requires.1.entry)

pub stays_alike-requires-clause-some : goal.stays_alike-requires-clause-some
stays_alike-requires-clause-some c =
    let t = c.requires.0 in
    let s = looks_step t c.args.positions.now c.args.value c.args.holders.now c.requires.1 c.positions.position-index c.positions-test.true (c.positions.invariant t c.requires.1) in
    let at = c.index-holders-position.is ∙ held_at t c.args.positions.now c.args.value c.args.holders.now c.requires.1
    (get_or c.args.positions.now c.positions.position-index 0) s.position s.within s.at c.index-holders-position.result in
    subst (λ h. 0 < get_or h (c.args.value - 1) 0) (sym at) (there_some t c.args.positions.now c.args.value c.requires.1.entry s.position s.there)

pub positions-init : goal.positions-init
positions-init c = λ turn held. looks_begin turn c.args.positions.now c.args.value c.args.holders.now held

pub positions-preserved : goal.positions-preserved
positions-preserved c = λ turn held.
    let s = looks_step turn c.args.positions.now c.args.value c.args.holders.now held c.positions.position-index c.positions-test.true (c.positions.invariant turn held) in
    let at = c.index-holders-position.is ∙ held_at turn c.args.positions.now c.args.value c.args.holders.now held
    (get_or c.args.positions.now c.positions.position-index 0) s.position s.within s.at c.index-holders-position.result in
    let alike : break_alike_at (with_entry turn) (without_entry turn) s.position ≡ true =
    there_alike turn c.args.positions.now c.args.value held.entry s.position s.there ∙ ap (stays_alike c.args.value) (sym at) ∙ sym c.stays_alike.ensures ∙ c.if-not-stays_alike.false in
    s.next alike

pub returns-then-not-stays_alike : goal.returns-then-not-stays_alike
returns-then-not-stays_alike c = λ turn held.
    let s = looks_step turn c.args.positions.now c.args.value c.args.holders.now held c.positions.position-index c.positions-test.true (c.positions.invariant turn held) in
    let at = c.index-holders-position.is ∙ held_at turn c.args.positions.now c.args.value c.args.holders.now held
    (get_or c.args.positions.now c.positions.position-index 0) s.position s.within s.at c.index-holders-position.result in
    let differs : break_alike_at (with_entry turn) (without_entry turn) s.position ≡ false =
    there_alike turn c.args.positions.now c.args.value held.entry s.position s.there ∙ ap (stays_alike c.args.value) (sym at) ∙ sym c.stays_alike.ensures ∙ c.if-not-stays_alike.true in
    record { within = s.within; position = λ d. s.found differs ∙ ap Some (sym (s.at d)) }

pub returns : goal.returns
returns c = λ turn held. looks_end turn c.args.positions.now c.args.value c.args.holders.now held c.positions.position-index c.positions-test.false (c.positions.invariant turn held)
