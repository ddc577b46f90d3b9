use Rattle.std.proofs.Common.{◌≡◌, ◌≢◌, ◌<◌, ◌≤◌, ◌+◌, ◌∙◌, map, length, ap, sym, subst, arith}
use Rattle.std.specs.List.{range_with_len}
use Rattle.pg_prune.specs.Inside.rounds.Picks.{IsKeptSoFar, IsOneRound}
use Rattle.pg_prune.proofs.rounds.AllRounds.{RoundsSoFar, rounds_begin, round_fewer, rounds_next, rounds_end_with}
use Rattle.pg_prune.proofs.rounds.all_rounds.Goals as goal

pub rounds-init : goal.rounds-init
rounds-init g c = (
  omega arith,
  λ positions s.
      let P = c.args.patterns.now in
      let stands = map (λ v. v.items) c.args.standing.now in
      let all : c.in_ok-kept.kept.items ≡ range_with_len 0 (length P) = c.in_ok-kept.ensures ∙ ap (range_with_len 0) c.len.ensures.value in
      subst (λ ks. RoundsSoFar positions P stands c.args.holders.now ks 0) (sym all) (rounds_begin positions P stands c.args.holders.now c.len.ensures.kept.sound s),
)

pub round-requires : goal.round-requires
round-requires g c =
    let r = c.rounds.invariant.1 c.requires.0 c.requires.1 in
    (c.requires.0, subst (λ ks. IsKeptSoFar c.requires.0 c.args.patterns.now (map (λ v. v.items) c.args.standing.now) c.rounds.holders ks) (sym c.as_slice.ensures.value) r.ready)

pub returns-then-len : goal.returns-then-len
returns-then-len g c = λ positions s.
    let P = c.args.patterns.now in
    let stands = map (λ v. v.items) c.args.standing.now in
    let r = c.rounds.invariant.1 positions s in
    let d = subst (λ ks. IsOneRound positions P stands c.round.new.holders ks c.in_ok-stay.stay.items) c.as_slice.ensures.value
    (c.in_ok-stay.ensures positions (subst (λ ks. IsKeptSoFar positions P stands c.rounds.holders ks) (sym c.as_slice.ensures.value) r.ready)) in
    let same : length c.in_ok-stay.stay.items ≡ length c.rounds.kept.items = omega (arith, c.in_ok-stay.stay.ok.0, c.rounds.kept.ok.0) in
    let end = rounds_end_with positions P stands c.rounds.holders c.round.new.holders c.rounds.kept.items c.in_ok-stay.stay.items c.rounds.count r d same in
    record { ready = end.0; done = end.1 }

pub rounds-smaller : goal.rounds-smaller
rounds-smaller g c =
    let P = c.args.patterns.now in
    let stands = map (λ v. v.items) c.args.standing.now in
    let r = c.rounds.invariant.1 c.requires.0 c.requires.1 in
    let d = subst (λ ks. IsOneRound c.requires.0 P stands c.round.new.holders ks c.in_ok-stay.stay.items) c.as_slice.ensures.value
    (c.in_ok-stay.ensures c.requires.0 (subst (λ ks. IsKeptSoFar c.requires.0 P stands c.rounds.holders ks) (sym c.as_slice.ensures.value) r.ready)) in
    let fewer : length c.in_ok-stay.stay.items ≤ length c.rounds.kept.items = round_fewer c.requires.0 P stands c.round.new.holders c.rounds.kept.items c.in_ok-stay.stay.items d in
    let less : length c.in_ok-stay.stay.items < length c.rounds.kept.items = omega (arith, c.in_ok-stay.stay.ok.0, c.rounds.kept.ok.0) in
    less

pub rounds-preserved : goal.rounds-preserved
rounds-preserved g c = (
  (let P = c.args.patterns.now in
      let stands = map (λ v. v.items) c.args.standing.now in
      let r = c.rounds.invariant.1 c.requires.0 c.requires.1 in
      let d = subst (λ ks. IsOneRound c.requires.0 P stands c.round.new.holders ks c.in_ok-stay.stay.items) c.as_slice.ensures.value
      (c.in_ok-stay.ensures c.requires.0 (subst (λ ks. IsKeptSoFar c.requires.0 P stands c.rounds.holders ks) (sym c.as_slice.ensures.value) r.ready)) in
      let fewer : length c.in_ok-stay.stay.items ≤ length c.rounds.kept.items = round_fewer c.requires.0 P stands c.round.new.holders c.rounds.kept.items c.in_ok-stay.stay.items d in
      let few : c.rounds.count + length c.rounds.kept.items ≤ length c.in_ok-kept.kept.items = c.rounds.invariant.0 in
      omega (arith, c.in_ok-stay.stay.ok.0, c.rounds.kept.ok.0)),
  λ positions s.
      let P = c.args.patterns.now in
      let stands = map (λ v. v.items) c.args.standing.now in
      let r = c.rounds.invariant.1 positions s in
      let d = subst (λ ks. IsOneRound positions P stands c.round.new.holders ks c.in_ok-stay.stay.items) c.as_slice.ensures.value
      (c.in_ok-stay.ensures positions (subst (λ ks. IsKeptSoFar positions P stands c.rounds.holders ks) (sym c.as_slice.ensures.value) r.ready)) in
      let other : length c.in_ok-stay.stay.items ≢ length c.rounds.kept.items = omega (arith, c.in_ok-stay.stay.ok.0, c.rounds.kept.ok.0) in
      rounds_next positions P stands c.rounds.holders c.round.new.holders c.rounds.kept.items c.in_ok-stay.stay.items c.rounds.count r d other,
)
