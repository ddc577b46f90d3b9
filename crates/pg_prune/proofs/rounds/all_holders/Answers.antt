use Rattle.std.proofs.lemmas.Result.{IfOk-from_err}
use Rattle.pg_prune.specs.Inside.positions.EntryPositions.{positions_of_entry}
use Rattle.std.proofs.lemmas.List.{length-map, take_all}
use Rattle.std.proofs.Common.{◌≡◌, ◌<◌, ◌-◌, ◌^◌, ◌∙◌, ◌++◌, map, take, drop, length, ap, sym, subst, arith, ◌≤◌}
use Rattle.std.proofs.Math.Seq.{take-append_seam}
use Rattle.std.specs.Prelude.{replicate}
use Rattle.pg_patterns.specs.Values.{Patterns}
use Rattle.pg_prune.specs.Inside.rounds.Holders.{holder_counts}
use Rattle.pg_prune.specs.Inside.rounds.Turns.{IsTallied}
use Rattle.pg_prune.proofs.rounds.HolderSteps.{none_tallied, turn_after, turn_awaited, with_next}
use Rattle.pg_prune.proofs.rounds.all_holders.Goals as goal

pub entries-init : goal.entries-init
entries-init c = λ positions g.
    let all : c.args.count ≡ length positions = g.many in
    c.in_ok-holders.ensures ∙ ap (λ n. replicate n (replicate 9 0)) all ∙ none_tallied positions

pub add-requires : goal.add-requires
add-requires c =
    let P = c.args.patterns.now in
    let room : c.entries.i < 2 ^ 64 - 1 = omega arith in
    let inside : c.entries.i < length P = omega (arith, c.len-i-end.ensures.value) in
    let held : IsTallied c.requires.0 (take c.entries.i P) c.as_mut_slice.result.now = subst (λ hs. IsTallied c.requires.0 (take c.entries.i P) hs)
    (sym c.as_mut_slice.ensures.value) (c.entries.invariant c.requires.0 c.requires.1) in (
      turn_after c.requires.0 c.args.patterns.now c.entries.i,
      turn_awaited (λ v. v.items) c.requires.0 c.args.patterns.now c.args.standing.now c.args.count c.as_mut_slice.result.now c.entries.i
          c.index-standing-i.result c.as_slice.result.now _ c.requires.1 c.len-i-end.ensures.kept.sound held inside room c.index-standing-i.is c.as_slice.ensures.value c.entry-value.ensures.value,
    )

pub entries-preserved : goal.entries-preserved
entries-preserved c = λ positions g.
    let P = c.args.patterns.now in
    let room : c.entries.i < 2 ^ 64 - 1 = omega arith in
    let inside : c.entries.i < length P = omega (arith, c.len-i-end.ensures.value) in
    let held : IsTallied positions (take c.entries.i P) c.as_mut_slice.result.now =
    subst (λ hs. IsTallied positions (take c.entries.i P) hs) (sym c.as_mut_slice.ensures.value) (c.entries.invariant positions g) in
    let awaited = turn_awaited (λ v. v.items) positions P c.args.standing.now c.args.count c.as_mut_slice.result.now c.entries.i c.index-standing-i.result
    c.as_slice.result.now _ g c.len-i-end.ensures.kept.sound held inside room c.index-standing-i.is c.as_slice.ensures.value c.entry-value.ensures.value in
    let added = c.add.ensures (turn_after positions P c.entries.i) awaited in
    let new = c.add.new.holders in
    let many : length new ≡ length c.as_mut_slice.result.now = c.add.auto.holders in
    let all : length c.as_mut_slice.result.now ≡ length c.entries.holders.items = ap length c.as_mut_slice.ensures.value in
    let size : c.entries.holders.len ≡ length new = omega (arith, c.entries.holders.ok.0) in
    let whole : take c.entries.holders.len (new ++ drop (length new) c.entries.holders.items) ≡ new = ap (λ n. take n (new ++ drop (length new) c.entries.holders.items)) size
    ∙ take-append_seam new (drop (length new) c.entries.holders.items) in
    whole ∙ added ∙ ap (λ (Q : Patterns). map (holder_counts Q) positions) (sym (with_next positions P c.entries.i inside))

pub returns-in_err-holders : goal.returns-in_err-holders
returns-in_err-holders c = λ positions g. IfOk-from_err c.from_residual.result _ c.from_residual.ensures.0

pub entry-value-requires : goal.entry-value-requires
entry-value-requires c = omega (arith, c.len-i-end.ensures.value)

pub bounds-standing-i : goal.bounds-standing-i
bounds-standing-i c =
    let many : length c.args.standing.now ≡ length c.args.patterns.now = sym (length-map c.args.standing.now (λ v. v.items)) ∙ ap length c.requires.1.all
    ∙ length-map c.args.patterns.now (positions_of_entry c.requires.0) in
    omega (arith, c.len-i-end.ensures.value)

pub offset_bounds-standing-i : goal.offset_bounds-standing-i
offset_bounds-standing-i c = let within : c.entries.i < length c.args.standing.now = bounds-standing-i c in omega arith

pub returns : goal.returns
returns c = λ positions g.
    let behind : length c.args.patterns.now ≤ c.entries.i = omega (arith, c.len-i-end.ensures.value) in
    c.entries.invariant positions g ∙ ap (λ (Q : Patterns). map (holder_counts Q) positions) (take_all c.entries.i c.args.patterns.now behind)
