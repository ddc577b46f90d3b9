use Rattle.std.proofs.lemmas.Result.{IfOk-from_err}
use Rattle.std.proofs.Common.{◌≡◌, ◌<◌, ◌+◌, ◌∙◌, ◌∷◌, ◌++◌, [], length, get_or, take, drop, sym, subst, ap, arith}
use Rattle.std.proofs.lemmas.List.{length-map, append-nil}
use Rattle.pg_prune.specs.Inside.positions.PositionInReach.{need_at}
use Rattle.pg_prune.specs.Inside.Findings.{need_list, first_difference}
use Rattle.pg_prune.specs.Inside.positions.EntryPositions.{positions_of_entry}
use Rattle.pg_prune.specs.Inside.rounds.Turns.{with_entry, without_entry}
use Rattle.pg_prune.proofs.rounds.NeedSteps.{NeedsSoFar, needs_begin, needs_step, needs_end, need_turn, need_found}
use Rattle.pg_prune.proofs.rounds.RoundSteps.{turn_of}
use Rattle.pg_prune.proofs.rounds.needs.Goals as goal
use Rattle.pg_prune.proofs.rounds.needs.Goals.{in-Some+in_ok-push, in_default}

pub entries-init : goal.entries-init
entries-init c = λ all is s. subst (λ found. NeedsSoFar all c.args.patterns.now c.args.kept.now found 0) (sym c.new-needs.ensures.items) (needs_begin all c.args.patterns.now c.args.kept.now)

pub first_need-requires : goal.first_need-requires
first_need-requires c =
    let kept = c.args.kept.now in
    let i = c.entries.i-index in (
      turn_of c.requires.0 c.args.patterns.now (take i kept) (get_or kept i 0) (drop (i + 1) kept),
      need_turn c.requires.0 c.args.patterns.now kept (λ v. v.items) c.args.standing.now c.args.holders.now i c.index-standing-i.result c.as_slice.result.now
          _ c.requires.2 c.entries-test.true c.index-standing-i.is c.as_slice.ensures.value c.entry-value.ensures.value,
    )

pub bounds-positions-position : goal.bounds-positions-position
bounds-positions-position c =
    let kept = c.args.kept.now in
    let i = c.entries.i-index in
    let turn = turn_of c.requires.0 c.args.patterns.now (take i kept) (get_or kept i 0) (drop (i + 1) kept) in
    let held = need_turn c.requires.0 c.args.patterns.now kept (λ v. v.items) c.args.standing.now c.args.holders.now i c.index-standing-i.result
    c.as_slice.result.now _ c.requires.2 c.entries-test.true c.index-standing-i.is c.as_slice.ensures.value c.entry-value.ensures.value in
    let within : c.in-Some.position < length c.requires.0 = (c.in-Some.ensures turn held).within in
    let many : length c.args.positions.now ≡ length c.requires.0 = ap length c.requires.1 ∙ length-map c.requires.0 need_at in
    omega arith

pub offset_bounds-positions-position : goal.offset_bounds-positions-position
offset_bounds-positions-position c = let within : c.in-Some.position < length c.args.positions.now = bounds-positions-position c in omega arith

pub entries-preserved : goal.entries-preserved
entries-preserved c = λ all is s.
    let kept = c.args.kept.now in
    let i = c.entries.i-index in
    let turn = turn_of all c.args.patterns.now (take i kept) (get_or kept i 0) (drop (i + 1) kept) in
    let held = need_turn all c.args.patterns.now kept (λ v. v.items) c.args.standing.now c.args.holders.now i c.index-standing-i.result c.as_slice.result.now
    _ s c.entries-test.true c.index-standing-i.is c.as_slice.ensures.value c.entry-value.ensures.value in
    let found = first_difference all (with_entry turn) (without_entry turn) in
    let so = needs_step all c.args.patterns.now kept c.entries.needs.items i c.entries-test.true (c.entries.invariant all is s) in
    elim c.match-first_need.branch [
      | in-Some+in_ok-push w ↦
          let need = need_found all found w.in-Some.position (record { word = 0; position = 0 }) (w.in-Some.ensures turn held)
          ∙ ap (λ ns. get_or ns w.in-Some.position (record { word = 0; position = 0 }) ∷ []) (sym is) in
          let longer = ap (λ v. v.items) w.needs-is ∙ w.in_ok-push.ensures.items ∙ ap (λ n. c.entries.needs.items ++ n) (sym need) in
          subst (λ ns. NeedsSoFar all c.args.patterns.now kept ns (i + 1)) (sym longer) so
      | in_default w ↦
          let same = ap (λ v. v.items) w.needs-is ∙ sym (append-nil c.entries.needs.items) ∙ ap (λ o. c.entries.needs.items ++ need_list o) (sym (w.in_default.ensures turn held)) in
          subst (λ ns. NeedsSoFar all c.args.patterns.now kept ns (i + 1)) (sym same) so
    ]

pub returns : goal.returns
returns c = λ all is s. needs_end all c.args.patterns.now c.args.kept.now c.entries.needs.items c.entries.i-index c.entries-test.false (c.entries.invariant all is s)

pub entry-value-requires : goal.entry-value-requires
entry-value-requires c = c.requires.2.within c.entries.i-index 0 c.entries-test.true

pub bounds-standing-i : goal.bounds-standing-i
bounds-standing-i c =
    let s = c.requires.2 in
    let inside : get_or c.args.kept.now c.entries.i-index 0 < length c.args.patterns.now = s.within c.entries.i-index 0 c.entries-test.true in
    let many : length c.args.standing.now ≡ length c.args.patterns.now = sym (length-map c.args.standing.now (λ v. v.items)) ∙ ap length s.all
    ∙ length-map c.args.patterns.now (positions_of_entry c.requires.0) in
    omega arith

pub returns-in_err-push : goal.returns-in_err-push
returns-in_err-push c = λ all is s. IfOk-from_err c.from_residual.result _ c.from_residual.ensures.0

pub offset_bounds-standing-i : goal.offset_bounds-standing-i
offset_bounds-standing-i c = let within : get_or c.args.kept.now c.entries.i-index 0 < length c.args.standing.now = bounds-standing-i c in omega arith
