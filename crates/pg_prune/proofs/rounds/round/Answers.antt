use Rattle.std.proofs.lemmas.Result.{IfOk-from_err}
use Rattle.pg_prune.specs.Inside.positions.EntryPositions.{positions_of_entry}
use Rattle.std.proofs.lemmas.List.{length-map}
use Rattle.std.proofs.Common.{◌∙◌, ◌+◌, if◌then◌else◌, map, get_or, drop, sym, subst, ap, ◌≡◌, ◌<◌, length, arith}
use Rattle.pg_prune.specs.Inside.rounds.Turns.{with_entry, without_entry, IsTallied}
use Rattle.pg_prune.proofs.rounds.RoundSteps.{Rounding, rounding_begins, rounding_at, turn_at, turn_of, rounding_goes, rounding_stays, rounding_ends}
use Rattle.pg_prune.proofs.rounds.TurnSteps.{none_left}
use Rattle.pg_prune.proofs.rounds.round.Goals as goal
use Rattle.pg_prune.proofs.rounds.round.Goals.{then-keep_or_take_off+in_ok-push, else-keep_or_take_off}

pub entries-init : goal.entries-init
entries-init c = λ positions s.
    subst (λ stay. Rounding positions c.args.patterns.now c.args.kept.now c.args.holders.now stay c.args.kept.now) (sym c.new-stay.ensures.items)
    (rounding_begins positions c.args.patterns.now (map (λ v. v.items) c.args.standing.now) c.args.kept.now c.args.holders.now s)

pub keep_or_take_off-requires : goal.keep_or_take_off-requires
keep_or_take_off-requires c =
    let positions = c.requires.0 in
    let r = c.entries.invariant positions c.requires.1 in (
      turn_of positions c.args.patterns.now c.entries.stay.items (get_or c.args.kept.now c.entries.i-index 0) (drop (c.entries.i-index + 1) c.args.kept.now),
      turn_at (λ v. v.items) positions c.args.patterns.now c.args.standing.now c.args.kept.now c.args.holders.now c.entries.holders c.entries.stay.items
          c.entries.i-index c.index-standing-i.result c.as_slice.result.now _ c.requires.1 r c.entries-test.true c.index-standing-i.is c.as_slice.ensures.value c.entry-value.ensures.value,
    )

pub entries-preserved : goal.entries-preserved
entries-preserved c = λ positions s.
    let P = c.args.patterns.now in
    let kept = c.args.kept.now in
    let stay = c.entries.stay.items in
    let i = c.entries.i-index in
    let k = get_or kept i 0 in
    let r = c.entries.invariant positions s in
    let turn = turn_of positions P stay k (drop (i + 1) kept) in
    let held = turn_at (λ v. v.items) positions P c.args.standing.now kept c.args.holders.now c.entries.holders stay i c.index-standing-i.result
    c.as_slice.result.now _ s r c.entries-test.true c.index-standing-i.is c.as_slice.ensures.value c.entry-value.ensures.value in
    let at = rounding_at (λ v. v.items) positions P c.args.standing.now kept c.entries.holders stay i c.entries-test.true r in
    let answer = c.keep_or_take_off.ensures.answer turn held in
    let tallied = c.keep_or_take_off.ensures.holders turn held in
    let stands = map (λ v. v.items) c.args.standing.now in
    let left = drop (i + 1) kept in
    let new = c.keep_or_take_off.new.holders in
    elim c.if-keep_or_take_off.branch [
      | then-keep_or_take_off+in_ok-push w ↦
          let is = w.if-keep_or_take_off.true in
          let longer = ap (λ v. v.items) w.stay-is ∙ w.in_ok-push.ensures.items in
          subst (λ ks. Rounding positions P kept new ks left) (sym longer)
          (rounding_stays positions P stands kept c.entries.holders new stay k left at (sym is ∙ answer)
          (subst (λ b. IsTallied positions (if b then with_entry turn else without_entry turn) new) is tallied))
      | else-keep_or_take_off w ↦
          let is = w.if-keep_or_take_off.false in
          let same = ap (λ v. v.items) w.stay-is in
          subst (λ ks. Rounding positions P kept new ks left) (sym same)
          (rounding_goes positions P stands kept c.entries.holders new stay k left at (sym is ∙ answer)
          (subst (λ b. IsTallied positions (if b then with_entry turn else without_entry turn) new) is tallied))
    ]

pub returns : goal.returns
returns c = λ positions s.
    rounding_ends positions c.args.patterns.now (map (λ v. v.items) c.args.standing.now) c.args.kept.now c.args.holders.now c.entries.holders c.entries.stay.items s
    (subst (λ left. Rounding positions c.args.patterns.now c.args.kept.now c.entries.holders c.entries.stay.items left) (none_left c.args.kept.now c.entries.i-index c.entries-test.false)
    (c.entries.invariant positions s))

pub entry-value-requires : goal.entry-value-requires
entry-value-requires c = c.requires.1.within c.entries.i-index 0 c.entries-test.true

pub bounds-standing-i : goal.bounds-standing-i
bounds-standing-i c =
    let s = c.requires.1 in
    let inside : get_or c.args.kept.now c.entries.i-index 0 < length c.args.patterns.now = s.within c.entries.i-index 0 c.entries-test.true in
    let many : length c.args.standing.now ≡ length c.args.patterns.now = sym (length-map c.args.standing.now (λ v. v.items)) ∙ ap length s.all
    ∙ length-map c.args.patterns.now (positions_of_entry c.requires.0) in
    omega arith

pub offset_bounds-standing-i : goal.offset_bounds-standing-i
offset_bounds-standing-i c = let within : get_or c.args.kept.now c.entries.i-index 0 < length c.args.standing.now = bounds-standing-i c in omega arith

pub returns-in_err-push : goal.returns-in_err-push
returns-in_err-push c = λ positions s. IfOk-from_err c.from_residual.result _ c.from_residual.ensures.0
