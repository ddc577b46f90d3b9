use Rattle.std.proofs.Common.{◌<◌, ◌++◌, ℕ, cond, nat_lt, None, Option, Bool, true, false, List, length, append-nil, sym, ap, ◌∙◌, arith}
use Rattle.std.specs.List.{flat_map, slice_index_or}
use Rattle.pg_dict.specs.Inside.LentWords.{lent_word}
use Rattle.pg_select.specs.CountedPositions.{counts_as}
use Rattle.pg_select.specs.Inside.laws.AboveLevel.{counts_above}
use Rattle.pg_select.specs.Statuses.{status}
use Rattle.pg_driver.specs.Inside.counting.OpenLevels.{open_as}
use Rattle.pg_driver.proofs.OpenSteps.{position_added}
use Rattle.pg_driver.proofs.Walks.{listed_done}
use Rattle.pg_driver.proofs.counting.above_positions.list_above.Goals as goal

pub positions-preserved : goal.positions-preserved
positions-preserved c = λ P values.
    let w = lent_word c.args.w.now in
    let p = c.positions.p in
    let level = c.args.level in
    let within : p < length w.signs = omega (arith, c.positions-test.true, c.in-Some.ensures.within) in
    let by_value : ℕ → Option Bool = λ v. cond (nat_lt level v) (counts_as level (status (slice_index_or w.hyphens p false) (slice_index_or w.cares p true) v)) None in
    position_added (λ (q : ℕ). open_as c.args.word q (counts_above level P w q)) c.positions.above.items c.list_at.new.above.items _ p c.in-Some.end c.positions-test.true
    (c.in_ok-list_at.ensures ∙ ap (λ (v : ℕ). c.positions.above.items ++ open_as c.args.word p (by_value v)) (values p within))
    (c.positions.invariant P values)

pub positions-requires : goal.positions-requires
positions-requires c = c.requires

pub list_at-requires-clause-within : goal.list_at-requires-clause-within
list_at-requires-clause-within c = omega (arith, c.positions-test.true, c.in-Some.ensures.within)

pub list_at-requires-clause-short : goal.list_at-requires-clause-short
list_at-requires-clause-short c = c.requires.short

pub positions-init : goal.positions-init
positions-init c = λ P values.
    ap (λ (ps : List ℕ). c.args.above.now.items ++ flat_map (λ (q : ℕ). open_as c.args.word q (counts_above c.args.level P (lent_word c.args.w.now) q)) ps) (sym c.in-Some.ensures.some)

pub returns-in_default : goal.returns-in_default
returns-in_default c = λ P values.
    sym (append-nil c.args.above.now.items)
    ∙ ap (λ (ps : List ℕ). c.args.above.now.items ++ flat_map (λ (q : ℕ). open_as c.args.word q (counts_above c.args.level P (lent_word c.args.w.now) q)) ps) (sym c.in_default.ensures.none)

pub returns : goal.returns
returns c = λ P values.
    listed_done (λ (q : ℕ). open_as c.args.word q (counts_above c.args.level P (lent_word c.args.w.now) q)) c.positions.above.items _ c.positions.p c.in-Some.end c.positions-test.false
    (c.positions.invariant P values)
