use Rattle.std.proofs.Common.{rules, ◌≡◌, ℕ, ◌+◌, ◌-◌, ◌≤◌, Bool, false, nat_lt, List, sym, length, ◌∙◌}
use Rattle.std.proofs.lemmas.Bool.{ltb-false}
use Rattle.std.proofs.lemmas.Result.{err_from_is_err_and}
use Rattle.pg_types.specs.declared.limits.TheConstants.{FILE_MAX}
use Rattle.pg_types.specs.Parameters.{items}
use Rattle.pg_types.proofs.Levels.{after_finish, after_start, whole_is, behind_finish, behind_levels, failed_levels}
use Rattle.pg_types.proofs.parameters.read_params.Goals as goal

-- a file that is not too long
short : (bytes : List ℕ) (test : Bool) → test ≡ nat_lt FILE_MAX (length bytes) → test ≡ false → length bytes ≤ FILE_MAX
short bytes test is fits = ltb-false FILE_MAX (length bytes) (sym is ∙ fits)

pub returns-in_err-start : goal.returns-in_err-start
returns-in_err-start c =
    let p = err_from_is_err_and c.from_residual.result c.from_residual.ensures.1 in
    rw (p.1, p.2) (whole_is c.args.bytes.now _ _ (short c.args.bytes.now _ c.is_too_long.ensures c.if-is_too_long.false) c.new-items.ensures.rest c.new-items.ensures.item_number
    ∙ c.in_err-start.ensures.refused after_start)

pub returns-in_err-finish : goal.returns-in_err-finish
returns-in_err-finish c =
    let p = err_from_is_err_and c.from_residual-in_err-finish.result c.from_residual-in_err-finish.ensures.1 in
    rw (p.1, p.2) (whole_is c.args.bytes.now _ _ (short c.args.bytes.now _ c.is_too_long.ensures c.if-is_too_long.false) c.new-items.ensures.rest c.new-items.ensures.item_number
    ∙ c.in_ok-start.ensures.taken after_start ∙ c.in_err-finish.ensures.refused (after_finish c.in_ok-start.field-0))

pub returns-in_err-levels : goal.returns-in_err-levels
returns-in_err-levels c =
    let p = err_from_is_err_and c.from_residual-in_err-levels.result c.from_residual-in_err-levels.ensures.1 in
    rw (p.1, p.2) (failed_levels c.in_ok-start.field-0 c.in_ok-finish.field-0 c.levels_between.result c.number-2.new.self.item_number (items c.number-2.new.self.rest.now) _ _
    (behind_finish c.in_ok-start.field-0 c.in_ok-finish.field-0 c.levels_between.result c.new-items.result.item_number _ c.number-2.new.self.item_number (items c.new-items.result.rest.now) _
    (items c.number-2.new.self.rest.now) _ c.levels_between.ensures
    (whole_is c.args.bytes.now _ _ (short c.args.bytes.now _ c.is_too_long.ensures c.if-is_too_long.false) c.new-items.ensures.rest c.new-items.ensures.item_number)
    c.in_ok-start.ensures.taken c.in_ok-finish.ensures.taken)
    c.in_err-levels.ensures.failed)

pub returns-in_err-end : goal.returns-in_err-end
returns-in_err-end c =
    let p = err_from_is_err_and c.from_residual-in_err-end.result c.from_residual-in_err-end.ensures.1 in
    rw (p.1, p.2) (behind_levels c.in_ok-start.field-0 c.in_ok-finish.field-0 c.levels_between.result c.number-2.new.self.item_number _ (items c.number-2.new.self.rest.now) _ _ _
    (behind_finish c.in_ok-start.field-0 c.in_ok-finish.field-0 c.levels_between.result c.new-items.result.item_number _ c.number-2.new.self.item_number (items c.new-items.result.rest.now) _
    (items c.number-2.new.self.rest.now) _ c.levels_between.ensures
    (whole_is c.args.bytes.now _ _ (short c.args.bytes.now _ c.is_too_long.ensures c.if-is_too_long.false) c.new-items.ensures.rest c.new-items.ensures.item_number)
    c.in_ok-start.ensures.taken c.in_ok-finish.ensures.taken)
    c.in_ok-levels.ensures.taken ∙ c.in_err-end.ensures.refused _)

pub returns : goal.returns
returns c =
    behind_levels c.in_ok-start.field-0 c.in_ok-finish.field-0 c.levels_between.result c.number-2.new.self.item_number _ (items c.number-2.new.self.rest.now) _ _ _
    (behind_finish c.in_ok-start.field-0 c.in_ok-finish.field-0 c.levels_between.result c.new-items.result.item_number _ c.number-2.new.self.item_number (items c.new-items.result.rest.now) _
    (items c.number-2.new.self.rest.now) _ c.levels_between.ensures
    (whole_is c.args.bytes.now _ _ (short c.args.bytes.now _ c.is_too_long.ensures c.if-is_too_long.false) c.new-items.ensures.rest c.new-items.ensures.item_number)
    c.in_ok-start.ensures.taken c.in_ok-finish.ensures.taken)
    c.in_ok-levels.ensures.taken ∙ c.in_ok-end.ensures.passed _

pub invariant_of-result : goal.invariant_of-result
invariant_of-result c = record {
  start_low = c.in_ok-start.ensures.low;
  start_high = c.in_ok-start.ensures.high;
  finish_low = c.in_ok-finish.ensures.low;
  finish_high = c.in_ok-finish.ensures.high;
  count = c.in_ok-levels.ensures.count ∙ c.levels_between.ensures;
  levels = c.in_ok-levels.ensures.ranges;
}
