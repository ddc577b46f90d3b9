use Rattle.std.proofs.Common.{◌≡◌, ℕ, ◌+◌, ◌-◌, List, ◌++◌, length, sym, ap, subst, ◌∙◌, rules, arith}
use Rattle.std.proofs.lemmas.Result.{err_from_is_err_and}
use Rattle.std.proofs.lemmas.List.{length_push, append-nil}
use Rattle.std.proofs.lemmas.List.Elements.{All-push}
use Rattle.pg_types.specs.declared.parameters.LevelParams.{LevelParams}
use Rattle.pg_types.specs.Parameters.{levels_then, items}
use Rattle.pg_types.specs.Inside.Ranges.{IsLevel}
use Rattle.pg_types.proofs.Levels.{left_more, left_refused}
use Rattle.pg_types.proofs.parameters.read_levels.Goals as goal

pub returns-in_err-level-clause-failed : goal.returns-in_err-level-clause-failed
returns-in_err-level-clause-failed c =
    let p = err_from_is_err_and c.from_residual.result c.from_residual.ensures.1 in
    rw (p.1, p.2) (λ next. sym (c.levels.invariant.left next) ∙ left_refused c.levels.levels.items c.levels.items.item_number (c.args.count - (c.levels.i + 1)) (c.args.count - c.levels.i)
    (items c.levels.items.rest.now) _ (omega (arith, c.levels-test.true)) c.in_err-level.ensures.refused next)

pub levels-preserved : goal.levels-preserved
levels-preserved c = record {
  item_number = search rules;
  count = ap length c.in_ok-push.ensures.items ∙ length_push c.levels.levels.items _ ∙ ap (λ (k : ℕ). k + 1) c.levels.invariant.count;
  ranges = rw c.in_ok-push.ensures.items (All-push IsLevel _ _ c.levels.invariant.ranges c.in_ok-level.ensures.ranges);
  left = λ next.
      left_more c.levels.levels.items _ c.levels.items.item_number _ (items c.levels.items.rest.now) _ (c.args.count - (c.levels.i + 1)) (c.args.count - c.levels.i) _
      (omega (arith, c.levels-test.true)) c.in_ok-push.ensures.items c.in_ok-level.ensures.taken next
      ∙ c.levels.invariant.left next;
}

pub returns-clause-count : goal.returns-clause-count
returns-clause-count c = omega (arith, c.levels-test.false, c.levels.invariant.count)

pub returns-clause-ranges : goal.returns-clause-ranges
returns-clause-ranges c = c.levels.invariant.ranges

pub returns-clause-taken : goal.returns-clause-taken
returns-clause-taken c next =
    let none : c.args.count - c.levels.i ≡ 0 = omega (arith, c.levels-test.false) in
    sym (c.levels.invariant.left next)
    ∙ ap (λ (k : ℕ). levels_then k (λ levels. next (c.levels.levels.items ++ levels)) c.levels.items.item_number (items c.levels.items.rest.now)) none
    ∙ ap (λ (ls : List LevelParams). next ls c.levels.items.item_number (items c.levels.items.rest.now)) (append-nil c.levels.levels.items)

pub returns-clause-failed : goal.returns-clause-failed
returns-clause-failed c = tt
