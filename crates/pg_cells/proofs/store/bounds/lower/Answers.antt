use Rattle.std.proofs.Common.{◌<◌, inl, inr, length, ◌∙◌, arith}
use Rattle.std.proofs.lemmas.List.{get_or-set_other, get_or_past}
use Rattle.std.proofs.lemmas.Bool.{cases_lt}
use Rattle.pg_cells.proofs.BoundLaws.{lower_below}
use Rattle.pg_cells.proofs.store.bounds.lower.Goals as goal

pub loop-sign-preserved : goal.loop-sign-preserved
loop-sign-preserved c =
    let cell = c.min-cell.ensures in
    let base = c.min-base.ensures in
    let low = c.min.ensures in
    let sub = c.saturating_sub.ensures in
    let least = c.min-in-loop-sign.ensures in
    let within : c.loop-sign.sign < length c.loop-sign.lows = omega arith in
    record {
      below = lower_below c.loop-sign.lows c.args.lows.now c.args.freed c.args.dropped c.loop-sign.sign c.min-in-loop-sign.result within (omega arith)
          (omega arith) (omega arith) c.loop-sign.invariant.below c.loop-sign.invariant.above;
      above = λ s le. get_or-set_other c.loop-sign.lows c.loop-sign.sign s c.min-in-loop-sign.result 0 (omega arith) ∙ c.loop-sign.invariant.above s (omega arith);
    }

pub returns : goal.returns
returns c s b lt = elim (cases_lt s c.loop-sign.sign) [
  | inl below ↦ c.loop-sign.invariant.below s b below lt
  | inr past ↦ absurd (let none = get_or_past c.loop-sign.lows s 0 (omega arith) in omega arith)
]
