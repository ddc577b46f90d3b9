use Rattle.std.proofs.Common.{[], ◌∷◌, ◌++◌, sym, ◌∙◌, subst}
use Rattle.pg_count.specs.Inside.Least.{LeastAt}
use Rattle.pg_count.proofs.Searching.{none_passes, none_counted, least_last, one_is}
use Rattle.pg_count.proofs.least.last_at.Goals as goal

pub returns-then-not-passes : goal.returns-then-not-passes
returns-then-not-passes c = λ p at. none_passes c.args.cells.now.values p c.args.floor.now c.args.s (sym c.passes.ensures ∙ c.if-not-passes.true)

pub returns-in_err-sums : goal.returns-in_err-sums
returns-in_err-sums c = λ p at. rw c.from_residual.ensures (none_counted c.args.cells.now.values p c.args.floor.now c.args.s (c.in_err-sums.ensures (p ++ c.args.s ∷ []) at))

pub returns : goal.returns
returns c = λ p at.
    subst (λ path. LeastAt c.args.cells.now.values p c.args.floor.now c.args.s path c.in_ok-sums.sums) (sym (one_is c.args.path.now c.args.s c.requires.one))
    (least_last c.args.cells.now.values p c.args.floor.now c.args.s c.in_ok-sums.sums c.requires.sign (sym c.passes.ensures ∙ c.if-not-passes.false)
    (c.in_ok-sums.ensures (p ++ c.args.s ∷ []) at))
