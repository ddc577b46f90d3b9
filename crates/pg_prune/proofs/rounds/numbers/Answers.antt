use Rattle.std.proofs.Common.{◌∙◌, ◌∷◌, ◌++◌, [], ap, sym}
use Rattle.pg_prune.proofs.rounds.Picking.{range_more}
use Rattle.pg_prune.proofs.rounds.numbers.Goals as goal

pub numbers-preserved : goal.numbers-preserved
numbers-preserved c = c.in_ok-push.ensures.items ∙ ap (λ ns. ns ++ c.numbers.i ∷ []) c.numbers.invariant ∙ sym (range_more c.numbers.i)
