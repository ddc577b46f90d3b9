use Rattle.std.proofs.Common.{◌∙◌, ◌∷◌, ◌++◌, [], ap, sym}
use Rattle.std.specs.Prelude.{replicate}
use Rattle.pg_prune.proofs.rounds.HolderSteps.{replicate_more}
use Rattle.pg_prune.proofs.rounds.no_holders.Goals as goal

pub positions-preserved : goal.positions-preserved
positions-preserved c =
    c.in_ok-push.ensures.items ∙ ap (λ h. c.positions.holders.items ++ h ∷ []) c.none.ensures ∙ ap (λ hs. hs ++ replicate 9 0 ∷ []) c.positions.invariant
    ∙ sym (replicate_more c.positions.counter (replicate 9 0))

pub positions-init : goal.positions-init
positions-init c = c.new-holders.ensures.items
