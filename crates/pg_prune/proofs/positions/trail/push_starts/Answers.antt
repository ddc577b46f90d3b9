use Rattle.std.proofs.Common.{◌++◌, ◌∷◌, [], ap, ◌∙◌}
use Rattle.pg_prune.specs.Inside.positions.Trails.{start_at}
use Rattle.pg_prune.proofs.positions.TrailStarts.{start_more}
use Rattle.pg_prune.proofs.positions.trail.push_starts.Goals as goal

pub signs-preserved : goal.signs-preserved
signs-preserved c =
    c.in_ok-push.ensures.items
    ∙ ap (λ xs. xs ++ start_at c.args.word c.args.before c.signs.at ∷ []) c.signs.invariant
    ∙ start_more c.args.starts.now.items c.args.word c.args.before c.signs.at
