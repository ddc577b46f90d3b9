use Rattle.std.proofs.Common.{[], ◌∙◌, ap}
use Rattle.pg_count.specs.Inside.Counting.{Counting}
use Rattle.pg_count.proofs.Beginning.{begun, begun_kept}
use Rattle.pg_count.proofs.counts.CountTrie.begin.Goals as goal

pub invariant_of-self : goal.invariant_of-self
invariant_of-self c = begun_kept c.reset.new.self c.self.inside.cells.signs c.args.len c.reset.ensures.held c.reset.ensures.kept c.requires.0 c.requires.1

pub returns : goal.returns
returns c =
    begun c.reset.new.self c.self.inside.cells.signs c.args.len c.reset.ensures.held
    ∙ ap (λ (d : Counting). record { signs = d.signs; len = c.args.len; counts = [] }) c.self.view_is
