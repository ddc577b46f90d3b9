use Rattle.std.proofs.Common.{sym, ap, ◌∙◌}
use Rattle.std.specs.FinMap.Entries.{find}
use Rattle.pg_cells.proofs.StringMaps.{order}
use Rattle.pg_count.specs.Inside.Counting.{Counting}
use Rattle.pg_count.proofs.Counted.{find-counts_in}
use Rattle.pg_count.proofs.counts.CountTrie.sums.Goals as goal

pub returns : goal.returns
returns c =
    c.sums_in.ensures
    ∙ sym (find-counts_in c.self.inside.cells.values c.self.invariant.held.ordered c.args.window.now)
    ∙ ap (λ (x : Counting). find order c.args.window.now x.counts) c.self.view_is
