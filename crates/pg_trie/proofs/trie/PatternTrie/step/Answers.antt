use Rattle.std.proofs.Common.{◌≡◌, [], ◌∷◌, ◌++◌, sym, subst}
use Rattle.pg_cells.specs.Inside.linked.Walks.{IsAt}
use Rattle.pg_trie.specs.Inside.Lists.{outputs_at}
use Rattle.pg_trie.specs.Inside.Maps.{Maps}
use Rattle.pg_trie.proofs.TrieLaws.Listed.{none_is}
use Rattle.pg_trie.proofs.trie.PatternTrie.step.Goals as goal

pub returns-clause-none : goal.returns-clause-none
returns-clause-none c q at none more =
    let ends = c.step.ensures.none q (subst (λ (m : Maps). IsAt m.families c.args.at q) (sym c.self.view_is) at) none more in
    subst (λ (m : Maps). outputs_at m.patterns m.hopeless ((q ++ c.args.s ∷ []) ++ more) ≡ []) c.self.view_is
    (none_is c.self.inside.cells c.self.inside.lists c.self.invariant ((q ++ c.args.s ∷ []) ++ more) ends)
