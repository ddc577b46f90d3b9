use Rattle.std.proofs.Common.{◌≡◌, ◌≤◌, length, Some, sym, subst}
use Rattle.pg_types.specs.Inside.Placing.{cell_of}
use Rattle.pg_outputs.specs.Lists.{list_of}
use Rattle.pg_trie.specs.Inside.Lists.{outputs_at}
use Rattle.pg_trie.specs.Inside.Maps.{Maps}
use Rattle.pg_trie.proofs.TrieLaws.Listed.{list_is}
use Rattle.pg_trie.proofs.trie.PatternTrie.head.Goals as goal

pub returns-clause-list : goal.returns-clause-list
returns-clause-list c q at =
    subst (λ h. list_of c.args.self.now.records h ≡ outputs_at c.args.self.now.patterns c.args.self.now.hopeless q) (sym c.number.ensures)
    (
    let there = c.value.ensures q (subst (λ (m : Maps). cell_of m.families q ≡ Some c.args.cell) (sym c.self.view_is) at) in
    subst (λ (m : Maps). list_of m.records c.value.result ≡ outputs_at m.patterns m.hopeless q) c.self.view_is
    (list_is c.self.inside.cells c.self.inside.lists c.self.invariant q c.value.result there)
    )

pub returns-clause-inside : goal.returns-clause-inside
returns-clause-inside c =
    let at = subst (λ (m : Maps). cell_of m.families c.requires.0 ≡ Some c.args.cell) (sym c.self.view_is) c.requires.1 in
    subst (λ h. h ≤ length c.args.self.now.records) (sym c.number.ensures)
    (subst (λ (m : Maps). c.value.result ≤ length m.records) c.self.view_is
    (c.self.invariant.heads c.requires.0 c.value.result (c.value.ensures c.requires.0 at)).inside)
