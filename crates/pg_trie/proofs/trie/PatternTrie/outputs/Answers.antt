use Rattle.std.proofs.Common.{ap, subst, ◌∙◌}
use Rattle.pg_trie.specs.Inside.Maps.{AreMaps, Maps}
use Rattle.pg_trie.proofs.TrieLaws.Kept.{are_kept}
use Rattle.pg_trie.proofs.trie.PatternTrie.outputs.Goals as goal

pub returns-clause-kept : goal.returns-clause-kept
returns-clause-kept c = subst AreMaps c.self.view_is (are_kept c.self.inside.cells c.self.inside.lists c.self.invariant)

pub returns-clause-records : goal.returns-clause-records
returns-clause-records c = c.outputs.ensures ∙ ap (λ (m : Maps). m.records) c.self.view_is
