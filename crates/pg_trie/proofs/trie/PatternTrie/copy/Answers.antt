use Rattle.std.proofs.Common.{ap, sym, subst, ◌∙◌}
use Rattle.pg_trie.specs.Inside.IsPatternTrie.{IsPatternTrie}
use Rattle.pg_trie.specs.Inside.Maps.{Maps, maps_of}
use Rattle.pg_trie.proofs.trie.PatternTrie.copy.Goals as goal

pub returns : goal.returns
returns c = c.from_entries.ensures.value ∙ c.in_ok-entries.ensures.joined ∙ ap (λ r. (maps_of c.self.inside.cells r).patterns) c.outputs.ensures ∙ ap (λ (m : Maps). m.patterns) c.self.view_is

pub entries-requires : goal.entries-requires
entries-requires c = subst (IsPatternTrie c.self.inside.cells) (sym c.outputs.ensures) c.self.invariant
