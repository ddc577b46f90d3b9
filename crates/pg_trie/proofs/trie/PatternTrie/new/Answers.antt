use Rattle.std.proofs.Common.{ap, ◌∙◌}
use Rattle.pg_cells.specs.Inside.families.Root.{root_alone}
use Rattle.pg_trie.proofs.TrieLaws.Rooted.{root_trie, root_view}
use Rattle.pg_trie.proofs.trie.PatternTrie.new.Goals as goal

pub invariant_of-result : goal.invariant_of-result
invariant_of-result c = root_trie c.args.signs c.in_ok-new.field-0 c.new-3.result c.requires.1 (c.in_ok-new.ensures.held ∙ ap (λ b. root_alone c.args.signs b) c.none.ensures) c.in_ok-new.ensures.kept

pub returns : goal.returns
returns c = root_view c.args.signs c.in_ok-new.field-0 c.new-3.result (c.in_ok-new.ensures.held ∙ ap (λ b. root_alone c.args.signs b) c.none.ensures) (c.new-3.ensures ∙ c.new-2.ensures.empty)
