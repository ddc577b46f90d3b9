use Rattle.std.proofs.Common.{◌<◌, arith}
use Rattle.std.proofs.lemmas.List.Elements.{All-replicate}
use Rattle.pg_trie.specs.declared.lists.RaisedHead.{RaisedHead}
use Rattle.pg_trie.specs.Inside.RaisedHeads.{IsRaised}
use Rattle.pg_trie.proofs.lists.Lists.new.Goals as goal

pub invariant_of-result : goal.invariant_of-result
invariant_of-result c = All-replicate (λ (r : RaisedHead). 0 < r.value → IsRaised c.args.outputs r) 64 (record { value = 0; dot = 0; before = 0; after = 0 }) (λ some. absurd (omega arith))
