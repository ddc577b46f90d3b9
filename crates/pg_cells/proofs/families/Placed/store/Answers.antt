use Rattle.std.proofs.Common.{subst}
use Rattle.pg_cells.specs.Inside.linked.ValuedFamilies.{ValuedFamilies, trie_in}
use Rattle.pg_cells.specs.declared.store.member.Member.{Member}
use Rattle.pg_cells.specs.Inside.families.Layouts.{AreKept}
use Rattle.pg_cells.proofs.families.Placed.store.Goals as goal

pub returns : goal.returns
returns g c = subst (λ (h : ValuedFamilies (Member g.row.V.Denot)). AreKept h.signs c.self.inside.store (trie_in h)) c.self.view_is c.self.invariant
