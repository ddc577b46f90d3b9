use Rattle.std.proofs.Common.{subst, rules}
use Rattle.pg_outputs.specs.Inside.Heads.{OneHeadEach}
use Rattle.pg_outputs.specs.Inside.Records.{AreShared}
use Rattle.pg_outputs.proofs.ListLaws.{one_head_each}
use Rattle.pg_outputs.proofs.lists.Outputs.len.Goals as goal

pub returns-clause-len : goal.returns-clause-len
returns-clause-len c = search rules

pub returns-clause-one_head : goal.returns-clause-one_head
returns-clause-one_head c = subst OneHeadEach c.self.view_is (one_head_each _ c.self.invariant)

pub returns-clause-shared : goal.returns-clause-shared
returns-clause-shared c = subst AreShared c.self.view_is c.self.invariant
