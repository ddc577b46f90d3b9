use Rattle.std.proofs.Common.{arith}
use Rattle.pg_dots.proofs.Walks.{ahead_whole}
use Rattle.pg_dots.proofs.walk.Walk.start.Goals as goal

pub returns-clause-ahead : goal.returns-clause-ahead
returns-clause-ahead c = ahead_whole c.args.row.now 0 0 (omega (arith, c.type_inv.row 0)) (omega arith) (λ i behind before. absurd (omega arith))
