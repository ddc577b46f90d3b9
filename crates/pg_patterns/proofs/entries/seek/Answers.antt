use Rattle.std.proofs.Common.{arith, rules}
use Rattle.std.proofs.lemmas.List.Sorted.{IsPartitionPoint-from_clause}
use Rattle.pg_patterns.specs.Inside.Search.{is_after}
use Rattle.pg_patterns.proofs.Raises.{parted}
use Rattle.pg_patterns.proofs.entries.seek.Goals as goal

pub returns-then-comes_last-clause-point : goal.returns-then-comes_last-clause-point
returns-then-comes_last-clause-point c = (λ k d low inside. c.if-comes_last.ensures k d inside, λ k d low inside. absurd (omega arith))

pub returns-clause-point : goal.returns-clause-point
returns-clause-point c =
    IsPartitionPoint-from_clause (is_after c.args.dotted.now) c.args.entries.now c.partition_point.result c.partition_point.ensures.partitioned (parted _ _ c.requires) (λ a r f' t. search rules)
