use Rattle.std.proofs.Common.{arith, w64}
use Rattle.std.proofs.lemmas.Nat.Bits.{bit_at-trailing_zeros}
use Rattle.pg_types.proofs.bits.lowest_set.Goals as goal

pub returns-clause-within : goal.returns-clause-within
returns-clause-within c = omega (arith, (bit_at-trailing_zeros w64 c.args.number c.requires (omega (arith, c.ranges.number))).0)

pub returns-clause-set : goal.returns-clause-set
returns-clause-set c = (bit_at-trailing_zeros w64 c.args.number c.requires (omega (arith, c.ranges.number))).1

pub returns-clause-before : goal.returns-clause-before
returns-clause-before c = λ i early. (bit_at-trailing_zeros w64 c.args.number c.requires (omega (arith, c.ranges.number))).2 i early
