use Rattle.std.proofs.Common.{arith, ◌∙◌, sym}
use Rattle.pg_starts.proofs.Families.{number_below}
use Rattle.pg_starts.proofs.cells.family_end.Goals as goal

pub returns-then-keys-k : goal.returns-then-keys-k
returns-then-keys-k c = record {
  some = omega arith;
  within = omega arith;
  same = c.loop-k.invariant.same;
  ends = λ h. number_below c.args.keys.now c.requires.rising c.args.from c.loop-k.k (omega arith) h (λ e. c.if-keys-k.true (e ∙ sym c.loop-k.invariant.number));
}
