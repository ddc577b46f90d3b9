use Rattle.std.proofs.Common.{ℕ, ◌+◌, Bool, not, inl, inr, ap, arith}
use Rattle.std.proofs.lemmas.Bool.{cases_lt}
use Rattle.pg_cells.specs.Inside.store.BitSets.{has_index}
use Rattle.pg_cells.proofs.BlockSteps.{clear_bit, none_fits, fit_behind, found_in_block, not_not_false, not_not_true}
use Rattle.pg_cells.proofs.store.bit_set.BitSet.first_absent.Goals as goal

pub loop-has-init : goal.loop-has-init
loop-has-init c = record {
  small = omega arith;
  from = omega arith;
  upto = c.requires.from;
  before = λ k from lt. absurd (omega arith);
  bits = λ j lt. clear_bit c.from-has.result j (has_index c.args.self.now (c.args.index + j)) (c.from-has.ensures j lt);
}

pub loop-has-preserved : goal.loop-has-preserved
loop-has-preserved c =
    let fits : ℕ → Bool = λ k. not (has_index c.args.self.now k) in
    let inv = c.loop-has.invariant in
    record {
      small = omega arith;
      from = omega (arith, inv.from);
      upto = fit_behind fits c.loop-has.has c.loop-has.at c.args.bound c.loop-has-test.true inv.bits inv.upto (ap not c.requires.absent);
      before = λ k from lt. elim (cases_lt k c.loop-has.at) [
        | inl early ↦ inv.before k from early
        | inr late ↦ none_fits fits c.loop-has.has c.loop-has.at c.loop-has-test.true inv.bits k late lt
      ];
      bits = λ j lt. clear_bit c.from-has-in-loop-has.result j (has_index c.args.self.now (c.loop-has.at + 64 + j)) (c.from-has-in-loop-has.ensures j lt);
    }

pub overflow_add-at : goal.overflow_add-at
overflow_add-at c =
    let fits : ℕ → Bool = λ k. not (has_index c.args.self.now k) in
    let inv = c.loop-has.invariant in
    let near = fit_behind fits c.loop-has.has c.loop-has.at c.args.bound c.loop-has-test.true inv.bits inv.upto (ap not c.requires.absent) in
    record { fits = omega (arith, c.requires.small) }

pub returns : goal.returns
returns c =
    let fits : ℕ → Bool = λ k. not (has_index c.args.self.now k) in
    let inv = c.loop-has.invariant in
    let found = found_in_block fits c.args.index c.loop-has.at c.args.bound c.loop-has.has c.trailing_ones.result inv.from c.requires.from inv.before inv.bits (ap not c.requires.absent)
    (omega (arith, c.loop-has-test.false, inv.small)) c.trailing_ones.ensures in
    record {
      from = found.0.from;
      bound = found.1;
      absent = not_not_true (has_index c.args.self.now (c.loop-has.at + c.trailing_ones.result)) found.0.meets;
      before = λ i from lt. not_not_false (has_index c.args.self.now i) (found.0.first i from lt);
    }
