use Rattle.std.proofs.Common.{◌≡◌, ◌<◌, ◌+◌, ℕ, length, false, inl, inr, sym, ap, subst, ◌∙◌, arith}
use Rattle.std.proofs.lemmas.Bool.{cases_lt}
use Rattle.pg_types.specs.Inside.Bits.{has_bit}
use Rattle.pg_dots.specs.Inside.Dots.{is_closed}
use Rattle.pg_dots.proofs.open_dots.OpenDots.set_starts.Goals as goal

pub dots-preserved : goal.dots-preserved
dots-preserved c =
    let o = c.args.self.now in
    let inv = c.dots.invariant in
    record {
      room = c.take_in.ensures.room ∙ inv.room;
      free = λ d i low inside within free. elim (cases_lt d c.dots.dot) [
        | inl before ↦ c.take_in.ensures.old i (inv.free d i before inside within free)
        | inr here ↦ (let same : d ≡ c.dots.dot = omega (arith, low, here) in
            c.take_in.ensures.row i (omega (arith, inside, inv.room))
            (ap (λ k. has_bit c.row.result.now (i + k)) c.from.ensures
            ∙ ap (λ k. has_bit c.row.result.now (i + k)) (sym same)
            ∙ c.row.ensures.bits (i + d) within ∙ ap (λ k. is_closed o k (i + d)) (sym same) ∙ free))
      ];
    }

pub returns-clause-free : goal.returns-clause-free
returns-clause-free c = λ d i upto inside within free.
    c.dots.invariant.free d i (omega (arith, upto, c.dots-test.false, c.dots.auto.dot-end)) inside within free
