use Rattle.std.proofs.Common.{inl, inr, ap, ◌∙◌, arith}
use Rattle.std.proofs.lemmas.Bool.{cases_eq}
use Rattle.pg_cells.specs.Inside.store.CellRows.{row_of, sign_at}
use Rattle.pg_cells.proofs.store.taken_up_to.Goals as goal

pub loop-at-init : goal.loop-at-init
loop-at-init g c = record { below = omega arith; most = λ k le up. le }

pub overflow_sub-at : goal.overflow_sub-at
overflow_sub-at g c = omega arith

pub loop-at-smaller : goal.loop-at-smaller
loop-at-smaller g c = omega arith

pub is_taken-requires : goal.is_taken-requires
is_taken-requires g c = let below = c.loop-at.invariant.below in omega arith

pub loop-at-preserved : goal.loop-at-preserved
loop-at-preserved g c =
    let below = c.loop-at.invariant.below in
    record {
      below = omega arith;
      most = λ k le up.
          let near = c.loop-at.invariant.most k le up in
          elim (cases_eq k c.loop-at.at) [
            | inl e ↦ absurd (up (ap (sign_at (row_of c.args.cells.now)) e ∙ c.is_taken.ensures.free c.if-not-is_taken.true))
            | inr other ↦ omega arith
          ];
    }

pub returns-after-loop-at : goal.returns-after-loop-at
returns-after-loop-at g c = record { below = c.loop-at.invariant.below; used = λ up. absurd (omega arith); most = c.loop-at.invariant.most }

pub returns-else-not-is_taken : goal.returns-else-not-is_taken
returns-else-not-is_taken g c = record { below = c.loop-at.invariant.below; used = λ up. c.is_taken.ensures.taken c.if-not-is_taken.false; most = c.loop-at.invariant.most }
