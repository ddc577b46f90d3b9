use Rattle.std.proofs.Common.{ℕ, ◌+◌, ◌≤◌, ◌∷◌, Bool, inl, inr, arith}
use Rattle.std.proofs.lemmas.Bool.{cases_lt}
use Rattle.pg_cells.specs.Inside.store.Fit.{slot_signs}
use Rattle.pg_cells.specs.Inside.store.SetFit.{fits_sets}
use Rattle.pg_cells.proofs.BlockSteps.{none_fits, fit_behind, found_in_block, free_sign_cell, passed_over}
use Rattle.pg_cells.proofs.store.blocks.find_in_blocks.Goals as goal

pub blocked_from-blocked-requires-in-loop-blocked : goal.blocked_from-blocked-requires-in-loop-blocked
blocked_from-blocked-requires-in-loop-blocked g c =
    let near : c.behind.result ≤ c.args.room + c.args.sign = c.behind.ensures.room in
    omega (arith, c.requires.small)

pub behind-requires-clause-later : goal.behind-requires-clause-later
behind-requires-clause-later g c =
    let fits : ℕ → Bool = fits_sets c.args.taken.now.cells c.args.bases.now (c.args.sign ∷ slot_signs c.args.slots.now) in
    let inv = c.loop-blocked.invariant in
    let behind = fit_behind fits c.loop-blocked.blocked c.loop-blocked.base c.args.room c.loop-blocked-test.true inv.bits inv.upto c.requires.room in
    omega arith

pub behind-requires-clause-free : goal.behind-requires-clause-free
behind-requires-clause-free g c = free_sign_cell c.args.taken.now.cells c.args.bases.now c.args.sign (slot_signs c.args.slots.now) c.args.room c.requires.room

pub loop-blocked-preserved : goal.loop-blocked-preserved
loop-blocked-preserved g c =
    let fits : ℕ → Bool = fits_sets c.args.taken.now.cells c.args.bases.now (c.args.sign ∷ slot_signs c.args.slots.now) in
    let inv = c.loop-blocked.invariant in
    let later = c.behind.ensures.later in
    let near = c.behind.ensures.room in
    record {
      small = c.blocked_from-blocked-in-loop-blocked.ensures.small;
      from = omega (arith, inv.from);
      upto = omega arith;
      before = λ k from lt. passed_over c.args.taken.now.cells c.args.bases.now c.args.sign (slot_signs c.args.slots.now) c.args.low c.loop-blocked.base c.behind.result k
          (λ i low less. elim (cases_lt i c.loop-blocked.base) [
            | inl early ↦ inv.before i low early
            | inr late ↦ none_fits fits c.loop-blocked.blocked c.loop-blocked.base c.loop-blocked-test.true inv.bits i late less
          ])
          c.behind.ensures.taken from lt;
      bits = c.blocked_from-blocked-in-loop-blocked.ensures.fits;
    }

pub returns-clause-least : goal.returns-clause-least
returns-clause-least g c =
    let fits : ℕ → Bool = fits_sets c.args.taken.now.cells c.args.bases.now (c.args.sign ∷ slot_signs c.args.slots.now) in
    let inv = c.loop-blocked.invariant in
    (found_in_block fits c.args.low c.loop-blocked.base c.args.room c.loop-blocked.blocked c.trailing_ones.result inv.from c.requires.low inv.before inv.bits c.requires.room
    (omega (arith, c.loop-blocked-test.false, inv.small)) c.trailing_ones.ensures).0

pub returns-clause-room : goal.returns-clause-room
returns-clause-room g c =
    let fits : ℕ → Bool = fits_sets c.args.taken.now.cells c.args.bases.now (c.args.sign ∷ slot_signs c.args.slots.now) in
    let inv = c.loop-blocked.invariant in
    (found_in_block fits c.args.low c.loop-blocked.base c.args.room c.loop-blocked.blocked c.trailing_ones.result inv.from c.requires.low inv.before inv.bits c.requires.room
    (omega (arith, c.loop-blocked-test.false, inv.small)) c.trailing_ones.ensures).1

pub loop-blocked-init : goal.loop-blocked-init
loop-blocked-init g c = record {
  small = c.blocked_from-blocked.ensures.small;
  from = omega arith;
  upto = c.requires.low;
  before = λ k from lt. absurd (omega arith);
  bits = c.blocked_from-blocked.ensures.fits;
}
