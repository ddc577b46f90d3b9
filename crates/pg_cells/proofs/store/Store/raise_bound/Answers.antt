use Rattle.std.proofs.Common.{◌≡◌, ◌<◌, ◌≤◌, ℕ, List, length, sym, subst, arith}
use Rattle.std.proofs.lemmas.List.{length-map}
use Rattle.pg_cells.specs.Inside.store.CellRows.{sign_seen, Row, row_of}
use Rattle.pg_cells.specs.Inside.store.Bounds.{IsBelowBounds, NoneFree}
use Rattle.pg_cells.specs.declared.store.cell.TheConstants.{SIGN_COUNT}
use Rattle.pg_cells.specs.declared.store.member.Member.{Member}
use Rattle.pg_cells.proofs.BoundLaws.{bounds_raise}
use Rattle.pg_cells.proofs.StoreSteps.{given_back}
use Rattle.pg_cells.proofs.store.Store.raise_bound.Goals as goal

pub raise-requires-clause-few : goal.raise-requires-clause-few
raise-requires-clause-few g c = subst (λ (lows : List ℕ). length lows ≤ SIGN_COUNT) (sym c.as_mut_slice-lows.ensures.value) c.self.invariant.few

pub raise-requires-clause-low : goal.raise-requires-clause-low
raise-requires-clause-low g c =
    let small = c.self.invariant.kept.small in
    let within : c.args.base < length (row_of c.self.inside.cells.items).signs = subst (λ (r : Row (Member g.row.V.Denot)). c.args.base < length r.signs) (sym c.self.view_is) c.requires.base in
    omega (arith, length-map c.self.inside.cells.items sign_seen)

pub invariant_of-self : goal.invariant_of-self
invariant_of-self g c =
    let size : length c.raise.new.lows ≡ c.self.inside.lows.len = omega arith in
    let same : length c.raise.new.lows ≡ length c.self.inside.lows.items = omega arith in
    rw (given_back c.raise.new.lows c.self.inside.lows.items c.self.inside.lows.len size)
    (record {
      kept = c.self.invariant.kept;
      sets = c.self.invariant.sets;
      few = let few = c.self.invariant.few in omega arith;
      bounds =
          bounds_raise (row_of c.self.inside.cells.items) c.self.inside.lows.items c.raise.new.lows c.self.inside.freed c.self.inside.dropped c.args.sign c.args.base _ _
          c.self.invariant.bounds c.raise.ensures.here
          (λ s b other lt. subst (λ lows. IsBelowBounds lows c.self.inside.freed c.self.inside.dropped s b) c.as_mut_slice-lows.ensures.value (c.raise.ensures.there s b other lt))
          (λ b up lt. subst (λ r. NoneFree r c.args.sign b) (sym c.self.view_is) (c.requires.none b up lt));
      blocked = c.self.invariant.blocked;
    })
