use Rattle.std.proofs.Common.{◌≡◌, ◌≤◌, ◌∙◌, ap, sym, subst, length, map, arith}
use Rattle.std.proofs.lemmas.List.{length-map}
use Rattle.pg_cells.specs.declared.store.member.Member.{Member}
use Rattle.pg_cells.specs.Inside.store.CellRows.{sign_seen, Row, row_of}
use Rattle.pg_cells.specs.Inside.store.Store.{AreFreeTo}
use Rattle.pg_cells.proofs.AllFree.{cut_long, free_store, free_root}
use Rattle.pg_cells.proofs.RowWrites.{is_row}
use Rattle.pg_cells.proofs.StoreSteps.{given_back}
use Rattle.pg_cells.proofs.store.Store.clear.Goals as goal

pub invariant_of-self : goal.invariant_of-self
invariant_of-self g c =
    let within : c.args.least ≤ length (map sign_seen c.self.inside.cells.items) =
    subst (λ (r : Row (Member g.row.V.Denot)). c.args.least ≤ length r.signs) (sym c.self.view_is) c.requires.within in
    let long =
    cut_long c.self.inside.cells.items c.shrink_to.new.self.items c.max-count.result c.args.least (omega arith)
    (omega (arith, length-map c.self.inside.cells.items sign_seen)) (c.shrink_to.ensures.items ∙ c.truncate.ensures.items) in
    let seen : length c.as_mut_slice.result.now ≡ length c.shrink_to.new.self.items = ap length c.as_mut_slice.ensures.value in
    let size : length c.free_all.new.cells ≡ c.shrink_to.new.self.len = omega arith in
    let back = given_back c.free_all.new.cells c.shrink_to.new.self.items c.shrink_to.new.self.len size in
    let same = c.free_all.ensures.size in
    let free = subst (λ k. AreFreeTo k (row_of c.free_all.new.cells)) (sym same) c.free_all.ensures.free in
    let small = c.self.invariant.kept.small in
    let room = c.self.invariant.sets.cell_room in
    let base_room = c.self.invariant.sets.base_room in
    rw back (free_store c.free_all.new.cells free c.clear.new.self.cells c.clear-2.new.self
    c.self.inside.lows.items c.self.inside.dropped c.self.inside.sought c.self.invariant.few (omega arith) (omega arith)
    (omega (arith, c.clear.ensures.room, length-map c.self.inside.cells.items sign_seen)) (omega (arith, c.clear-2.ensures.room, length-map c.self.inside.cells.items sign_seen))
    c.clear.ensures.none c.clear-2.ensures.none)

pub returns : goal.returns
returns g c =
    let within : c.args.least ≤ length (map sign_seen c.self.inside.cells.items) =
    subst (λ (r : Row (Member g.row.V.Denot)). c.args.least ≤ length r.signs) (sym c.self.view_is) c.requires.within in
    let long =
    cut_long c.self.inside.cells.items c.shrink_to.new.self.items c.max-count.result c.args.least (omega arith)
    (omega (arith, length-map c.self.inside.cells.items sign_seen)) (c.shrink_to.ensures.items ∙ c.truncate.ensures.items) in
    let seen : length c.as_mut_slice.result.now ≡ length c.shrink_to.new.self.items = ap length c.as_mut_slice.ensures.value in
    let size : length c.free_all.new.cells ≡ c.shrink_to.new.self.len = omega arith in
    let back = given_back c.free_all.new.cells c.shrink_to.new.self.items c.shrink_to.new.self.len size in
    let same = c.free_all.ensures.size in
    let free = subst (λ k. AreFreeTo k (row_of c.free_all.new.cells)) (sym same) c.free_all.ensures.free in
    let small = c.self.invariant.kept.small in
    let signs = length-map c.free_all.new.cells sign_seen in
    rw back (record {
      empty = λ blank. free_root c.free_all.new.cells free blank (omega arith);
      least = omega arith;
      row = is_row c.free_all.new.cells (omega arith);
    })

pub overflow_add-self-inside : goal.overflow_add-self-inside
overflow_add-self-inside g c =
    let within = c.self.invariant.kept.greatest.within in
    let small = c.self.invariant.kept.small in
    record { fits = omega (arith, length-map c.self.inside.cells.items sign_seen) }
