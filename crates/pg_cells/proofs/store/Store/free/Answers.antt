use Rattle.std.proofs.Common.{◌≡◌, ◌≢◌, ◌<◌, ◌≤◌, ℕ, List, sym, ap, subst, ◌∙◌, length, arith, take, drop, ◌++◌}
use Rattle.std.proofs.lemmas.List.{length-map}
use Rattle.pg_cells.specs.declared.store.cell.Cell.{Cell}
use Rattle.pg_cells.specs.declared.store.member.Member.{Member}
use Rattle.pg_cells.specs.Inside.store.CellRows.{sign_seen, Row, row_of, sign_at, with_free}
use Rattle.pg_cells.proofs.RowCells.{taken_within, signs_long}
use Rattle.pg_cells.specs.Inside.store.Store.{IsRow}
use Rattle.pg_cells.specs.Inside.store.Writes.{Frees}
use Rattle.pg_cells.proofs.RowWrites.{is_row, row_frees}
use Rattle.pg_cells.proofs.BlockedLaws.{blocked_none}
use Rattle.pg_cells.proofs.BoundLaws.{bounds_free}
use Rattle.pg_cells.proofs.SetLaws.{sets_free}
use Rattle.pg_cells.proofs.StoreSteps.{given_back, kept_freed, some_taken}
use Rattle.pg_cells.proofs.store.Store.free.Goals as goal

pub set_free-requires : goal.set_free-requires
set_free-requires g c =
    let taken : sign_at (row_of c.self.inside.cells.items) c.args.cell ≢ 0 = subst (λ (r : Row (Member g.row.V.Denot)). sign_at r c.args.cell ≢ 0) (sym c.self.view_is) c.requires.taken in
    let within = subst (λ n. c.args.cell < n) (signs_long c.self.inside.cells.items) (taken_within (row_of c.self.inside.cells.items) c.args.cell taken) in
    subst (λ (cells : List (Cell g.row.V.Denot)). c.args.cell < length cells) (sym c.as_mut_slice.ensures.value) within

pub remove-requires : goal.remove-requires
remove-requires g c =
    let taken : sign_at (row_of c.self.inside.cells.items) c.args.cell ≢ 0 = λ z. c.requires.taken (subst (λ r. sign_at r c.args.cell ≡ 0) c.self.view_is z) in
    let room = c.self.invariant.sets.cell_room in
    omega (arith, taken_within (row_of c.self.inside.cells.items) c.args.cell taken)

pub invariant_of-self : goal.invariant_of-self
invariant_of-self g c =
    let size : length c.set_free.new.cells ≡ c.self.inside.cells.len = omega arith in
    let same : length c.set_free.new.cells ≡ length c.self.inside.cells.items = omega arith in
    let back = given_back c.set_free.new.cells c.self.inside.cells.items c.self.inside.cells.len size in
    let seen : c.as_slice.result.now ≡ c.set_free.new.cells = c.as_slice.ensures.value ∙ back in
    let taken : sign_at (row_of c.self.inside.cells.items) c.args.cell ≢ 0 = λ z. c.requires.taken (subst (λ r. sign_at r c.args.cell ≡ 0) c.self.view_is z) in
    let within : c.args.cell < length c.self.inside.cells.items = omega (
      arith,
      taken_within (row_of c.self.inside.cells.items) c.args.cell taken,
      length-map c.self.inside.cells.items sign_seen,
    ) in
    let frees : Frees (row_of c.self.inside.cells.items) (row_of c.set_free.new.cells) c.args.cell =
    subst (λ r. Frees (row_of c.self.inside.cells.items) r c.args.cell) (sym (c.set_free.ensures ∙ ap (λ cells. with_free (row_of cells) c.args.cell) c.as_mut_slice.ensures.value))
    (row_frees c.self.inside.cells.items c.args.cell taken) in
    let r = c.taken_up_to-self-inside.result in
    let top = c.taken_up_to-self-inside.ensures in
    rw back
    (record {
      kept = kept_freed c.self.inside.cells.items c.set_free.new.cells _ _ c.self.invariant.kept same c.args.cell r within taken
          (c.set_free.ensures ∙ ap (λ cells. with_free (row_of cells) c.args.cell) c.as_mut_slice.ensures.value)
          top.below (subst (λ cells. 0 < r → sign_at (row_of cells) r ≢ 0) seen top.used)
          (subst (λ cells. (k : ℕ) → k ≤ c.self.inside.top → sign_at (row_of cells) k ≢ 0 → k ≤ r) seen top.most);
      sets = sets_free (row_of c.self.inside.cells.items) c.self.inside.taken_set.cells c.self.inside.bases c.self.invariant.sets (row_of c.set_free.new.cells)
          c.args.cell c.remove.new.self.cells frees c.remove.ensures.room c.remove.ensures.has;
      few = c.self.invariant.few;
      bounds = bounds_free (row_of c.self.inside.cells.items) (row_of c.set_free.new.cells) c.self.inside.lows.items c.self.inside.freed c.self.inside.dropped c.self.invariant.bounds c.args.cell _
          (omega arith) (omega arith)
          frees;
      blocked = blocked_none (row_of c.set_free.new.cells) 0 c.self.inside.sought (omega arith);
    })

pub overflow_sub-self : goal.overflow_sub-self
overflow_sub-self g c =
    some_taken c.self.inside.cells.items c.self.inside.top c.self.inside.taken c.args.cell c.self.invariant.kept
    (λ z. c.requires.taken (subst (λ r. sign_at r c.args.cell ≡ 0) c.self.view_is z))

pub returns-clause-frees : goal.returns-clause-frees
returns-clause-frees g c =
    let size : length c.set_free.new.cells ≡ c.self.inside.cells.len = omega arith in
    let left : row_of (take c.self.inside.cells.len (c.set_free.new.cells ++ drop (length c.set_free.new.cells) c.self.inside.cells.items))
    ≡ with_free (row_of c.self.inside.cells.items) c.args.cell =
    ap row_of (given_back c.set_free.new.cells c.self.inside.cells.items c.self.inside.cells.len size) ∙ c.set_free.ensures
    ∙ ap (λ cells. with_free (row_of cells) c.args.cell) c.as_mut_slice.ensures.value in
    subst (λ r. Frees r (row_of (take c.self.inside.cells.len (c.set_free.new.cells ++ drop (length c.set_free.new.cells) c.self.inside.cells.items))) c.args.cell) c.self.view_is
    (subst (λ r. Frees (row_of c.self.inside.cells.items) r c.args.cell) (sym left)
    (row_frees c.self.inside.cells.items c.args.cell (λ z. c.requires.taken (subst (λ r. sign_at r c.args.cell ≡ 0) c.self.view_is z))))

pub returns-clause-row : goal.returns-clause-row
returns-clause-row g c =
    let size : length c.set_free.new.cells ≡ c.self.inside.cells.len = omega arith in
    let same : length c.set_free.new.cells ≡ length c.self.inside.cells.items = omega arith in
    let small = c.self.invariant.kept.small in
    subst (λ (cells : List (Cell g.row.V.Denot)). IsRow (row_of cells)) (sym (given_back c.set_free.new.cells c.self.inside.cells.items c.self.inside.cells.len size))
    (is_row c.set_free.new.cells (omega arith))

pub taken_up_to-self-inside-requires : goal.taken_up_to-self-inside-requires
taken_up_to-self-inside-requires g c =
    let size : length c.set_free.new.cells ≡ c.self.inside.cells.len = omega arith in
    let same : length c.set_free.new.cells ≡ length c.self.inside.cells.items = omega arith in
    let seen : c.as_slice.result.now ≡ c.set_free.new.cells = c.as_slice.ensures.value ∙ given_back c.set_free.new.cells c.self.inside.cells.items c.self.inside.cells.len size in
    let top = c.self.invariant.kept.greatest.within in
    omega (arith, ap length seen, length-map c.self.inside.cells.items sign_seen)
