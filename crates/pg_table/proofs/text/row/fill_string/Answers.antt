use Rattle.std.proofs.Common.{◌≡◌, ◌<◌, ◌≤◌, ◌+◌, ℕ, List, [], ◌∷◌, ◌++◌, nat_eq, Bool, true, false, cond, length, take, get_or, None, Some, sym, refl, ap, subst, ◌∙◌, arith}
use Rattle.std.proofs.lemmas.Bool.{eqb-true}
use Rattle.std.proofs.lemmas.List.{take_more}
use Rattle.pg_types.specs.Placement.{top}
use Rattle.pg_types.specs.Inside.Placing.{cell_of}
use Rattle.pg_table.specs.declared.parts.cell.Cell.{Cell}
use Rattle.pg_table.proofs.text.TableCells.{cell_within, base_within}
use Rattle.pg_table.proofs.text.Filling.{cell_told, fills_none, fills_more, fills_rest}
use Rattle.pg_table.specs.Inside.text.Rows.{Fills}
use Rattle.pg_table.proofs.text.row.fill_string.Goals as goal

pub loop-s-init : goal.loop-s-init
loop-s-init c = record { at = refl; fills = λ heads has row. fills_none c.args.cells.now c.requires.held heads has c.args.signs.now c.args.row.now row }

pub step-requires : goal.step-requires
step-requires c =
    record { at = (take c.loop-s.s-index c.args.signs.now, c.loop-s.invariant.at); sign = c.requires.signs c.loop-s.s-index 0 c.loop-s-test.true }

pub returns : goal.returns
returns c heads has row =
    let end : c.loop-s.s-index ≡ length c.args.signs.now = omega arith in
    subst (λ (n : ℕ). Fills c.args.cells.now heads c.args.signs.now n c.args.row.now c.loop-s.row) end (c.loop-s.invariant.fills heads has row)

pub overflow_cast-row-in-loop-s : goal.overflow_cast-row-in-loop-s
overflow_cast-row-in-loop-s c =
    let q : List ℕ = take c.loop-s.s-index c.args.signs.now ++ get_or c.args.signs.now c.loop-s.s-index 0 ∷ [] in
    omega (arith, c.requires.values q c.value.result (c.value.ensures q (sym (c.in-Some.ensures.cell (take c.loop-s.s-index c.args.signs.now) c.loop-s.invariant.at))))

pub returns-in_default : goal.returns-in_default
returns-in_default c heads has row =
    let h = c.args.cells.now in
    let w = c.args.signs.now in
    let i = c.loop-s.s-index in
    let front : take (i + 1) w ≡ take i w ++ get_or w i 0 ∷ [] = take_more w i 0 c.loop-s-test.true in
    fills_rest h c.requires.held heads has w i (take i w) (get_or w i 0) c.args.row.now c.loop-s.row (c.loop-s.invariant.fills heads has row) front
    (sym (c.in_default.ensures.cell (take i w) c.loop-s.invariant.at)) (length w)

pub overflow_cast-row : goal.overflow_cast-row
overflow_cast-row c =
    let h = c.args.cells.now in
    let w = c.args.signs.now in
    let i = c.loop-s.s-index in
    let q : List ℕ = take i w ++ get_or w i 0 ∷ [] in
    let cell : cell_of h.families q ≡ Some c.in-Some.cell = sym (c.in-Some.ensures.cell (take i w) c.loop-s.invariant.at) in
    let below : (t : Bool) → nat_eq c.child.result 0 ≡ t → c.child.result ≤ top h.families = λ t. elim t as (λ t. nat_eq c.child.result 0 ≡ t → c.child.result ≤ top h.families) [
      | true ↦ λ e. omega (arith, eqb-true c.child.result 0 e)
      | false ↦ λ e. omega (arith, base_within h c.requires.held q c.child.result (c.child.ensures.base q cell ∙ ap (λ t. cond t None (Some c.child.result)) e))
    ] in
    omega (arith, below (nat_eq c.child.result 0) refl, c.requires.cells)

pub offset_bounds-row-cell : goal.offset_bounds-row-cell
offset_bounds-row-cell c =
    let h = c.args.cells.now in
    let w = c.args.signs.now in
    let q : List ℕ = take c.loop-s.s-index w ++ get_or w c.loop-s.s-index 0 ∷ [] in
    omega (arith, cell_within h c.requires.held q c.in-Some.cell (sym (c.in-Some.ensures.cell (take c.loop-s.s-index w) c.loop-s.invariant.at)), c.requires.cells)

pub bounds-row-cell : goal.bounds-row-cell
bounds-row-cell c =
    let h = c.args.cells.now in
    let w = c.args.signs.now in
    let q : List ℕ = take c.loop-s.s-index w ++ get_or w c.loop-s.s-index 0 ∷ [] in
    omega (arith, cell_within h c.requires.held q c.in-Some.cell (sym (c.in-Some.ensures.cell (take c.loop-s.s-index w) c.loop-s.invariant.at)), c.loop-s.auto.row, c.requires.size)

pub loop-s-preserved : goal.loop-s-preserved
loop-s-preserved c =
    let h = c.args.cells.now in
    let w = c.args.signs.now in
    let i = c.loop-s.s-index in
    let s : ℕ = get_or w i 0 in
    let q : List ℕ = take i w ++ s ∷ [] in
    let front : take (i + 1) w ≡ q = take_more w i 0 c.loop-s-test.true in
    let cell : cell_of h.families q ≡ Some c.in-Some.cell = sym (c.in-Some.ensures.cell (take i w) c.loop-s.invariant.at) in
    let inside : c.in-Some.cell < length c.loop-s.row = omega (arith, cell_within h c.requires.held q c.in-Some.cell cell, c.loop-s.auto.row, c.requires.size) in
    let x : Cell = record { sign = s; child = c.child.result; head = c.value.result } in
    record {
      at = ap (cell_of h.families) front ∙ cell;
      fills = λ heads has row.
          fills_more h c.requires.held heads has w i c.in-Some.cell x c.args.row.now c.loop-s.row (c.loop-s.invariant.fills heads has row) inside
          (cell_told h c.requires.held heads has (take i w) s c.in-Some.cell c.child.result c.value.result cell (c.child.ensures.base q cell) (c.value.ensures q cell))
          (ap (cell_of h.families) front ∙ cell);
    }
