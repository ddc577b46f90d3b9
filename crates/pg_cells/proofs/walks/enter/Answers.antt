use Rattle.std.proofs.lemmas.List.{take_all}
use Rattle.std.proofs.Common.{◌+◌, ◌<◌, [], ◌∷◌, ◌++◌, length, take, get_or, ap, ◌∙◌, arith, ◌≡◌, ◌≤◌, Some, sym, subst}
use Rattle.std.proofs.lemmas.Result.{err_from_is_err_and}
use Rattle.pg_types.specs.Inside.PlacementSteps.{enter_by}
use Rattle.pg_types.specs.Inside.Placing.{cell_of}
use Rattle.pg_cells.specs.Inside.linked.ValuedFamilies.{ValuedFamilies}
use Rattle.pg_cells.specs.Inside.linked.Walks.{EndsBefore, Steps, AddsBlanks}
use Rattle.pg_types.proofs.PlacementLaws.{enter_is}
use Rattle.pg_cells.proofs.Walking.{way_more, enter_more, front_more, more_added, step_values, step_signs, still_none, not_reached}
use Rattle.pg_cells.proofs.walks.enter.Goals as goal

pub loop-k-preserved : goal.loop-k-preserved
loop-k-preserved g c =
    let k = c.loop-k.k in
    let w = c.args.signs.now in
    let lt : k < length w = c.loop-k-test.true in
    let up = c.loop-k.invariant.up in
    let steps : Steps c.loop-k.cells c.step_or_add.new.cells (take k w) (get_or w k 0) c.args.blank = c.in_ok-cell.ensures.steps (take k w) c.loop-k.invariant.at in
    record {
      up = omega arith;
      at = ap (cell_of c.step_or_add.new.cells.families) (way_more w k lt) ∙ c.in_ok-cell.ensures.cell (take k w) c.loop-k.invariant.at;
      families = enter_more c.args.cells.now.signs c.loop-k.cells c.step_or_add.new.cells w k c.args.blank c.loop-k.invariant.held c.loop-k.invariant.signs lt steps ∙ c.loop-k.invariant.families;
      front = front_more c.args.cells.now.signs c.args.cells.now.families c.loop-k.cells c.step_or_add.new.cells w k c.args.blank
          c.loop-k.invariant.held c.loop-k.invariant.signs up lt steps c.loop-k.invariant.front;
      blanks =
          more_added w c.args.blank c.args.cells.now.values c.loop-k.cells.values c.step_or_add.new.cells.values c.loop-k.invariant.blanks
          (step_values w c.loop-k.cells c.step_or_add.new.cells (k + 1) (take k w) (get_or w k 0) c.args.blank c.loop-k.invariant.held (way_more w k lt) steps);
      held = c.in_ok-cell.ensures.kept;
      signs = step_signs c.loop-k.cells c.step_or_add.new.cells (take k w) (get_or w k 0) c.args.blank steps ∙ c.loop-k.invariant.signs;
    }

pub returns-in_err-cell-clause-err : goal.returns-in_err-cell-clause-err
returns-in_err-cell-clause-err g c =
    let err = err_from_is_err_and c.from_residual.result c.from_residual.ensures.1 in
    let ends : EndsBefore c.loop-k.cells.values (take c.loop-k.k c.args.signs.now ++ get_or c.args.signs.now c.loop-k.k 0 ∷ []) =
    c.in_err-cell.ensures.ends (take c.loop-k.k c.args.signs.now) c.loop-k.invariant.at in
    rw (err.1) (still_none c.args.signs.now c.args.blank c.args.cells.now.values c.loop-k.cells.values c.loop-k.invariant.blanks c.args.signs.now
    (not_reached c.loop-k.cells.values c.args.signs.now c.loop-k.k c.loop-k-test.true ends))

pub returns-in_err-cell-clause-part : goal.returns-in_err-cell-clause-part
returns-in_err-cell-clause-part g c =
    let err = err_from_is_err_and c.from_residual.result c.from_residual.ensures.1 in
    rw (err.1) (
      c.loop-k.k,
      c.loop-k-test.true,
      ap (λ (h : ValuedFamilies g.row.V.Denot). h.families) c.in_err-cell.ensures.err ∙ c.loop-k.invariant.front
          ∙ sym (enter_is c.args.cells.now.signs c.args.cells.now.families (take c.loop-k.k c.args.signs.now)),
    )

pub known_prefix-known-requires : goal.known_prefix-known-requires
known_prefix-known-requires g c = record { some = c.requires.some; signs = c.requires.signs }

pub bounds-signs-k : goal.bounds-signs-k
bounds-signs-k g c = c.loop-k-test.true

pub step_or_add-requires : goal.step_or_add-requires
step_or_add-requires g c = record { held = c.loop-k.invariant.held; parent = (take c.loop-k.k c.args.signs.now, c.loop-k.invariant.at); sign = subst (λ n. (1 ≤ get_or c.args.signs.now c.loop-k.k 0) × (get_or c.args.signs.now c.loop-k.k 0 ≤ n)) (sym c.loop-k.invariant.signs) (c.requires.signs c.loop-k.k 0 c.loop-k-test.true) }

pub returns-in_err-cell-clause-cell : goal.returns-in_err-cell-clause-cell
returns-in_err-cell-clause-cell g c = let err = err_from_is_err_and c.from_residual.result c.from_residual.ensures.1 in rw (err.1) tt

pub returns-in_err-cell-clause-families : goal.returns-in_err-cell-clause-families
returns-in_err-cell-clause-families g c = let err = err_from_is_err_and c.from_residual.result c.from_residual.ensures.1 in rw (err.1) tt

pub returns-in_err-cell-clause-blanks : goal.returns-in_err-cell-clause-blanks
returns-in_err-cell-clause-blanks g c = subst (λ (h : ValuedFamilies g.row.V.Denot). AddsBlanks c.args.signs.now c.args.blank c.args.cells.now.values h.values)
    (sym c.in_err-cell.ensures.err) c.loop-k.invariant.blanks

pub returns-in_err-cell-clause-held : goal.returns-in_err-cell-clause-held
returns-in_err-cell-clause-held g c = c.in_err-cell.ensures.kept

pub returns-in_err-cell-clause-signs : goal.returns-in_err-cell-clause-signs
returns-in_err-cell-clause-signs g c = ap (λ (h : ValuedFamilies g.row.V.Denot). h.signs) c.in_err-cell.ensures.err ∙ c.loop-k.invariant.signs

pub returns-clause-cell : goal.returns-clause-cell
returns-clause-cell g c = subst (λ w. cell_of c.loop-k.cells.families w ≡ Some c.loop-k.cell) (take_all c.loop-k.k c.args.signs.now (omega arith)) c.loop-k.invariant.at

pub returns-clause-families : goal.returns-clause-families
returns-clause-families g c = subst (λ w. c.loop-k.cells.families ≡ enter_by c.args.cells.now.signs c.args.cells.now.families w)
    (take_all c.loop-k.k c.args.signs.now (omega arith)) c.loop-k.invariant.front
    ∙ sym (enter_is c.args.cells.now.signs c.args.cells.now.families c.args.signs.now)

pub returns-clause-part : goal.returns-clause-part
returns-clause-part g c = tt

pub returns-clause-blanks : goal.returns-clause-blanks
returns-clause-blanks g c = c.loop-k.invariant.blanks

pub returns-clause-held : goal.returns-clause-held
returns-clause-held g c = c.loop-k.invariant.held

pub returns-clause-signs : goal.returns-clause-signs
returns-clause-signs g c = c.loop-k.invariant.signs

pub returns-clause-err : goal.returns-clause-err
returns-clause-err g c = tt
