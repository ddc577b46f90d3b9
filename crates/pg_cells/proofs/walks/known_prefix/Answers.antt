use Rattle.pg_cells.specs.Inside.linked.Walks.{NeedsNoCell}
use Rattle.std.proofs.Common.{◌≡◌, ◌<◌, [], ◌∷◌, ◌++◌, length, take, get_or, Some, ap, sym, ◌∙◌, arith, subst}
use Rattle.pg_types.specs.Inside.Placing.{cell_of}
use Rattle.pg_cells.proofs.SignLaws.{sign_stays}
use Rattle.pg_cells.proofs.Walking.{way_more, more_known}
use Rattle.pg_cells.proofs.walks.known_prefix.Goals as goal

pub loop-k-preserved : goal.loop-k-preserved
loop-k-preserved g c =
    let k = c.loop-k.k in
    let w = c.args.signs.now in
    let lt : k < length w = c.loop-k-test.true in
    let up = c.loop-k.invariant.up in
    let there : cell_of c.args.cells.now.families (take k w ++ get_or w k 0 ∷ []) ≡ Some c.in-Some.next = sym (c.step.ensures.cell (take k w) c.loop-k.invariant.at) ∙ c.in-Some.is in
    record {
      up = omega arith;
      at = ap (cell_of c.args.cells.now.families) (way_more w k lt) ∙ there;
      known = more_known c.args.cells.now.signs c.args.cells.now.families w k up lt
          (sign_stays c.args.cells.now.signs c.args.cells.now c.root_cell-cell.ensures.held (take k w) (get_or w k 0) c.in-Some.next there) c.loop-k.invariant.known;
    }

pub bounds-signs-0 : goal.bounds-signs-0
bounds-signs-0 g c = c.requires.some

pub root_cell-cell-requires : goal.root_cell-cell-requires
root_cell-cell-requires g c = c.requires.signs 0 0 c.requires.some

pub bounds-signs-k : goal.bounds-signs-k
bounds-signs-k g c = c.loop-k-test.true

pub step-requires : goal.step-requires
step-requires g c = record { at = (take c.loop-k.k c.args.signs.now, c.loop-k.invariant.at); sign = c.requires.signs c.loop-k.k 0 c.loop-k-test.true }

pub returns-in_default-clause-count : goal.returns-in_default-clause-count
returns-in_default-clause-count g c = let lt = c.loop-k-test.true in (c.loop-k.invariant.up, omega arith)

pub returns-in_default-clause-cell : goal.returns-in_default-clause-cell
returns-in_default-clause-cell g c = c.loop-k.invariant.at

pub returns-in_default-clause-known : goal.returns-in_default-clause-known
returns-in_default-clause-known g c = c.loop-k.invariant.known

pub returns-in_default-clause-held : goal.returns-in_default-clause-held
returns-in_default-clause-held g c = c.root_cell-cell.ensures.held

pub returns-clause-count : goal.returns-clause-count
returns-clause-count g c = (c.requires.some, omega arith)

pub returns-clause-cell : goal.returns-clause-cell
returns-clause-cell g c = let all : c.loop-k.k ≡ length c.args.signs.now = omega arith in
    subst (λ k. cell_of c.args.cells.now.families (take k c.args.signs.now) ≡ Some c.loop-k.cell) all c.loop-k.invariant.at

pub returns-clause-known : goal.returns-clause-known
returns-clause-known g c = let all : c.loop-k.k ≡ length c.args.signs.now = omega arith in
    subst (NeedsNoCell c.args.cells.now.signs c.args.cells.now.families c.args.signs.now) all c.loop-k.invariant.known

pub returns-clause-held : goal.returns-clause-held
returns-clause-held g c = c.root_cell-cell.ensures.held
