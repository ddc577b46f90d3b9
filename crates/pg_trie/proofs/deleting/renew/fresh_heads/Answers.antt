use Rattle.std.proofs.lemmas.Result.{err_from_is_err_and}
use Rattle.std.proofs.Common.{arith, ◌≡◌, ◌+◌, length, sym, subst, ◌∙◌}
use Rattle.pg_cells.proofs.StringCells.{cell_within}
use Rattle.pg_trie.proofs.DeletingLaws.Renewing.{fresh_start}
use Rattle.pg_cells.proofs.StoreSteps.{given_back}
use Rattle.pg_trie.specs.Inside.FreshLists.{AreFreshTo}
use Rattle.pg_trie.proofs.deleting.renew.fresh_heads.Goals as goal

pub loop-cell-init : goal.loop-cell-init
loop-cell-init c = fresh_start c.args.cells.now c.args.outputs.now c.args.fresh.now c.in_ok-heads.heads.items c.requires.empty
    (let size = c.in_ok-heads.ensures.length in let len = c.len.ensures.len in omega arith) c.in_ok-heads.ensures.unknown

pub returns : goal.returns
returns c = (
  c.loop-cell.cell,
  c.loop-cell.invariant,
  λ q cell at. (let within = cell_within c.args.cells.now.families q cell at in let top = c.top-top.ensures.top in let done = c.loop-cell-test.false in omega arith),
)

pub returns-in_err-heads : goal.returns-in_err-heads
returns-in_err-heads c = let err = err_from_is_err_and c.from_residual.result c.from_residual.ensures.1 in rw err.1 tt

pub returns-in_err-renew_cell : goal.returns-in_err-renew_cell
returns-in_err-renew_cell c = let err = err_from_is_err_and c.from_residual-in_err-renew_cell.result c.from_residual-in_err-renew_cell.ensures.1 in rw err.1 tt

pub overflow_add-cell-end : goal.overflow_add-cell-end
overflow_add-cell-end c = omega (arith, c.top-top.ensures.small)

pub renew_cell-requires-clause-trie : goal.renew_cell-requires-clause-trie
renew_cell-requires-clause-trie c = c.requires.trie

pub renew_cell-requires-clause-heads : goal.renew_cell-requires-clause-heads
renew_cell-requires-clause-heads c =
    subst (AreFreshTo c.args.cells.now c.args.outputs.now c.loop-cell.cell c.loop-cell.fresh) (sym c.as_mut_slice.ensures.value) c.loop-cell.invariant

pub loop-cell-preserved : goal.loop-cell-preserved
loop-cell-preserved c =
    let new = c.renew_cell.new.heads in
    let size : length new ≡ c.loop-cell.heads.len = c.renew_cell.auto.heads ∙ c.as_mut_slice.ensures.len in
    subst (AreFreshTo c.args.cells.now c.args.outputs.now (c.loop-cell.cell + 1) c.renew_cell.new.fresh)
    (sym (given_back new c.loop-cell.heads.items c.loop-cell.heads.len size)) c.in_ok-renew_cell.ensures
