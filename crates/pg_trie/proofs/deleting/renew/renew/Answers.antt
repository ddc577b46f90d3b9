use Rattle.std.proofs.Common.{refl, ap, ◌∙◌, get_or, arith}
use Rattle.std.specs.FinMap.{put}
use Rattle.pg_cells.proofs.StringMaps.{order}
use Rattle.pg_cells.proofs.StringCells.{cell_within}
use Rattle.pg_trie.proofs.DeletingLaws.Renewing.{renew_start, renew_skip, renew_step, old_head, renewed}
use Rattle.pg_trie.proofs.deleting.renew.renew.Goals as goal
use Rattle.pg_trie.proofs.deleting.renew.renew.Goals.{in-Some, in_default}

pub loop-cell-init : goal.loop-cell-init
loop-cell-init c = renew_start c.args.cells.now c.args.heads.now c.requires.held

pub bounds-heads-number : goal.bounds-heads-number
bounds-heads-number c =
    let s = c.in-Some.ensures.some in
    let lt = c.requires.heads s.0 c.in-Some.head (old_head c.args.cells.now c.loop-cell.cells c.loop-cell.cell c.args.heads.now s.0 c.in-Some.head c.requires.held c.loop-cell.invariant s.1 s.2) in
    omega (arith, c.number.ensures, lt)

pub offset_bounds-heads-number : goal.offset_bounds-heads-number
offset_bounds-heads-number c =
    let s = c.in-Some.ensures.some in
    let lt = c.requires.heads s.0 c.in-Some.head (old_head c.args.cells.now c.loop-cell.cells c.loop-cell.cell c.args.heads.now s.0 c.in-Some.head c.requires.held c.loop-cell.invariant s.1 s.2) in
    omega (arith, c.number.ensures, lt)

pub loop-cell-preserved : goal.loop-cell-preserved
loop-cell-preserved c = elim c.match-value_if_taken.branch [
  | in-Some w ↦
      let s = w.in-Some.ensures.some in
      rw w.cells-is
      (renew_step c.args.cells.now c.loop-cell.cells w.set_value.new.self c.loop-cell.cell c.args.heads.now s.0 w.in-Some.head c.requires.held c.loop-cell.invariant s.1 s.2 w.set_value.ensures.kept
      (w.set_value.ensures.held s.0 s.1 ∙ ap (λ v. record c.loop-cell.cells { values = put order s.0 v c.loop-cell.cells.values })
      (w.new.ensures ∙ ap (λ k. get_or c.args.heads.now k 0) w.number.ensures)))
  | in_default w ↦ rw w.cells-is (renew_skip c.args.cells.now c.loop-cell.cells c.loop-cell.cell c.args.heads.now c.loop-cell.invariant (w.in_default.ensures.none refl))
]

pub returns : goal.returns
returns c =
    renewed c.args.cells.now c.loop-cell.cells c.loop-cell.cell c.args.heads.now c.requires.held c.loop-cell.invariant
    (λ q cell at. (let within = cell_within c.args.cells.now.families q cell at in let top = c.top-top.ensures.top in let done = c.loop-cell-test.false in omega arith))
