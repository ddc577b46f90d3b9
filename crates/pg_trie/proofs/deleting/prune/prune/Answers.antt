use Rattle.std.proofs.Common.{◌≤◌, [], ◌∷◌, Some, ap, sym, ◌∙◌, arith}
use Rattle.pg_trie.proofs.DeletingLaws.Pruning.{root_start, root_step, pruned}
use Rattle.pg_trie.proofs.deleting.prune.prune.Goals as goal

pub loop-s-init : goal.loop-s-init
loop-s-init c = root_start c.args.cells.now c.requires.held

pub prune_below-requires-clause-held : goal.prune_below-requires-clause-held
prune_below-requires-clause-held c = c.loop-s.invariant.held

pub prune_below-requires-clause-short : goal.prune_below-requires-clause-short
prune_below-requires-clause-short c q v f = c.requires.short q v (c.loop-s.invariant.less q v f)

pub prune_below-requires-clause-cell : goal.prune_below-requires-clause-cell
prune_below-requires-clause-cell c =
    let low = c.loop-s.auto.s in
    let high : c.loop-s.s ≤ c.loop-s.cells.signs = let a = c.loop-s.invariant.signs in let b = c.signs-s-end.ensures.signs in let lt = c.loop-s-test.true in omega arith in
    (c.loop-s.s ∷ [], (c.loop-s.invariant.held.alone c.loop-s.s low high ∙ ap Some (sym c.from.ensures), omega arith))

pub loop-s-preserved : goal.loop-s-preserved
loop-s-preserved c =
    let low = c.loop-s.auto.s in
    let high : c.loop-s.s ≤ c.loop-s.cells.signs = let a = c.loop-s.invariant.signs in let b = c.signs-s-end.ensures.signs in let lt = c.loop-s-test.true in omega arith in
    root_step c.args.cells.now c.loop-s.cells c.prune_below.new.cells c.loop-s.s (omega arith) c.loop-s.invariant
    (c.prune_below.ensures (c.loop-s.s ∷ []) (c.loop-s.invariant.held.alone c.loop-s.s low high ∙ ap Some (sym c.from.ensures)))

pub returns : goal.returns
returns c keep is_keep =
    pruned keep c.args.cells.now c.loop-s.cells c.loop-s.s c.requires.held is_keep c.loop-s.invariant (let a = c.signs-s-end.ensures.signs in let le = c.loop-s-test.false in omega arith)
