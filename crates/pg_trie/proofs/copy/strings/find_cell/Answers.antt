use Rattle.pg_types.specs.Inside.Placing.{cell_of}
use Rattle.std.proofs.lemmas.List.{take_more}
use Rattle.std.proofs.Common.{take, sym, refl, ap, ◌∙◌}
use Rattle.pg_trie.proofs.TrieLaws.Listing.{no_cell}
use Rattle.pg_trie.proofs.copy.strings.find_cell.Goals as goal

pub returns-in_err-step : goal.returns-in_err-step
returns-in_err-step c =
    rw c.from_residual.ensures
    (sym (no_cell c.args.cells.now c.requires.held c.args.signs.now c.loop-s.s-index c.loop-s-test.true (sym (c.in_err-step.ensures.cell (take c.loop-s.s-index c.args.signs.now) c.loop-s.invariant))))

pub step-requires : goal.step-requires
step-requires c = record { at = (take c.loop-s.s-index c.args.signs.now, c.loop-s.invariant); sign = c.requires.signs c.loop-s.s-index 0 c.loop-s-test.true }

pub loop-s-init : goal.loop-s-init
loop-s-init c = refl

pub loop-s-preserved : goal.loop-s-preserved
loop-s-preserved c =
    ap (cell_of c.args.cells.now.families) (take_more c.args.signs.now c.loop-s.s-index 0 c.loop-s-test.true)
    ∙ sym (c.in_ok-step.ensures.cell (take c.loop-s.s-index c.args.signs.now) c.loop-s.invariant)
