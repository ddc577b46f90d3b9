use Rattle.pg_top.proofs.Selections.{cells_packed}
use Rattle.pg_top.proofs.generate.outputs.run_files.Goals as goal

pub make_files-requires-clause-cells : goal.make_files-requires-clause-cells
make_files-requires-clause-cells g c =
    cells_packed c.args.inputs.now (g.E.Engine.meaning c.args.engine.now).families c.in_ok-run.run' c.requires.families c.in_ok-run.ensures.cells
