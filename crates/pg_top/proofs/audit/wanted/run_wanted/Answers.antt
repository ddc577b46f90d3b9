use Rattle.pg_top.proofs.audit.wanted.run_wanted.Goals as goal

pub make_selected-requires-clause-cells : goal.make_selected-requires-clause-cells
make_selected-requires-clause-cells g c = rw c.requires.cells tt
