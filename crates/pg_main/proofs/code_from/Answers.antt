use Rattle.pg_main.proofs.code_from.Goals as goal

pub returns : goal.returns
returns c = c.from.ensures
