use Rattle.pg_dict.proofs.store.Store.lend.Goals as goal

pub returns : goal.returns
returns c = cc
