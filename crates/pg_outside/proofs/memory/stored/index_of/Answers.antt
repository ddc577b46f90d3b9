use Rattle.pg_outside.proofs.StoredFiles.{found_index, missing_index}
use Rattle.pg_outside.proofs.memory.stored.index_of.Goals as goal

pub returns-clause-found : goal.returns-clause-found
returns-clause-found c = found_index c.args.files.now c.args.name.now c.first_named.result c.first_named.ensures

pub returns-clause-missing : goal.returns-clause-missing
returns-clause-missing c = missing_index c.args.files.now c.args.name.now c.first_named.result c.first_named.ensures
