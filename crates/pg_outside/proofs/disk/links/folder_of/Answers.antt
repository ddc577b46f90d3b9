use Rattle.std.proofs.Common.{refl}
use Rattle.pg_outside.proofs.Folders.{folder_none, from_start, folder_at}
use Rattle.pg_outside.proofs.disk.links.folder_of.Goals as goal

pub returns-in-Some : goal.returns-in-Some
returns-in-Some c =
    folder_at c.range.result.now c.args.name.now c.in-Some.slash c.in-Some.ensures.cases.0 c.in-Some.ensures.cases.1.1 c.in-Some.ensures.cases.1.0 (from_start _ _ _ c.range.ensures.value)

pub returns-in-None : goal.returns-in-None
returns-in-None c = folder_none _ _ refl c.in-None.ensures.cases
