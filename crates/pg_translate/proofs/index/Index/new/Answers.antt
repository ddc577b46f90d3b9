use Rattle.std.proofs.Common.{refl}
use Rattle.pg_translate.proofs.Empty.{new_index}
use Rattle.pg_translate.proofs.index.Index.new.Goals as goal

pub returns-clause-sound : goal.returns-clause-sound
returns-clause-sound c = new_index _ c.new.ensures.items c.new-2.ensures.items refl c.new-3.ensures.empty
