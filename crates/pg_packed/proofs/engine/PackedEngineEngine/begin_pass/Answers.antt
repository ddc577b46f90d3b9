use Rattle.std.proofs.Common.{refl}
use Rattle.pg_packed.proofs.engine.PackedEngineEngine.begin_pass.Goals as goal

pub returns : goal.returns
returns c = rw c.begin.ensures refl
