use Rattle.std.proofs.lemmas.Result.{IfOk-from_err}
use Rattle.pg_packed.proofs.engine.PackedEngine.new.Goals as goal

pub returns-in_err-trie_of : goal.returns-in_err-trie_of
returns-in_err-trie_of c = IfOk-from_err c.from_residual.result _ c.from_residual.ensures.0

pub returns-in_err-new : goal.returns-in_err-new
returns-in_err-new c = IfOk-from_err c.from_residual-in_err-new.result _ c.from_residual-in_err-new.ensures.0
