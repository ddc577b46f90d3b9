use Rattle.std.proofs.lemmas.Result.{IfOk-from_err}
use Rattle.pg_packed.proofs.Steps.{entered_tidy}
use Rattle.pg_packed.proofs.start.trie_of.Goals as goal

pub returns-clause-value : goal.returns-clause-value
returns-clause-value c = entered_tidy c.args.signs c.args.start.now c.in_ok-trie.trie c.delete_hopeless.new.self c.requires.signs.0 c.in_ok-trie.ensures c.in_ok-delete_hopeless.ensures.ok

pub returns-in_err-trie-clause-value : goal.returns-in_err-trie-clause-value
returns-in_err-trie-clause-value c = IfOk-from_err c.from_residual.result _ c.from_residual.ensures.0

pub returns-in_err-trie-clause-tails : goal.returns-in_err-trie-clause-tails
returns-in_err-trie-clause-tails c = IfOk-from_err c.from_residual.result _ c.from_residual.ensures.0

pub returns-in_err-delete_hopeless-clause-value : goal.returns-in_err-delete_hopeless-clause-value
returns-in_err-delete_hopeless-clause-value c = IfOk-from_err c.from_residual-in_err-delete_hopeless.result _ c.from_residual-in_err-delete_hopeless.ensures.0

pub returns-in_err-delete_hopeless-clause-tails : goal.returns-in_err-delete_hopeless-clause-tails
returns-in_err-delete_hopeless-clause-tails c = IfOk-from_err c.from_residual-in_err-delete_hopeless.result _ c.from_residual-in_err-delete_hopeless.ensures.0
