use Rattle.std.proofs.lemmas.Result.{err_from_is_err_and}
use Rattle.pg_trie.proofs.lists.raised_head.Goals as goal

pub returns-in_err-longer-clause-list : goal.returns-in_err-longer-clause-list
returns-in_err-longer-clause-list c = let err = err_from_is_err_and c.from_residual.result c.from_residual.ensures.1 in rw err.1 tt

pub returns-in_err-longer-clause-inside : goal.returns-in_err-longer-clause-inside
returns-in_err-longer-clause-inside c = let err = err_from_is_err_and c.from_residual.result c.from_residual.ensures.1 in rw err.1 tt

pub returns-in_err-longer-clause-grows : goal.returns-in_err-longer-clause-grows
returns-in_err-longer-clause-grows c = c.in_err-longer.ensures.grows

pub returns-in_err-number-clause-list : goal.returns-in_err-number-clause-list
returns-in_err-number-clause-list c = let err = err_from_is_err_and c.from_residual-in_err-number.result c.from_residual-in_err-number.ensures.1 in rw err.1 tt

pub returns-in_err-number-clause-inside : goal.returns-in_err-number-clause-inside
returns-in_err-number-clause-inside c = let err = err_from_is_err_and c.from_residual-in_err-number.result c.from_residual-in_err-number.ensures.1 in rw err.1 tt

pub returns-in_err-number-clause-grows : goal.returns-in_err-number-clause-grows
returns-in_err-number-clause-grows c = c.in_ok-longer.ensures.grows

pub returns-clause-grows : goal.returns-clause-grows
returns-clause-grows c = c.in_ok-longer.ensures.grows
