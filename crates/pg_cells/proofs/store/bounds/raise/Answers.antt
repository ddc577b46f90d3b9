use Rattle.std.proofs.Common.{◌<◌, subst}
use Rattle.std.proofs.lemmas.List.{get_or-set_other}
use Rattle.pg_cells.proofs.store.bounds.raise.Goals as goal

pub returns-then-sign-lows-clause-there : goal.returns-then-sign-lows-clause-there
returns-then-sign-lows-clause-there c s b other lt =
    c.lower.ensures s b (subst (λ x. b < x) (get_or-set_other c.lower.new.lows c.args.sign s c.args.low 0 other) lt)

pub returns-else-sign-lows-clause-there : goal.returns-else-sign-lows-clause-there
returns-else-sign-lows-clause-there c s b other lt = c.lower.ensures s b lt
