use Rattle.std.proofs.Common.{subst}
use Rattle.pg_translate.specs.Inside.tables.Rules.{KeepsRules}
use Rattle.pg_translate.proofs.RuleLaws.{keeps}
use Rattle.pg_translate.proofs.table.laws.keeps_rules.Goals as goal

pub returns : goal.returns
returns c = subst KeepsRules c.table.view_is (keeps _ _ c.table.invariant)
