use Rattle.std.proofs.Common.{subst}
use Rattle.pg_translate.specs.Inside.tables.Rules.{KeepsRules}
use Rattle.pg_translate.proofs.RuleLaws.{keeps}
use Rattle.pg_translate.proofs.Unbroken.{some_letter_begun}
use Rattle.pg_translate.proofs.table.Table.letter.Goals as goal

pub returns-clause-begun : goal.returns-clause-begun
returns-clause-begun c = some_letter_begun _ (keeps c.self.inside.head c.self.inside.index c.self.invariant) c.args.text.now c.letter.result c.letter.ensures.letter

pub returns-clause-rules : goal.returns-clause-rules
returns-clause-rules c = subst KeepsRules c.self.view_is (keeps _ _ c.self.invariant)
