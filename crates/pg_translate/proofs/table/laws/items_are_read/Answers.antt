use Rattle.std.proofs.Common.{ℕ, List, ◌++◌, length, Some, option_map, refl, ap, ◌∙◌}
use Rattle.std.proofs.lemmas.List.{take_at}
use Rattle.pg_translate.proofs.ItemForms.{own, item_as}
use Rattle.pg_translate.proofs.ItemLaws.{item_reads}
use Rattle.pg_translate.proofs.RuleLaws.{spelling_item}
use Rattle.pg_translate.proofs.Unbroken.{item_unbroken, ended_none}
use Rattle.pg_translate.proofs.table.laws.items_are_read.Goals as goal

pub returns-clause-read : goal.returns-clause-read
returns-clause-read c = λ item text more is.
    item_as c.args.table.now c.keeps_rules.ensures c.args.place (text ++ more)
    ∙ ap (option_map (own (text ++ more))) (item_reads c.args.table.now c.keeps_rules.ensures c.args.place item text more is)
    ∙ ap (λ (front : List ℕ). Some (item, front)) (take_at text more (length text) refl)

pub returns-clause-spellings : goal.returns-clause-spellings
returns-clause-spellings c = spelling_item c.args.table.now c.keeps_rules.ensures c.args.place

pub returns-clause-unbroken : goal.returns-clause-unbroken
returns-clause-unbroken c = item_unbroken c.args.table.now c.keeps_rules.ensures c.args.place

pub returns-clause-ended : goal.returns-clause-ended
returns-clause-ended c = λ text ended.
    item_as c.args.table.now c.keeps_rules.ensures c.args.place text ∙ ap (option_map (own text)) (ended_none c.args.table.now c.keeps_rules.ensures c.args.place text ended)
