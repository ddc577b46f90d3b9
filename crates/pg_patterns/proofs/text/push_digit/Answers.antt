use Rattle.std.proofs.Common.{ap, sym, ◌∙◌, ◌++◌}
use Rattle.std.proofs.lemmas.List.{append-nil}
use Rattle.pg_patterns.proofs.Points.{digit_there, digit_gap, next_there, next_gap}
use Rattle.pg_patterns.proofs.text.push_digit.Goals as goal

pub returns-in_ok-push-in-Some-clause-text : goal.returns-in_ok-push-in-Some-clause-text
returns-in_ok-push-in-Some-clause-text c =
    c.in_ok-push-in-Some.ensures.items
    ∙ ap (λ t. c.args.text.now.items ++ t) (sym (digit_there c.args.entries.now (c.args.signs.now, c.args.dot) c.args.next c.in-Some.value c.requires.point c.in-Some.ensures.value))

pub returns-in_ok-push-in-Some-clause-next : goal.returns-in_ok-push-in-Some-clause-next
returns-in_ok-push-in-Some-clause-next c =
    next_there c.args.entries.now c.args.signs.now c.args.dot c.args.next c.in-Some.value c.requires.map.sorted c.requires.point c.in-Some.ensures.value

pub returns-in-None-clause-text : goal.returns-in-None-clause-text
returns-in-None-clause-text c =
    sym (append-nil c.args.text.now.items)
    ∙ ap (λ t. c.args.text.now.items ++ t) (sym (digit_gap c.args.entries.now (c.args.signs.now, c.args.dot) c.args.next c.requires.map.sorted c.requires.point c.in-None.ensures.value))

pub returns-in-None-clause-next : goal.returns-in-None-clause-next
returns-in-None-clause-next c =
    next_gap c.args.entries.now c.args.signs.now c.args.dot c.args.next c.requires.map.sorted c.requires.point c.in-None.ensures.value
