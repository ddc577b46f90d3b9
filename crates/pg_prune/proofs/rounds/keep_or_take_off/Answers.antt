use Rattle.std.proofs.Common.{◌∙◌}
use Rattle.pg_prune.specs.Inside.rounds.Turns.{with_entry, without_entry}
use Rattle.pg_prune.proofs.rounds.NeedSearch.{some_need}
use Rattle.pg_prune.proofs.rounds.keep_or_take_off.Goals as goal

pub returns-then-not-is_needed-clause-answer : goal.returns-then-not-is_needed-clause-answer
returns-then-not-is_needed-clause-answer c = λ turn held. c.is_some-is_needed.ensures
    ∙ some_need turn.positions (with_entry turn) (without_entry turn) c.first_need.result (c.first_need.ensures turn held)

pub returns-else-not-is_needed-clause-answer : goal.returns-else-not-is_needed-clause-answer
returns-else-not-is_needed-clause-answer c = λ turn held. c.is_some-is_needed.ensures
    ∙ some_need turn.positions (with_entry turn) (without_entry turn) c.first_need.result (c.first_need.ensures turn held)
