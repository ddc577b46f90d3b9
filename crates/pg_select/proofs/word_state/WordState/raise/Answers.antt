use Rattle.std.proofs.Common.{arith}
use Rattle.std.proofs.lemmas.Grind.{common_steps}
use Rattle.pg_select.proofs.word_state.WordState.raise.Goals as goal

pub returns-then-p-lt-ROOM-clause-values : goal.returns-then-p-lt-ROOM-clause-values
returns-then-p-lt-ROOM-clause-values c = grind (arith, common_steps)
