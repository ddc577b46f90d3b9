use Rattle.std.proofs.Common.{◌≤◌, ◌<◌, ℕ, get_or}
use Rattle.pg_starts.proofs.start_numbers.greatest_of.Given as goal

abbrev pub invariant-signs : goal.invariant-signs
invariant-signs l = (k : ℕ) → k < l.sign-index → get_or l.fn.signs k 0 ≤ l.greatest
