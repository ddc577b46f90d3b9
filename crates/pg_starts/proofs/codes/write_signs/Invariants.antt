use Rattle.std.proofs.Common.{◌≡◌, ◌<◌, ℕ, get_or}
use Rattle.pg_starts.proofs.codes.write_signs.Given as goal

abbrev pub invariant-starts : goal.invariant-starts
invariant-starts l = (i : ℕ) → i < l.start → get_or l.codes i 0 ≡ get_or l.signs i 0
