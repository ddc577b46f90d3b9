use Rattle.std.proofs.Common.{◌≡◌, ◌+◌, ◌<◌, ◌≤◌, ℕ, get_or}
use Rattle.pg_starts.specs.Inside.Codes.{code_at}
use Rattle.pg_starts.proofs.codes.take_in.Given as goal

abbrev pub invariant-starts : goal.invariant-starts
invariant-starts l = record {
  done : (i : ℕ) → i < l.start → get_or l.codes i 0 ≡ code_at l.signs (l.greatest + 1) i (l.at + 1);
  left : (i : ℕ) → l.start ≤ i → get_or l.codes i 0 ≡ get_or l.fn.codes i 0;
}
