use Rattle.std.proofs.Common.{◌≡◌, ◌+◌, ◌≤◌, ℕ, get_or, length}
use Rattle.pg_starts.specs.Inside.Codes.{code_at}
use Rattle.pg_starts.proofs.codes.write_codes.Given as goal

abbrev pub invariant-signs : goal.invariant-signs
invariant-signs l = record {
  some : 1 ≤ l.at;
  size : length l.codes ≡ length l.signs;
  codes : (i : ℕ) → i + l.at ≤ length l.signs → get_or l.codes i 0 ≡ code_at l.signs (l.greatest + 1) i l.at;
}
