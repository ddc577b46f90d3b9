use Rattle.std.proofs.Common.{◌≡◌, ◌<◌, ◌≤◌, ℕ, get_or, vec_len}
use Rattle.pg_starts.specs.Inside.Cells.{IsFree}
use Rattle.pg_starts.proofs.cells.grow.Given as goal

abbrev pub invariant-loop : goal.invariant-loop
invariant-loop l = record {
  long : vec_len l.cells ≡ l.counter;
  more : vec_len l.initial.cells ≤ vec_len l.cells;
  kept : (c : ℕ) → c < vec_len l.initial.cells → get_or l.cells.items c 0 ≡ get_or l.initial.cells.items c 0;
  free : (c : ℕ) → vec_len l.initial.cells ≤ c → IsFree l.cells.items c;
}
