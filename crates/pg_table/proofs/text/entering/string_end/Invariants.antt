use Rattle.std.proofs.Common.{◌≡◌, ℕ, ◌<◌, ◌≤◌, List, slice_get, Some}
use Rattle.pg_table.proofs.text.entering.string_end.Given as goal

abbrev pub invariant-loop-end : goal.invariant-loop-end
invariant-loop-end l = (j : ℕ) (e : (List ℕ × ℕ) × ℕ) → l.at ≤ j → j < l.end → slice_get l.patterns j ≡ Some e → e.0.0 ≡ l.signs
