use Rattle.std.proofs.Common.{◌≡◌, ℕ, ◌<◌, ◌≤◌, List, [], ◌∷◌, slice_get, Some, take}
use Rattle.pg_table.specs.Inside.text.Rows.{IsPartRow, HasCell}
use Rattle.pg_table.specs.Inside.text.Files.{head_in}
use Rattle.pg_table.proofs.text.row.fill_patterns.Given as goal

abbrev pub invariant-patterns : goal.invariant-patterns
invariant-patterns l = record {
  row : IsPartRow l.packed.cells (head_in l.patterns) l.row;
  signs : (x : ℕ) → 1 ≤ x → x ≤ l.packed.cells.signs → HasCell l.packed.cells (head_in l.patterns) l.row (x ∷ []);
  fronts : (j k : ℕ) (e : (List ℕ × ℕ) × ℕ) → j < l.i → slice_get l.patterns j ≡ Some e → HasCell l.packed.cells (head_in l.patterns) l.row (take k e.0.0);
}
