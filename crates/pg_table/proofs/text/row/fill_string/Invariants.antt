use Rattle.std.proofs.Common.{ℕ, List, take}
use Rattle.pg_cells.specs.Inside.linked.Walks.{IsAt}
use Rattle.pg_table.specs.Inside.text.Rows.{HasHeads, IsPartRow, Fills}
use Rattle.pg_table.proofs.text.row.fill_string.Given as goal

abbrev pub invariant-loop-s : goal.invariant-loop-s
invariant-loop-s l = record {
  at : IsAt l.cells.families l.at (take l.s-index l.signs);
  fills : (heads : List ℕ → ℕ) → HasHeads l.cells heads → IsPartRow l.cells heads l.fn.row → Fills l.cells heads l.signs l.s-index l.fn.row l.row;
}
