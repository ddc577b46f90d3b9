use Rattle.std.proofs.Common.{ℕ, ◌-◌, List}
use Rattle.pg_table.specs.Inside.text.Rows.{HasHeads, IsPartRow, FillsSigns}
use Rattle.pg_table.proofs.text.row.fill_signs.Given as goal

abbrev pub invariant-signs : goal.invariant-signs
invariant-signs l = (heads : List ℕ → ℕ) → HasHeads l.cells heads → IsPartRow l.cells heads l.fn.row → FillsSigns l.cells heads (l.s - 1) l.row
