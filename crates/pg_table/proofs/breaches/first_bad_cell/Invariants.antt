use Rattle.std.proofs.Common.{◌≡◌, ℕ, ◌<◌, true}
use Rattle.pg_table.specs.Forms.{cell_at, is_sound_cell}
use Rattle.pg_table.proofs.breaches.first_bad_cell.Given as goal

abbrev pub invariant-cells : goal.invariant-cells
invariant-cells l = (k : ℕ) → k < l.at → is_sound_cell l.sizes k (cell_at l.bytes k) ≡ true
