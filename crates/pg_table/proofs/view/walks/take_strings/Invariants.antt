use Rattle.std.proofs.Common.{◌≡◌, ℕ, ◌+◌, ◌-◌, ◌≤◌, List, ◌∷◌, ◌++◌, take, drop}
use Rattle.pg_table.specs.Forms.{sizes_of}
use Rattle.pg_table.specs.Lookups.{lookup, lookup_from}
use Rattle.pg_select.specs.Inside.words.Positions.{values_of}
use Rattle.pg_table.specs.Inside.view.Raising.{IsUncovered, by_table_strings}
use Rattle.pg_table.proofs.view.Levels.{Level}
use Rattle.pg_table.proofs.view.walks.take_strings.Given as goal

abbrev pub invariant-loop-stop : goal.invariant-loop-stop
invariant-loop-stop l = record {
  inside : l.base ≤ (sizes_of l.view).cells;
  leads : (s : ℕ) (more : List ℕ) → lookup l.view (take (l.stop - l.start) (drop l.start l.w) ++ s ∷ more) ≡ lookup_from l.view l.base (s ∷ more);
  values : Level (by_table_strings l.view l.w l.start (l.stop - l.start + 1)) (by_table_strings l.view l.w l.start 1) (values_of l.fn.out) (values_of l.out);
  uncovered : IsUncovered l.out;
}
