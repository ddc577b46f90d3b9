use Rattle.std.proofs.Common.{◌≡◌, ℕ, ◌+◌, ◌-◌, ◌*◌, List, ◌++◌, length, All}
use Rattle.pg_types.specs.declared.parameters.LevelParams.{LevelParams}
use Rattle.pg_types.specs.Parameters.{Reading, levels_then}
use Rattle.pg_types.specs.Inside.reading.ItemSteps.{read_by}
use Rattle.pg_types.specs.Inside.Ranges.{IsLevel}
use Rattle.pg_types.proofs.parameters.read_levels.Given as goal

abbrev pub invariant-levels : goal.invariant-levels
invariant-levels l = record {
  item_number : l.items.item_number ≡ 3 + 5 * l.i;
  count : length l.levels.items ≡ l.i;
  ranges : All IsLevel l.levels.items;
  left : (next : List LevelParams → Reading) → read_by (levels_then (l.count - l.i) (λ levels. next (l.levels.items ++ levels))) l.items ≡ read_by (levels_then l.count next) l.fn.items;
}
