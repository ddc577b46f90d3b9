-- What is known of the needs of patterns.
use Rattle.std.specs.Prelude.{◌≡◌, ◌≤◌, length, All}
use Rattle.pg_prune.specs.declared.pruned.Need.{Need}
use Rattle.pg_prune.specs.Prunes.{Pruning}

-- each entry has a need, and no need is at position 0
pub record HasNeeds (f : Pruning) : Type 0 where
  pub each : length f.needs ≡ length f.patterns
  pub positions : All (λ (n : Need). 1 ≤ n.position) f.needs
