-- Maps that break alike at all positions.
use Rattle.std.specs.Prelude.{Bool, List}
use Rattle.std.specs.List.{list_all}
use Rattle.pg_patterns.specs.Values.{Patterns}
use Rattle.pg_prune.specs.Inside.positions.PositionInReach.{PositionInReach}
use Rattle.pg_prune.specs.Prunes.{break_alike_at}

-- two maps break alike at all positions
abbrev pub break_alike : List PositionInReach → Patterns → Patterns → Bool
break_alike positions P Q = list_all (break_alike_at P Q) positions
