-- What becomes of a candidate.
use Rattle.std.specs.Prelude.{ℕ, ◌+◌, ◌*◌, nat_lt, nat_le, if◌then◌else◌}
use Rattle.pg_types.specs.declared.parameters.LevelParams.{LevelParams}
use Rattle.pg_select.specs.declared.choice.Choice.{Choice}
use Rattle.pg_select.specs.declared.choice.Choice.TheVariants.{Hopeless, Chosen, Left}

-- hopeless where good cannot reach the threshold, chosen where good less bad does, else left
abbrev pub choice : LevelParams → ℕ → ℕ → Choice
choice level good bad = if nat_lt (good * level.good_wt) level.thresh then Hopeless
    else (if nat_le (level.thresh + bad * level.bad_wt) (good * level.good_wt) then Chosen
    else Left)
