-- How many entries give each value to a position.
use Rattle.std.specs.Prelude.{ℕ, ◌+◌, ◌-◌, ◌%◌, Bool, ◌&&◌, nat_eq, nat_lt, if◌then◌else◌, List, [], ◌∷◌, map, count_by, slice_index, slice_set}
use Rattle.std.specs.List.{range_with_len}
use Rattle.pg_types.specs.declared.limits.TheConstants.{LEVEL_MAX}
use Rattle.pg_patterns.specs.Values.{Patterns}
use Rattle.pg_prune.specs.Inside.positions.PositionInReach.{PositionInReach}
use Rattle.pg_prune.specs.Inside.positions.EntryPositions.{stands}

-- how many entries of a map stand at a position and have this value
abbrev pub count_at : Patterns → PositionInReach → ℕ → ℕ
count_at Q x v = count_by (λ e. stands e x && nat_eq e.1 v) Q

-- how many entries of a map stand at a position and have the value 1, 2 and so on to 9
abbrev pub holder_counts : Patterns → PositionInReach → List ℕ
holder_counts Q x = map (count_at Q x) (range_with_len 1 LEVEL_MAX)

-- the greatest value that some entry gives: `best` is that up to v, and the numbers say how many
-- entries give v + 1, v + 2 and so on
abbrev pub greatest_value_from : ℕ → ℕ → List ℕ → ℕ
greatest_value_from best v [] = best
greatest_value_from best v (n ∷ ns) =
    greatest_value_from (if nat_lt 0 n then v + 1 else best) (v + 1) ns

-- the greatest value that some entry gives, by how many give 1, 2 and so on; 0 for none
abbrev pub greatest_held : List ℕ → ℕ
greatest_held counts = greatest_value_from 0 0 counts

-- the numbers when one entry more has this value
abbrev pub with_one : List ℕ → ℕ → List ℕ
with_one counts v = slice_set counts (v - 1) (slice_index counts (v - 1) + 1)

-- the numbers when one entry less has this value
abbrev pub less_one : List ℕ → ℕ → List ℕ
less_one counts v = slice_set counts (v - 1) (slice_index counts (v - 1) - 1)

-- whether the greatest value stays odd, or even, where an entry with this value goes
abbrev pub stays_alike : ℕ → List ℕ → Bool
stays_alike v counts = nat_eq (greatest_held counts % 2) (greatest_held (less_one counts v) % 2)
