-- The turn of an entry in a round.
use Rattle.std.specs.Prelude.{◌≡◌, ℕ, ◌<◌, true, List, ◌∷◌, ◌++◌, ◌-◌, ◌^◌, length, map, slice_index_or, Option, Some}
use Rattle.std.specs.List.{list_all}
use Rattle.pg_patterns.specs.Values.{Patterns}
use Rattle.pg_patterns.specs.Inside.PatternMaps.{is_entry}
use Rattle.pg_prune.specs.Inside.positions.PositionInReach.{PositionInReach}
use Rattle.pg_prune.specs.Inside.positions.EntryPositions.{positions_of_entry}
use Rattle.pg_prune.specs.Inside.rounds.Holders.{holder_counts}

-- an entry between others
pub record Turn : Type 0 where
  pub positions : List PositionInReach
  pub before : Patterns
  pub entry : (List ℕ × ℕ) × ℕ
  pub behind : Patterns

-- the map with the entry
abbrev pub with_entry : Turn → Patterns
with_entry t = t.before ++ t.entry ∷ t.behind

-- the map without the entry
abbrev pub without_entry : Turn → Patterns
without_entry t = t.before ++ t.behind

-- these numbers of holders are those of the map at each position
abbrev pub IsTallied : List PositionInReach → Patterns → List (List ℕ) → Type 0
IsTallied positions Q holders = holders ≡ map (holder_counts Q) positions

-- the entry stands at the positions with these numbers, and has this value
pub record IsOf (t : Turn) (numbers : List ℕ) (value : ℕ) : Type 0 where
  pub stands : numbers ≡ positions_of_entry t.positions t.entry
  pub gives : value ≡ t.entry.1
  pub sound : list_all is_entry (with_entry t) ≡ true

-- the entry stands at these positions with this value, and the map with it has these holders
pub record IsHeld (t : Turn) (holders : List (List ℕ)) (numbers : List ℕ) (value : ℕ) : Type 0 where
  pub entry : IsOf t numbers value
  pub tallied : IsTallied t.positions (with_entry t) holders

-- the entry stands at these positions, and the map without it has these holders and room for it
pub record IsAwaited (t : Turn) (holders : List (List ℕ))
    (numbers : List ℕ) (value : ℕ) : Type 0 where
  pub entry : IsOf t numbers value
  pub tallied : IsTallied t.positions (without_entry t) holders
  pub room : length (without_entry t) < 2 ^ 64 - 1

-- the position with this number is found
pub record IsFound (positions : List PositionInReach) (found : Option PositionInReach)
    (number : ℕ) : Type 0 where
  pub within : number < length positions
  pub position : (d : PositionInReach) → found ≡ Some (slice_index_or positions number d)
