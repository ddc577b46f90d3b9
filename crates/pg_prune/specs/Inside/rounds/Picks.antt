-- Entries of a map by their numbers, and the rounds through them.
use Rattle.std.specs.Prelude.{◌≡◌, ℕ, ◌<◌, true, List, [], map, length, slice_index_or}
use Rattle.std.specs.List.{All, list_all}
use Rattle.pg_patterns.specs.Values.{Patterns}
use Rattle.pg_patterns.specs.Inside.PatternMaps.{is_entry}
use Rattle.pg_prune.specs.Inside.positions.PositionInReach.{PositionInReach}
use Rattle.pg_prune.specs.Prunes.{round_from}
use Rattle.pg_prune.specs.Inside.rounds.EqualBreaks.{break_alike}
use Rattle.pg_prune.specs.Inside.positions.EntryPositions.{positions_of_entries}
use Rattle.pg_prune.specs.Inside.rounds.Turns.{IsTallied}

-- the entry of a map with a number
abbrev pub entry_of : Patterns → ℕ → (List ℕ × ℕ) × ℕ
entry_of P i = slice_index_or P i (([], 0), 0)

-- the entries of a map with these numbers
abbrev pub picked_entries : Patterns → List ℕ → Patterns
picked_entries P numbers = map (entry_of P) numbers

-- the numbers say at which of the positions each entry stands, and how many positions there are
pub record ListsPositions (positions : List PositionInReach) (P : Patterns)
    (stands : List (List ℕ)) (count : ℕ) : Type 0 where
  pub all : stands ≡ positions_of_entries positions P
  pub many : count ≡ length positions

-- so far the entries `kept` of P are left: they break alike with P, and the holders are theirs
pub record IsKeptSoFar (positions : List PositionInReach) (P : Patterns)
    (stands : List (List ℕ)) (holders : List (List ℕ)) (kept : List ℕ) : Type 0 where
  pub all : stands ≡ positions_of_entries positions P
  pub sound : list_all is_entry P ≡ true
  pub within : All (λ i. i < length P) kept
  pub tallied : IsTallied positions (picked_entries P kept) holders
  pub alike : break_alike positions P (picked_entries P kept) ≡ true

-- one round from `kept` on: the entries `stay` are those that it leaves, with their holders
pub record IsOneRound (positions : List PositionInReach) (P : Patterns)
    (stands : List (List ℕ)) (holders : List (List ℕ)) (kept stay : List ℕ) : Type 0 where
  pub next : IsKeptSoFar positions P stands holders stay
  pub done : picked_entries P stay ≡ round_from positions P [] (picked_entries P kept)

-- before all rounds: the holders are those of all entries
pub record HasAllEntries (positions : List PositionInReach) (P : Patterns)
    (stands : List (List ℕ)) (holders : List (List ℕ)) : Type 0 where
  pub all : stands ≡ positions_of_entries positions P
  pub tallied : IsTallied positions P holders
