-- Windows with numbers. A window's number is its index in a list, from 0.
use Rattle.std.specs.Prelude.{◌≡◌, ℕ, List, map, slice_get, Some}
use Rattle.pg_types.specs.Inside.counting.Counts.{Counts}

-- windows, in the order of their numbers
abbrev pub Windows : Type 0
Windows = List (List ℕ)

-- the window has the number
abbrev pub HasNumber : Windows → List ℕ → ℕ → Type 0
HasNumber windows u n = slice_get windows n ≡ Some u

-- the numbers are those of the counted windows, in the order of signs
abbrev pub AreInOrder : Windows → Counts → List ℕ → Type 0
AreInOrder windows counts ns = map (slice_get windows) ns ≡ map (λ e. Some e.0) counts
