-- The counts of faults of all names, before and after a call.
use Rattle.std.specs.Prelude.{◌≡◌, ℕ, ◌+◌, ◌≤◌, ◌≢◌, List}
use Rattle.pg_outside.specs.Faults.{Rose}

-- the count of this name rose
abbrev pub RoseFor : (List ℕ → ℕ) → (List ℕ → ℕ) → List ℕ → Type 0
RoseFor before now name = Rose (before name) (now name)

-- no name's count is below what it was
abbrev pub NoneFell : (List ℕ → ℕ) → (List ℕ → ℕ) → Type 0
NoneFell before now = (name : List ℕ) → before name ≤ now name

-- no name's count is more than one greater than it was
abbrev pub RoseByOneAtMost : (List ℕ → ℕ) → (List ℕ → ℕ) → Type 0
RoseByOneAtMost before now = (name : List ℕ) → now name ≤ before name + 1

-- the count of every name rose
abbrev pub EachRose : (List ℕ → ℕ) → (List ℕ → ℕ) → Type 0
EachRose before now = (name : List ℕ) → RoseFor before now name

-- the count of every name is what it was
abbrev pub SameCounts : (List ℕ → ℕ) → (List ℕ → ℕ) → Type 0
SameCounts before now = (name : List ℕ) → now name ≡ before name

-- the count of every other name is what it was
abbrev pub SameOthers : (List ℕ → ℕ) → (List ℕ → ℕ) → List ℕ → Type 0
SameOthers before now name = (other : List ℕ) → other ≢ name → now other ≡ before other
