-- What a word's positions are found to be, and how their values and covers rise.
use Rattle.std.specs.Prelude.{◌≡◌, ℕ, ◌+◌, ◌<◌, Bool, true, false, if◌then◌else◌, nat_eq, max, List, length, get_or}
use Rattle.pg_types.specs.declared.limits.TheConstants.{WORD_LETTERS_MAX}
use Rattle.pg_patterns.specs.Values.{Patterns, value_at}
use Rattle.pg_select.specs.declared.pass.Pass.{Pass}
use Rattle.pg_select.specs.Windows.{Hopeless, window, fits, is_covered}

-- the value of each position, and whether its window is covered
pub record Positions : Type 0 where
  pub values : List ℕ
  pub covers : List Bool

-- the values of the positions of a word are those that the patterns give
abbrev pub HasValues : Patterns → List ℕ → List ℕ → Type 0
HasValues P w values = (p : ℕ) → p < length w → get_or values p 0 ≡ value_at P w p

-- the covers say at each position whether its window is covered, where a window of the pass fits
abbrev pub HasCovers : Pass → Patterns → Hopeless → List ℕ → List Bool → Type 0
HasCovers pass P H w covers = (p : ℕ) → p < length w → fits w p pass.len pass.dot ≡ true
    → get_or covers p false ≡ is_covered pass.level P H (window w p pass.len pass.dot) pass.dot

-- 1 where the test holds, else 0
abbrev pub bit : Bool → ℕ
bit b = if b then 1 else 0

-- the value of a position
abbrev pub values_of : Positions → ℕ → ℕ
values_of s p = get_or s.values p 0

-- 1 where the window of a position is covered, else 0
abbrev pub covers_of : Positions → ℕ → ℕ
covers_of s p = bit (get_or s.covers p false)

-- the number of each position was raised to at least that of `by`
abbrev pub Raises : (ℕ → ℕ) → (ℕ → ℕ) → (ℕ → ℕ) → Type 0
Raises by before after = (p : ℕ) → p < WORD_LETTERS_MAX + 2 → after p ≡ max (before p) (by p)

-- the number of one position was raised to at least n
abbrev pub RaisesAt : ℕ → ℕ → (ℕ → ℕ) → (ℕ → ℕ) → Type 0
RaisesAt at n before after = Raises (λ p. if nat_eq at p then n else 0) before after

-- the value of each position of a word became that of `by`, where that is greater
abbrev pub RaisesValues : (ℕ → ℕ) → Positions → Positions → Type 0
RaisesValues by old new = Raises by (values_of old) (values_of new)

-- the cover of each position of a word became that of `by`, where that is 1
abbrev pub RaisesCovers : (ℕ → ℕ) → Positions → Positions → Type 0
RaisesCovers by old new = Raises by (covers_of old) (covers_of new)
