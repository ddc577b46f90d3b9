-- The row of cells of a table, while it is filled string by string.
use Rattle.std.specs.Prelude.{◌≡◌, ℕ, ◌+◌, ◌<◌, ◌≤◌, ◌⊎◌, List, [], ◌∷◌, length, take, get_or, Some}
use Rattle.std.specs.Ordering.{nat_cmp}
use Rattle.std.specs.Cmp.Lexicographic.{slice_cmp}
use Rattle.std.specs.FinMap.{find}
use Rattle.pg_types.specs.Placement.{top}
use Rattle.pg_types.specs.Inside.Placing.{cell_of}
use Rattle.pg_cells.specs.Inside.linked.ValuedFamilies.{ValuedFamilies}
use Rattle.pg_table.specs.declared.parts.cell.Cell.{Cell}
use Rattle.pg_table.specs.Inside.text.Files.{cell_of_table}
use Rattle.pg_table.specs.Inside.text.Cells.{unused_cell}

-- the values are the heads of the strings
pub record HasHeads (h : ValuedFamilies ℕ) (heads : List ℕ → ℕ) : Type 0 where
  pub each : (q : List ℕ) (v : ℕ) → find (slice_cmp nat_cmp) q h.values ≡ Some v → v ≡ heads q

-- each cell is still unused, or as it is in the table
pub record IsPartRow (h : ValuedFamilies ℕ) (heads : List ℕ → ℕ) (row : List Cell) : Type 0 where
  pub size : length row ≡ top h.families + 1
  pub each : (at : ℕ) → at < top h.families + 1
      → (get_or row at unused_cell ≡ unused_cell) ⊎
      (get_or row at unused_cell ≡ cell_of_table h.families heads at)

-- the cell of the string is as it is in the table
abbrev pub HasCell : ValuedFamilies ℕ → (List ℕ → ℕ) → List Cell → List ℕ → Type 0
HasCell h heads row q = (c : ℕ) → cell_of h.families q ≡ Some c
    → get_or row c unused_cell ≡ cell_of_table h.families heads c

-- the cells of the first n fronts of q are filled in, and all that were before still are
pub record Fills (h : ValuedFamilies ℕ) (heads : List ℕ → ℕ)
    (q : List ℕ) (n : ℕ) (old new : List Cell) : Type 0 where
  pub row : IsPartRow h heads new
  pub keeps : (r : List ℕ) → HasCell h heads old r → HasCell h heads new r
  pub fronts : (k : ℕ) → k ≤ n → HasCell h heads new (take k q)

-- the cells of the strings of one sign are filled in, up to the sign n
pub record FillsSigns (h : ValuedFamilies ℕ) (heads : List ℕ → ℕ)
    (n : ℕ) (new : List Cell) : Type 0 where
  pub row : IsPartRow h heads new
  pub each : (s : ℕ) → 1 ≤ s → s ≤ n → HasCell h heads new (s ∷ [])
