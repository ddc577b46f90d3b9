-- The cell of a string in a packed table.
use Rattle.std.specs.Prelude.{ℕ, unwrap_or, List, [], ◌∷◌}
use Rattle.pg_types.specs.Placement.{Families, base_of}
use Rattle.pg_table.specs.declared.parts.cell.Cell.{Cell}

-- the last sign of a string
abbrev pub last_sign : List ℕ → ℕ
last_sign [] = 0
last_sign (s ∷ []) = s
last_sign (s ∷ t ∷ q) = last_sign (t ∷ q)

-- the cell of a string: its last sign, the base of the family below it, and the head of its list
abbrev pub cell_for : Families → (List ℕ → ℕ) → List ℕ → Cell
cell_for fs heads q =
    record { sign = last_sign q; child = unwrap_or (base_of fs q) 0; head = heads q }

-- a cell that no string has
abbrev pub unused_cell : Cell
unused_cell = record { sign = 0; child = 0; head = 0 }
