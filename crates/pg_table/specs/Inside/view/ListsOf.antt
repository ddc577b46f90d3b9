-- The lists of a packed table.
use Rattle.std.specs.Prelude.{ℕ, List}
use Rattle.pg_outputs.specs.Lists.{list_of}
use Rattle.pg_table.specs.Forms.{records_of}

-- the list whose head is h
abbrev pub list_in : List ℕ → ℕ → List (ℕ × ℕ)
list_in b h = list_of (records_of b) h
