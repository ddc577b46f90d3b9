-- The marks of a word by a packed table.
use Rattle.std.specs.Prelude.{ℕ, List}
use Rattle.pg_types.specs.declared.marks.Mark.{Mark}
use Rattle.pg_translate.specs.Alphabets.{Alphabet}
use Rattle.pg_dict.specs.Word.{Word}
use Rattle.pg_select.specs.Statuses.{status_with}
use Rattle.pg_select.specs.Sums.{marks_by}
use Rattle.pg_table.specs.Lookups.{table_value}

-- the status of each position in reach of a word by the table, and its weight
abbrev pub table_marks : Alphabet → List ℕ → Word → List (Mark × ℕ)
table_marks m b w = marks_by m (λ p. status_with w p (table_value b w.signs p)) w
