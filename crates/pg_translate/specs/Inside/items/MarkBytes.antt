-- The bytes of marks.
use Rattle.std.specs.Prelude.{ℕ, slice_index}
use Rattle.pg_types.specs.declared.marks.Mark.{Mark}
use Rattle.pg_types.specs.declared.marks.Mark.TheVariants.{Nothing, Error, Missed, Found, DontCare}
use Rattle.pg_translate.specs.Alphabets.{Alphabet}

-- the byte of a mark; a position that is nothing has none
abbrev pub mark_byte_of : Alphabet → Mark → ℕ
mark_byte_of t Nothing = 0
mark_byte_of t Error = slice_index t.marks 0
mark_byte_of t Missed = slice_index t.marks 1
mark_byte_of t Found = slice_index t.marks 2
mark_byte_of t DontCare = slice_index t.marks 3
