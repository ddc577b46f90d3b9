-- What the last mark of a position says of it.
use Rattle.std.specs.Prelude.{Bool, true, false}
use Rattle.pg_types.specs.declared.marks.Mark.{Mark}
use Rattle.pg_types.specs.declared.marks.Mark.TheVariants.{Missed, Found, DontCare}

-- a position whose last mark is missed or found has a hyphen
abbrev pub sets_hyphen : Mark → Bool
sets_hyphen Missed = true
sets_hyphen Found = true
sets_hyphen mark = false

-- a position whose last mark is don't-care has no care
abbrev pub keeps_care : Mark → Bool
keeps_care DontCare = false
keeps_care mark = true
