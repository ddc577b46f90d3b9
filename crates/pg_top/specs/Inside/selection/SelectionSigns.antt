-- The signs of a selection's words and patterns.
use Rattle.std.specs.Prelude.{ℕ, ◌+◌}
use Rattle.pg_translate.specs.Alphabets.{letters_of}
use Rattle.pg_dict.specs.Inside.SoundWords.{SignsAtMost}
use Rattle.pg_patterns.specs.Inside.PatternMaps.{SignsUpTo}
use Rattle.pg_top.specs.declared.selection.Inputs.{Inputs}

-- the greatest sign
abbrev pub greatest_sign_of : Inputs → ℕ
greatest_sign_of i = letters_of i.table + 1

-- the words and the starting patterns have no sign above the greatest one of the table
pub record HasSigns (i : Inputs) : Type 0 where
  pub words : SignsAtMost (greatest_sign_of i) i.dictionary
  pub start : SignsUpTo (greatest_sign_of i) i.start
