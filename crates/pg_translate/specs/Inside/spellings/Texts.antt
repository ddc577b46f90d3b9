-- The bytes of a spelling in a room of fixed size.
use Rattle.std.specs.Prelude.{ℕ, List, take}
use Rattle.pg_translate.specs.declared.spellings.Text.{Text}

-- the bytes of a text
abbrev pub text_of : Text → List ℕ
text_of text = take text.size text.bytes
