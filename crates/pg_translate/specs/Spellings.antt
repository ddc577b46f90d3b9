-- What a spelling may be, and when two spellings clash.
use Rattle.std.specs.Prelude.{ℕ, ◌==◌, nat_le, Bool, not, ◌&&◌, ◌||◌, List, length, slice_index, nat_eq}
use Rattle.std.specs.Char.{is_ascii_digit}
use Rattle.std.specs.List.{list_any, starts_with}
use Rattle.pg_types.specs.Lines.{has_byte}
use Rattle.pg_translate.specs.declared.spellings.TheConstants.{SPELLING_MAX}

-- whether a byte is a blank, a TAB, an LF or a CR, which no spelling holds and which is no mark
abbrev pub is_space : ℕ → Bool
is_space b = b == 32 || b == 9 || b == 10 || b == 13

-- whether a text may be a spelling beside these marks: it is not too long, has a byte and no space,
-- and begins with no digit, dot, `{` or mark
abbrev pub is_spelling : List ℕ → List ℕ → Bool
is_spelling marks text = nat_le (length text) SPELLING_MAX && (has_byte text
    && (let b = slice_index text 0 in not (is_ascii_digit b || b == 46 || b == 123
    || list_any (λ mark. mark == b) marks))) && not (list_any is_space text)

-- two spellings clash where one begins with the other, unless they are equal and of one letter
abbrev pub clash : ℕ × List ℕ → ℕ × List ℕ → Bool
clash s t = (starts_with nat_eq s.1 t.1 || starts_with nat_eq t.1 s.1)
    && not (s.0 == t.0 && length s.1 == length t.1)
