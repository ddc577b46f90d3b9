-- What is wrong with a refused head or spelling of a translate file.
use Rattle.std.specs.Prelude.{◌≡◌, ℕ, ◌+◌, ◌-◌, ◌<◌, ◌≤◌, ◌==◌, true, false, List, length, take, slice_index, option_map, position}
use Rattle.std.specs.List.{list_any}
use Rattle.pg_types.specs.declared.marks.Mark.{Mark}
use Rattle.pg_types.specs.declared.marks.Mark.TheVariants.{Nothing, Error, Missed, Found, DontCare}
use Rattle.pg_types.specs.declared.refusals.Refusal.{Refusal}
use Rattle.pg_types.specs.declared.refusals.Kind.TheVariants.{BadMinima, BadMark}
use Rattle.pg_types.specs.ValuesOrRefusals.{refusal_at}
use Rattle.pg_translate.specs.declared.spellings.TheConstants.{SPELLING_MAX}
use Rattle.pg_translate.specs.declared.reasons.BadMark.{BadMark as WrongMark}
use Rattle.pg_translate.specs.declared.reasons.BadHead.{BadHead}
use Rattle.pg_translate.specs.declared.reasons.BadHead.TheVariants as bad
use Rattle.pg_translate.specs.declared.reasons.BadSpelling.{BadSpelling}
use Rattle.pg_translate.specs.declared.reasons.BadSpelling.TheVariants as fault
use Rattle.pg_translate.specs.Spellings.{is_space}
use Rattle.pg_translate.specs.Inside.tables.Checks.{pair_at, is_blank_pair, marks_of}

-- the column in which the head has the byte of a mark; a position that is nothing has none
abbrev pub mark_column : Mark → ℕ
mark_column Nothing = 0
mark_column Error = 5
mark_column Missed = 6
mark_column Found = 7
mark_column DontCare = 8

-- the refusal of a mark
abbrev pub mark_refusal : WrongMark → Refusal
mark_refusal m = refusal_at 1 BadMark (mark_column m.mark)

-- the refusal of a head, by what is wrong with it
abbrev pub head_refusal : BadHead → Refusal
head_refusal (bad.Left is_blank) = refusal_at 1 BadMinima 1
head_refusal (bad.Right is_blank) = refusal_at 1 BadMinima 3
head_refusal (bad.Mark m) = mark_refusal m

-- a byte is one of these marks, and equals the one in the column, or none before it
abbrev pub IsMarkIn : List ℕ → WrongMark → Type 0
IsMarkIn marks m = let before = take (mark_column m.mark - 5) marks in
    (m.byte ≡ slice_index marks (mark_column m.mark - 5))
    × (m.same ≡ option_map (λ i. i + 5) (position (λ b. b == m.byte) before))

-- what is said of a head is so: that a minimum is blank, or of its mark
abbrev pub IsHeadFault : List ℕ → BadHead → Type 0
IsHeadFault head (bad.Left is_blank) = is_blank ≡ is_blank_pair (pair_at head 1)
IsHeadFault head (bad.Right is_blank) = is_blank ≡ is_blank_pair (pair_at head 3)
IsHeadFault head (bad.Mark m) = IsMarkIn (marks_of head) m

-- what is said of a text is so: it is too long, else it holds a blank or the like, else how it begins
abbrev pub IsSpellingFault : List ℕ → BadSpelling → Type 0
IsSpellingFault text fault.TooLong = SPELLING_MAX < length text
IsSpellingFault text (fault.Holds b) = (length text ≤ SPELLING_MAX)
    × (list_any is_space text ≡ true) × (is_space b ≡ true)
IsSpellingFault text (fault.Begins b) = (length text ≤ SPELLING_MAX)
    × (list_any is_space text ≡ false) × (slice_index text 0 ≡ b)
