-- The words of a dictionary file.
use Rattle.std.specs.Prelude.{ℕ, ◌-◌, nat_lt, true, false, if◌then◌else◌, List, [], ◌∷◌, ◌++◌, length, map, slice_range, slice_index_or, Result, Err}
use Rattle.pg_types.specs.declared.limits.TheConstants.{EDGE, FILE_MAX}
use Rattle.pg_types.specs.declared.marks.Mark.TheVariants.{Missed, Found, DontCare}
use Rattle.pg_types.specs.declared.refusals.Kind.TheVariants.{DictionaryTooLong}
use Rattle.pg_types.specs.declared.refusals.Refusal.{Refusal}
use Rattle.pg_types.specs.Lines.{lines}
use Rattle.pg_types.specs.ValuesOrRefusals.{refusal_at}
use Rattle.pg_translate.specs.declared.items.Place.TheVariants.{Dictionary}
use Rattle.pg_translate.specs.Alphabets.{Alphabet}
use Rattle.pg_translate.specs.Tokens.{Token}
use Rattle.pg_translate.specs.Gaps.{signs_of, gaps, last_number, last_mark}
use Rattle.pg_translate.specs.LineRefusals.{of_lines}
use Rattle.pg_dict.specs.Word.{Word}

-- the gaps at the positions of a word: none at the first two and the last, and at the others what
-- stands between their two signs
abbrev pub position_gaps : List Token → List (List Token)
position_gaps items = [] ∷ [] ∷ (slice_range (gaps items) 1 (length (gaps items) - 1) ++ [] ∷ [])

-- the word of a line: its letters between two edges. A position has the last mark of its gap, and
-- its last number or else the word weight: missed and found are a hyphen, and don't-care no care
abbrev pub word_of_items : ℕ → List Token → Word
word_of_items weight items = let gs = position_gaps items in record {
  signs = EDGE ∷ (signs_of items ++ EDGE ∷ []);
  hyphens = map (λ gap. elim (last_mark gap) [ Missed ↦ true | Found ↦ true | other ↦ false ]) gs;
  weights = map (last_number weight) gs;
  cares = map (λ gap. elim (last_mark gap) [ DontCare ↦ false | other ↦ true ]) gs;
  weight = weight;
}

-- the words of lines below a line with this word weight, one of each line that has letters. The
-- weight of a line is the last number before its first letter, else that of the line before
abbrev pub line_words : ℕ → List (List Token) → List Word
line_words before [] = []
line_words before (line ∷ ls) = let weight = last_number before (slice_index_or (gaps line) 0 []) in
    elim (signs_of line) [ [] ↦ [] | sign ∷ signs ↦ word_of_items weight line ∷ [] ]
    ++ line_words weight ls

-- the words of a dictionary file, or its first refusal
abbrev pub words : Alphabet → List ℕ → Result (List Word) Refusal
words t bytes = if nat_lt FILE_MAX (length bytes) then Err (refusal_at 0 DictionaryTooLong 0)
    else of_lines (line_words 1) t Dictionary (lines bytes)
