-- The hyphenated list is a dictionary file of its words.
use Rattle.std.proofs.Common.{◌≡◌, ℕ, ◌+◌, ◌≤◌, List, [], ◌∷◌, length, map, Some, Ok, refl, sym, ap, ◌∙◌, arith, inl, inr}
use Rattle.std.specs.Prelude.{All}
use Rattle.std.specs.List.{AllByRecursion}
use Rattle.std.proofs.lemmas.Bool.{cases_Bool}
use Rattle.std.proofs.lemmas.List.Elements.{All-head, All-tail}
use Rattle.pg_types.specs.declared.limits.TheConstants.{FILE_MAX, WORD_LETTERS_MAX}
use Rattle.pg_types.specs.declared.marks.Mark.{Mark}
use Rattle.pg_translate.specs.Alphabets.{Alphabet, letters_of}
use Rattle.pg_translate.specs.Tokens.{Token}
use Rattle.pg_translate.specs.Inside.items.Items.{text_of_items}
use Rattle.pg_dict.specs.Word.{Word}
use Rattle.pg_dict.specs.Inside.SoundWords.{IsWord, SignsAtMost}
use Rattle.pg_dict.specs.DictionaryWords.{words}
use Rattle.pg_dict.specs.Inside.LineWords.{line_reading, line_word}
use Rattle.pg_dict.specs.Inside.WrittenWords.{AreMarksOf, word_tokens, letters_among, IsLine, text_of_lines, LinesGive}
use Rattle.pg_patterns.specs.Values.{Patterns}
use Rattle.pg_texts.specs.PattmpTexts.{is_taking_part, statuses, lines_behind, pattmp_text}
use Rattle.pg_texts.specs.Inside.ReadBack.{words_taking_part}
use Rattle.pg_texts.proofs.WordItems.{IsDictionaryItem, SpellsLetters, inner_positions, word_items, word_items_tokens, word_items_joined, word_items_each, word_items_few}
use Rattle.pg_texts.proofs.WordMarks.{statuses_are_marks}

-- the laws of items, of lines and of files
pub record Laws (t : Alphabet) : Type 0 where
  pub spelled : SpellsLetters t
  pub items_lines : (items : List (Token × List ℕ)) → AllByRecursion (IsDictionaryItem t) items → IsLine (text_of_items items)
  pub words_read : (before : ℕ) (w : Word) (marks : List Mark) → IsWord w → AreMarksOf w marks → line_word before (word_tokens before marks w) ≡ record { word = Some w; weight = w.weight }
  pub lines_read : (line weight : ℕ) (items : List (Token × List ℕ)) → AllByRecursion (IsDictionaryItem t) items → letters_among (map (λ item. item.0) items) ≤ WORD_LETTERS_MAX
      → line_reading t line weight (text_of_items items) ≡ Ok (line_word weight (map (λ item. item.0) items))
  pub files_read : (texts : List (List ℕ)) (all : List Word) → AllByRecursion IsLine texts → LinesGive t 1 texts all → length (text_of_lines texts) ≤ FILE_MAX → words t (text_of_lines texts) ≡ Ok all

-- the items of the line of a word, which is behind a line with this word weight
abbrev line_items : Alphabet → Patterns → ℕ → Word → List (Token × List ℕ)
line_items t P before w = word_items t before (statuses t P w) w

-- the lines of words, without their ends
abbrev texts_behind : Alphabet → Patterns → ℕ → List Word → List (List ℕ)
texts_behind t P before [] = []
texts_behind t P before (w ∷ ws) = text_of_items (line_items t P before w) ∷ texts_behind t P w.weight ws

-- a word of a dictionary under this table
record IsKnown (t : Alphabet) (w : Word) : Type 0 where
  word : IsWord w
  signs : All (λ s. s ≤ letters_of t + 1) w.signs

-- the line of a word is read as the word
line_read : (t : Alphabet) → Laws t → (P : Patterns) (before line : ℕ) (w : Word) → IsKnown t w → line_reading t line before (text_of_items (line_items t P before w))
    ≡ Ok (record { word = Some w; weight = w.weight })
line_read t laws P before line w known =
    let tokens : map (λ item. item.0) (line_items t P before w) ≡ word_tokens before (map (statuses t P w) (inner_positions w)) w = word_items_tokens t before (statuses t P w) w known.word in
    let few : letters_among (map (λ item. item.0) (line_items t P before w)) ≤ WORD_LETTERS_MAX = rw tokens (word_items_few before (statuses t P w) w known.word) in
    laws.lines_read line before (line_items t P before w) (word_items_each t before (statuses t P w) w laws.spelled known.word known.signs) few
    ∙ ap (λ tokens. Ok (line_word before tokens)) tokens
    ∙ ap Ok (laws.words_read before w (map (statuses t P w) (inner_positions w)) known.word (statuses_are_marks t P w known.word))

lines_give : (t : Alphabet) → Laws t → (P : Patterns) (before : ℕ) (ws : List Word) → AllByRecursion (IsKnown t) ws → LinesGive t before (texts_behind t P before ws) ws
lines_give t laws P before [] known = tt
lines_give t laws P before (w ∷ ws) known = (λ line. line_read t laws P before line w known.0, lines_give t laws P w.weight ws known.1)

-- each text is a line
lines_are : (t : Alphabet) → Laws t → (P : Patterns) (before : ℕ) (ws : List Word) → AllByRecursion (IsKnown t) ws → AllByRecursion IsLine (texts_behind t P before ws)
lines_are t laws P before [] known = tt
lines_are t laws P before (w ∷ ws) known = (
  laws.items_lines (line_items t P before w) (word_items_each t before (statuses t P w) w laws.spelled known.0.word known.0.signs),
  lines_are t laws P w.weight ws known.1,
)

-- the lines with their ends are the list
texts_joined : (t : Alphabet) (P : Patterns) (before : ℕ) (ws : List Word) → AllByRecursion (IsKnown t) ws → text_of_lines (texts_behind t P before ws) ≡ lines_behind t P before ws
texts_joined t P before [] known = refl
texts_joined t P before (w ∷ ws) known =
    rw (word_items_joined t before (statuses t P w) w known.0.word.long, texts_joined t P w.weight ws known.1) refl

-- the words that take part are known as all words are
part_known : (t : Alphabet) (ws : List Word) → All IsWord ws → SignsAtMost (letters_of t + 1) ws → AllByRecursion (IsKnown t) (words_taking_part t ws)
part_known t [] all signs = tt
part_known t (w ∷ ws) all signs =
    let here : IsKnown t w = record { word = All-head IsWord w ws all; signs = All-head (λ (v : Word). All (λ s. s ≤ letters_of t + 1) v.signs) w ws signs } in
    let rest : AllByRecursion (IsKnown t) (words_taking_part t ws) = part_known t ws (All-tail IsWord w ws all) (All-tail (λ (v : Word). All (λ s. s ≤ letters_of t + 1) v.signs) w ws signs) in
    elim (cases_Bool (is_taking_part t w)) [ inl part ↦ rw part (here, rest) | inr out ↦ rw out rest ]

-- a list of at most 2^26 bytes is read as the words that take part
pub list_reads : (t : Alphabet) → Laws t → (P : Patterns) (ws : List Word) → All IsWord ws → SignsAtMost (letters_of t + 1) ws → length (pattmp_text t P ws) ≤ FILE_MAX
    → words t (pattmp_text t P ws) ≡ Ok (words_taking_part t ws)
list_reads t laws P ws all signs few =
    let known : AllByRecursion (IsKnown t) (words_taking_part t ws) = part_known t ws all signs in
    let whole : text_of_lines (texts_behind t P 1 (words_taking_part t ws)) ≡ pattmp_text t P ws = texts_joined t P 1 (words_taking_part t ws) known in
    let short : length (text_of_lines (texts_behind t P 1 (words_taking_part t ws))) ≤ FILE_MAX = omega (arith, ap length whole) in
    ap (words t) (sym whole) ∙ laws.files_read (texts_behind t P 1 (words_taking_part t ws)) (words_taking_part t ws) (lines_are t laws P 1 (words_taking_part t ws) known)
    (lines_give t laws P 1 (words_taking_part t ws) known) short
