-- A line of items is cut into them, and a file of lines into those.
use Rattle.std.proofs.Common.{◌≡◌, ℕ, ◌+◌, ◌≤◌, Bool, cond, List, [], ◌∷◌, ◌++◌, length, map, Ok, refl, ◌∙◌, ap, arith, false, ◌-◌, take}
use Rattle.std.specs.List.{list_any, AllByRecursion}
use Rattle.std.proofs.lemmas.List.{append_assoc}
use Rattle.pg_types.specs.declared.limits.TheConstants.{FILE_MAX, WORD_LETTERS_MAX}
use Rattle.pg_types.specs.Lines.{lines}
use Rattle.pg_types.specs.Inside.reading.LineEnds.{without_cr}
use Rattle.pg_types.specs.Inside.reading.Parts.{both_parts}
use Rattle.pg_translate.specs.Alphabets.{Alphabet}
use Rattle.pg_translate.specs.Tokens.{Token, Letter, Digit, Weight, Marked, Edge}
use Rattle.pg_translate.specs.Gaps.{signs_of}
use Rattle.pg_translate.specs.Inside.items.Items.{IsItem, text_of_items}
use Rattle.pg_translate.specs.Inside.tables.Rules.{KeepsRules}
use Rattle.pg_translate.specs.declared.items.Place.TheVariants.{Dictionary}
use Rattle.pg_translate.specs.Spellings.{is_space}
use Rattle.pg_translate.proofs.Unbroken.{joined_unbroken}
use Rattle.pg_translate.proofs.LineTexts.{pieces_of_line, unbroken_feed, unbroken_return}
use Rattle.pg_translate.proofs.JoinedItems as reads
use Rattle.pg_dict.specs.Word.{Word}
use Rattle.pg_dict.specs.DictionaryWords.{words}
use Rattle.pg_dict.specs.Inside.LineWords.{LineWord, line_word, line_reading, on_line, words_from}
use Rattle.pg_dict.specs.Inside.WrittenWords.{letters_among, IsLine, text_of_lines, LinesGive}
use Rattle.pg_dict.proofs.LineReading.Lines.{words_short}

-- the signs of the items of a dictionary are its letters
signs_are_letters : (t : Alphabet) (items : List (Token × List ℕ)) → AllByRecursion (λ (item : Token × List ℕ). IsItem t Dictionary item.0 item.1) items
    → length (signs_of (map (λ (item : Token × List ℕ). item.0) items)) ≡ letters_among (map (λ (item : Token × List ℕ). item.0) items)
signs_are_letters t [] each = refl
signs_are_letters t ((Letter s, text) ∷ items) each = let rest = signs_are_letters t items each.1 in omega (arith, rest)
signs_are_letters t ((Digit n, text) ∷ items) each = signs_are_letters t items each.1
signs_are_letters t ((Weight n, text) ∷ items) each = signs_are_letters t items each.1
signs_are_letters t ((Marked m, text) ∷ items) each = signs_are_letters t items each.1
signs_are_letters t ((Edge, text) ∷ items) each = absurd each.0

-- a line of items gives what the items give
pub line_is_read : (t : Alphabet) → KeepsRules t → (line weight : ℕ) (items : List (Token × List ℕ)) → AllByRecursion (λ (item : Token × List ℕ). IsItem t Dictionary item.0 item.1) items
    → letters_among (map (λ (item : Token × List ℕ). item.0) items) ≤ WORD_LETTERS_MAX → line_reading t line weight (text_of_items items)
    ≡ Ok (line_word weight (map (λ (item : Token × List ℕ). item.0) items))
line_is_read t rules line weight items each few =
    reads.line_is_read (line_word weight) t rules Dictionary line items each (omega (arith, few, signs_are_letters t items each))

-- the lines of a file of lines
pub lines_of_file : (texts : List (List ℕ)) → AllByRecursion IsLine texts → lines (text_of_lines texts) ≡ texts
lines_of_file [] each = refl
lines_of_file (text ∷ texts) each =
    let cut : text_of_lines (text ∷ texts) ≡ text ++ 10 ∷ text_of_lines texts = append_assoc text (10 ∷ []) (text_of_lines texts) in
    ap lines cut
    ∙ ap (map without_cr) (pieces_of_line text (text_of_lines texts) each.0.whole)
    ∙ ap (λ (line : List ℕ). line ∷ lines (text_of_lines texts)) each.0.ended
    ∙ ap (λ (rest : List (List ℕ)). text ∷ rest) (lines_of_file texts each.1)

-- lines that give words give them
pub words_of_lines : (t : Alphabet) (line weight : ℕ) (texts : List (List ℕ)) (ws : List Word) → LinesGive t weight texts ws → words_from t line weight texts ≡ Ok ws
words_of_lines t line weight [] [] give = refl
words_of_lines t line weight [] (w ∷ ws) give = absurd give
words_of_lines t line weight (text ∷ texts) [] give = absurd give
words_of_lines t line weight (text ∷ texts) (w ∷ ws) give =
    ap (on_line (λ (l : LineWord). words_from t (line + 1) l.weight texts)) (give.0 line) ∙ ap (both_parts (Ok (w ∷ []))) (words_of_lines t (line + 1) w.weight texts ws give.1)

-- so does a file of them
pub file_is_read : (t : Alphabet) → KeepsRules t → (texts : List (List ℕ)) (ws : List Word) → AllByRecursion IsLine texts → LinesGive t 1 texts ws → length (text_of_lines texts) ≤ FILE_MAX
    → words t (text_of_lines texts) ≡ Ok ws
file_is_read t rules texts ws each give short =
    words_short t rules (text_of_lines texts) short ∙ ap (words_from t 1 1) (lines_of_file texts each) ∙ words_of_lines t 1 1 texts ws give

-- a text of items is a line
pub items_line : (t : Alphabet) → KeepsRules t → (items : List (Token × List ℕ)) → AllByRecursion (λ (item : Token × List ℕ). IsItem t Dictionary item.0 item.1) items → IsLine (text_of_items items)
items_line t rules items each =
    let text : List ℕ = text_of_items items in
    let unbroken : list_any is_space text ≡ false = joined_unbroken t rules Dictionary items each in
    record { whole = unbroken_feed text unbroken; ended = ap (λ (test : Bool). cond test (take (length text - 1) text) text) (unbroken_return text (length text - 1) unbroken) }
