-- The lines of a dictionary that are read one after the other give what all of them give.
use Rattle.std.proofs.Common.{◌≡◌, ℕ, ◌+◌, List, [], ◌∷◌, map, Option, Some, None, Result, refl, sym, ap, ap₂, ◌∙◌}
use Rattle.std.specs.Prelude.{slice_get}
use Rattle.std.specs.Option.{option_to_list}
use Rattle.pg_types.specs.declared.refusals.Refusal.{Refusal}
use Rattle.pg_types.specs.ValuesOrRefusals.{unless}
use Rattle.pg_types.specs.Inside.reading.Parts.{both_parts}
use Rattle.pg_translate.specs.declared.items.Place.TheVariants.{Dictionary}
use Rattle.pg_translate.specs.Alphabets.{Alphabet}
use Rattle.pg_translate.specs.Tokens.{Token}
use Rattle.pg_translate.specs.Inside.items.Cuts.{cut}
use Rattle.pg_translate.specs.Gaps.{signs_of}
use Rattle.pg_translate.specs.Inside.items.Refusing.{cut_refusal}
use Rattle.pg_translate.specs.LineRefusals.{of_lines}
use Rattle.pg_translate.specs.Inside.tables.Rules.{KeepsRules}
use Rattle.pg_translate.proofs.ManyLines.{refusals_from, line_tokens, line_before, of_lines_as}
use Rattle.pg_dict.specs.Word.{Word}
use Rattle.pg_dict.specs.DictionaryWords.{word_of_items, line_words}
use Rattle.pg_dict.specs.Inside.LineWords.{word_weight, LineWord, word_if, line_word, on_line, words_from}

-- what follows a line
on_unless : (refusal : Option Refusal) (l : LineWord) (more : LineWord → Result (List Word) Refusal) → on_line more (unless refusal l) ≡ both_parts (unless refusal (option_to_list l.word)) (more l)
on_unless None l more = refl
on_unless (Some r) l more = refl

-- one word of a line that has letters, and none of a line without
abbrev words_if : List ℕ → Word → List Word
words_if signs word = elim signs [ [] ↦ [] | sign ∷ others ↦ word ∷ [] ]

-- the word of a line
word_as : (signs : List ℕ) (word : Word) → option_to_list (word_if signs word) ≡ words_if signs word
word_as [] word = refl
word_as (sign ∷ signs) word = refl

-- the words of lines, the first of which has this number
lines_as : (t : Alphabet) (line weight : ℕ) (texts : List (List ℕ)) → words_from t line weight texts
    ≡ unless (slice_get (refusals_from t Dictionary line texts) 0) (line_words weight (map (line_tokens t Dictionary) texts))
lines_as t line weight [] = refl
lines_as t line weight (text ∷ texts) =
    let refusal : Option Refusal = cut_refusal Dictionary line (cut t Dictionary text) in
    let items : List Token = line_tokens t Dictionary text in
    let own : ℕ = word_weight weight items in
    let word : Word = word_of_items own items in
    on_unless refusal (line_word weight items) (λ (l : LineWord). words_from t (line + 1) l.weight texts)
    ∙ ap₂ both_parts (ap (unless refusal) (word_as (signs_of items) word)) (lines_as t (line + 1) own texts)
    ∙ line_before refusal (refusals_from t Dictionary (line + 1) texts) (words_if (signs_of items) word) (line_words own (map (line_tokens t Dictionary) texts))

-- the words of all lines
pub of_lines_words : (t : Alphabet) → KeepsRules t → (texts : List (List ℕ)) → words_from t 1 1 texts ≡ of_lines (line_words 1) t Dictionary texts
of_lines_words t rules texts = lines_as t 1 1 texts ∙ sym (of_lines_as (line_words 1) t rules Dictionary texts)
