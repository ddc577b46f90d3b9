-- A line more of a dictionary.
use Rattle.std.proofs.Common.{◌≡◌, ℕ, ◌+◌, ◌≤◌, map, length, List, [], ◌∷◌, ◌++◌, Result, Ok, Err, refl, sym, ◌∙◌, ap, subst, append_assoc}
use Rattle.std.specs.Option.{option_to_list}
use Rattle.std.specs.Result.{result_unwrap_or}
use Rattle.std.specs.List.{list_all, All}
use Rattle.std.proofs.lemmas.List.Elements.{All-nil}
use Rattle.std.proofs.lemmas.Bool.{le-ltb}
use Rattle.std.proofs.lemmas.List.{append-nil}
use Rattle.pg_types.specs.declared.refusals.Refusal.{Refusal}
use Rattle.pg_types.specs.declared.refusals.ReadingError.{ReadingError}
use Rattle.pg_types.specs.declared.refusals.ReadingError.TheVariants.{Refused, Memory}
use Rattle.pg_types.specs.Inside.reading.Parts.{both_parts}
use Rattle.pg_types.specs.Inside.reading.Answers.{Fails}
use Rattle.pg_translate.specs.Alphabets.{Alphabet}
use Rattle.pg_translate.specs.Inside.tables.Rules.{KeepsRules}
use Rattle.pg_types.specs.declared.limits.TheConstants.{FILE_MAX}
use Rattle.pg_types.specs.Lines.{lines}
use Rattle.pg_dict.specs.declared.store.Store.{Store}
use Rattle.pg_dict.specs.declared.store.StoredWord.{StoredWord}
use Rattle.pg_dict.specs.Inside.Lines.PositionedSigns.{Columns, no_columns}
use Rattle.pg_dict.specs.Inside.Store.{columns_of, word_at, stored_words, all_signs, all_weights, lies_within, is_sign_up_to, IsSound, IsFit}
use Rattle.pg_dict.specs.Word.{Word}
use Rattle.pg_dict.specs.Inside.SoundWords.{is_weight, IsWord}
use Rattle.pg_dict.specs.DictionaryWords.{words}
use Rattle.pg_dict.specs.Inside.LineWords.{LineWord, line_reading, on_line, words_from}
use Rattle.pg_dict.proofs.LineReading.ManyWords.{of_lines_words}
use Rattle.pg_dict.specs.Inside.Lines.Entries.{Entries, with_word}

-- words behind words behind words
pub both_parts-both_parts : (ws more : List Word) (rest : Result (List Word) Refusal) → both_parts (Ok ws) (both_parts (Ok more) rest) ≡ both_parts (Ok (ws ++ more)) rest
both_parts-both_parts ws more (Ok last) = ap (λ (words : List Word). Ok words) (sym (append_assoc ws more last))
both_parts-both_parts ws more (Err r) = refl

-- what follows a line that is read
pub line_read : (ws new : List Word) (weight : ℕ) (line : Result LineWord Refusal) (more : LineWord → Result (List Word) Refusal) (next : ℕ → Result (List Word) Refusal)
    → ((l : LineWord) → more l ≡ next l.weight) → with_word ws line ≡ Ok (record { words = new; weight = weight }) → both_parts (Ok new) (next weight) ≡ both_parts (Ok ws) (on_line more line)
line_read ws new weight (Ok l) more next same is =
    let words : ws ++ option_to_list l.word ≡ new = ap (λ (r : Result Entries Refusal). (result_unwrap_or r (record { words = new; weight = weight })).words) is in
    let weights : l.weight ≡ weight = ap (λ (r : Result Entries Refusal). (result_unwrap_or r (record { words = new; weight = weight })).weight) is in
    sym (ap (λ (r : Result (List Word) Refusal). both_parts (Ok ws) (both_parts (Ok (option_to_list l.word)) r)) (same l ∙ ap next weights)
    ∙ both_parts-both_parts ws (option_to_list l.word) (next weight) ∙ ap (λ (ws : List Word). both_parts (Ok ws) (next weight)) words)
line_read ws new weight (Err r) more next same is = cc

-- a line that is refused
pub line_refused : (e : ReadingError) (ws : List Word) (line : Result LineWord Refusal) (more : LineWord → Result (List Word) Refusal) → Fails e (with_word ws line)
    → Fails e (both_parts (Ok ws) (on_line more line))
line_refused (Refused r) ws (Ok l) more fails = cc
line_refused (Refused r) ws (Err s) more fails = cc
line_refused Memory ws line more fails = tt

-- the next line of a file
pub next_read : (t : Alphabet) (line weight next : ℕ) (text : List ℕ) (below all : List (List ℕ)) (ws new : List Word) → all ≡ text ∷ below
    → with_word ws (line_reading t line weight text) ≡ Ok (record { words = new; weight = next }) → both_parts (Ok new) (words_from t (line + 1) next below)
    ≡ both_parts (Ok ws) (words_from t line weight all)
next_read t line weight next text below all ws new is read =
    line_read ws new next (line_reading t line weight text) (λ (l : LineWord). words_from t (line + 1) l.weight below) (λ (weight : ℕ). words_from t (line + 1) weight below) (λ _. refl) read
    ∙ ap (λ (all : List (List ℕ)). both_parts (Ok ws) (words_from t line weight all)) (sym is)

pub next_refused : (e : ReadingError) (t : Alphabet) (line weight : ℕ) (text : List ℕ) (below all : List (List ℕ)) (ws : List Word) (whole : Result (List Word) Refusal)
    → all ≡ text ∷ below → both_parts (Ok ws) (words_from t line weight all) ≡ whole → Fails e (with_word ws (line_reading t line weight text)) → Fails e whole
next_refused e t line weight text below all ws whole is so fails =
    let r : Fails e (both_parts (Ok ws) (words_from t line weight (text ∷ below))) =
    line_refused e ws (line_reading t line weight text) (λ (l : LineWord). words_from t (line + 1) l.weight below) fails in
    let F : Result (List Word) Refusal → Type 0 = λ reading. Fails e reading in
    subst F (ap (λ (all : List (List ℕ)). both_parts (Ok ws) (words_from t line weight all)) (sym is) ∙ so) r

-- no line is left
pub all_read : (t : Alphabet) (line weight : ℕ) (left : List (List ℕ)) (ws : List Word) → left ≡ [] → both_parts (Ok ws) (words_from t line weight left) ≡ Ok ws
all_read t line weight left ws is =
    ap (λ (left : List (List ℕ)). both_parts (Ok ws) (words_from t line weight left)) is ∙ ap (λ (words : List Word). Ok words) (append-nil ws)

-- nothing in front
pub with_nothing : (rest : Result (List Word) Refusal) → both_parts (Ok []) rest ≡ rest
with_nothing (Ok words) = refl
with_nothing (Err r) = refl

-- a file that is not too long
pub words_short : (t : Alphabet) → KeepsRules t → (bytes : List ℕ) → length bytes ≤ FILE_MAX → words t bytes ≡ words_from t 1 1 (lines bytes)
words_short t rules bytes short = rw (le-ltb FILE_MAX (length bytes) short) (sym (of_lines_words t rules (lines bytes)))

-- a store without a word
pub starts : (s : Store) (rest : Result (List Word) Refusal) → s.words.items ≡ [] → both_parts (Ok (stored_words s)) rest ≡ rest
starts s rest none = ap (λ (words : List StoredWord). both_parts (Ok (map (word_at (columns_of s)) words)) rest) none ∙ with_nothing rest

pub starts_sound : (s : Store) → columns_of s ≡ no_columns → s.words.items ≡ [] → IsSound s
starts_sound s columns none = record {
  hyphens_len = ap (λ (c : Columns). length c.hyphens) columns ∙ sym (ap (λ (c : Columns). length c.signs) columns);
  weights_len = ap (λ (c : Columns). length c.weights) columns ∙ sym (ap (λ (c : Columns). length c.signs) columns);
  cares_len = ap (λ (c : Columns). length c.cares) columns ∙ sym (ap (λ (c : Columns). length c.signs) columns);
  within = ap (list_all (lies_within (length s.signs.items))) none;
  signs_joined = ap (λ (c : Columns). c.signs) columns ∙ sym (ap (λ (words : List StoredWord). all_signs (map (word_at (columns_of s)) words)) none);
  weights_joined = ap (λ (c : Columns). c.weights) columns ∙ sym (ap (λ (words : List StoredWord). all_weights (map (word_at (columns_of s)) words)) none);
  words = subst (λ (words : List StoredWord). All IsWord (map (word_at (columns_of s)) words)) (sym none) (All-nil IsWord);
}

pub starts_fit : (n : ℕ) (s : Store) → columns_of s ≡ no_columns → IsFit n s
starts_fit n s columns = record {
  signs = ap (λ (c : Columns). list_all (is_sign_up_to n) c.signs) columns;
  weights = ap (λ (c : Columns). list_all is_weight c.weights) columns;
}
