-- The starts of all words, and what is known of them.
use Rattle.std.proofs.Common.{◌≡◌, ℕ, ◌+◌, ◌<◌, ◌≤◌, List, [], ◌∷◌, ◌++◌, length, drop, get_or, slice_get, Option, Some, sym, ap, ◌∙◌, arith, append_assoc, All}
use Rattle.std.specs.List.{range_with_len}
use Rattle.std.specs.Option.{option_map_or}
use Rattle.std.proofs.lemmas.List.FromFn.{map-range_with_len_more, get_or-range_with_len, length-range_with_len}
use Rattle.std.proofs.lemmas.List.Elements.{All-map}
use Rattle.pg_types.specs.declared.limits.TheConstants.{FILE_MAX}
use Rattle.pg_translate.specs.Alphabets.{Alphabet}
use Rattle.pg_dict.specs.Word.{Word}
use Rattle.pg_dict.proofs.WordStore.Parts.{drop_word}
use Rattle.pg_prune.specs.declared.positions.trail.Start.{Start}
use Rattle.pg_prune.specs.Inside.positions.Trails.{signs_of_word, reach_count, start_at, starts_in, starts_from, IsStart}

-- a sign of a word more
pub start_more : (first : List Start) (word before at : ℕ) → (first ++ starts_in word before at) ++ start_at word before at ∷ [] ≡ first ++ starts_in word before (at + 1)
start_more first word before at =
    append_assoc first (starts_in word before at) (start_at word before at ∷ [])
    ∙ ap (λ xs. first ++ xs) (sym (map-range_with_len_more (start_at word before) 0 at at (omega arith)))

-- a word more
pub word_more : (m : Alphabet) (ws : List Word) (word before : ℕ) (done total : List Start) (w : Word) → slice_get ws word ≡ Some w → done
    ++ starts_from m word before (drop word ws) ≡ total → (done ++ starts_in word before (length w.signs))
    ++ starts_from m (word + 1) (before + reach_count m (length w.signs)) (drop (word + 1) ws) ≡ total
word_more m ws word before done total w at whole =
    append_assoc done (starts_in word before (length w.signs)) (starts_from m (word + 1) (before + reach_count m (length w.signs)) (drop (word + 1) ws))
    ∙ ap (λ us. done ++ starts_from m word before us) (sym (drop_word ws word w at))
    ∙ whole

-- the signs of a word that is there
pub signs_at : (ws : List Word) (word : ℕ) (w : Word) → slice_get ws word ≡ Some w → signs_of_word ws word ≡ w.signs
signs_at ws word w at = ap (λ (o : Option Word). option_map_or (λ (x : Word). x.signs) o []) at

-- what is known of the starts in a word
pub known_in : (ws : List Word) (word before : ℕ) (w : Word) → slice_get ws word ≡ Some w → word < length ws → before ≤ FILE_MAX → All (IsStart ws) (starts_in word before (length w.signs))
known_in ws word before w at within few =
    All-map (IsStart ws) (start_at word before) (range_with_len 0 (length w.signs))
    (λ k d below.
    let size : length (range_with_len 0 (length w.signs)) ≡ length w.signs = length-range_with_len 0 (length w.signs) in
    let inside : k < length w.signs = omega arith in
    let own : get_or (range_with_len 0 (length w.signs)) k d ≡ 0 + k = get_or-range_with_len 0 (length w.signs) k d inside in
    let signs : length (signs_of_word ws word) ≡ length w.signs = ap (λ (s : List ℕ). length s) (signs_at ws word w at) in
    record { word = within; before = few; at = omega arith })
