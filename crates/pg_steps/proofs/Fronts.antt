-- The first bytes of a file, one more than a file may have, are read as the whole file is.
use Rattle.std.proofs.Common.{◌≡◌, ℕ, ◌+◌, ◌-◌, ◌<◌, ◌≤◌, nat_lt, true, false, cond, List, [], ◌∷◌, length, map, flat_map, take, Result, Err, sym, refl, ap, ◌∙◌, arith}
use Rattle.std.proofs.lemmas.Bool.{ltb-true, ltb-false, lt-ltb}
use Rattle.std.proofs.lemmas.List.{take_all, length-take-le}
use Rattle.std.specs.List.{onto_first}
use Rattle.pg_types.specs.declared.limits.TheConstants.{FILE_MAX, LEVEL_MAX}
use Rattle.pg_types.specs.declared.refusals.Refusal.{Refusal}
use Rattle.pg_types.specs.declared.refusals.Kind.TheVariants.{TranslateTooLong, ParametersTooLong, PatternsTooLong, DictionaryTooLong}
use Rattle.pg_types.specs.Lines.{lines, pieces_at, is_line_feed}
use Rattle.pg_types.specs.Inside.reading.LineEnds.{without_cr}
use Rattle.pg_types.specs.Parameters.{Parameters, parameters, items, number_then, levels_then, nothing_then}
use Rattle.pg_types.specs.ValuesOrRefusals.{refusal_at as refused_in}
use Rattle.pg_translate.specs.Alphabets.{Alphabet}
use Rattle.pg_translate.specs.declared.items.Place.TheVariants.{Dictionary, Patterns}
use Rattle.pg_translate.specs.LineRefusals.{of_lines}
use Rattle.pg_translate.specs.Tables.{table, table_of}
use Rattle.pg_dict.specs.DictionaryWords.{line_words, words}
use Rattle.pg_patterns.specs.Starts.{line_entries, start}
use Rattle.pg_patterns.specs.Values.{map_of_entries}

-- the first bytes of a text, one more than a number
abbrev first_bytes : ℕ → List ℕ → List ℕ
first_bytes n whole = take (n + 1) whole

-- a text that is longer than the number has first bytes that are longer, and any other is its first bytes
is_long : (n : ℕ) (whole : List ℕ) → nat_lt n (length whole) ≡ true → nat_lt n (length (first_bytes n whole)) ≡ true
is_long n whole e =
    let longer : n < length whole = ltb-true n (length whole) e in
    let size : length (first_bytes n whole) ≡ n + 1 = length-take-le (n + 1) whole (omega arith) in
    lt-ltb n (length (first_bytes n whole)) (omega arith)

is_whole : (n : ℕ) (whole : List ℕ) → nat_lt n (length whole) ≡ false → first_bytes n whole ≡ whole
is_whole n whole e =
    let shorter : length whole ≤ n = ltb-false n (length whole) e in
    take_all (n + 1) whole (omega arith)

-- a reader that refuses what is longer than the number tells no more from the whole than from its first bytes
pub limited : {Y : Type 0} (refusal : Y) (rest : List ℕ → Y) (n : ℕ) (whole : List ℕ) → cond (nat_lt n (length (first_bytes n whole))) refusal (rest (first_bytes n whole))
    ≡ cond (nat_lt n (length whole)) refusal (rest whole)
limited refusal rest n whole =
    elim (nat_lt n (length whole)) as (λ b. nat_lt n (length whole) ≡ b → cond (nat_lt n (length (first_bytes n whole))) refusal (rest (first_bytes n whole)) ≡ cond b refusal (rest whole)) [
      | true ↦ λ e. ap (λ b. cond b refusal (rest (first_bytes n whole))) (is_long n whole e)
      | false ↦ λ e. ap (λ text. cond (nat_lt n (length text)) refusal (rest text)) (is_whole n whole e) ∙ ap (λ b. cond b refusal (rest whole)) e
    ] refl

-- reading the first bytes of a file, one more than it may have, gives what reading the whole gives
abbrev pub IsReadUpTo : {Y : Type 0} → ℕ → (List ℕ → Result Y Refusal) → Type 0
IsReadUpTo n parse = (whole : List ℕ) → parse (take (n + 1) whole) ≡ parse whole

abbrev pub IsReadByFront : {Y : Type 0} → (List ℕ → Result Y Refusal) → Type 0
IsReadByFront parse = IsReadUpTo FILE_MAX parse

-- what is read of a file that is not too long
abbrev whole_file : List ℕ → Result Parameters Refusal
whole_file bytes = number_then 1 LEVEL_MAX (λ start. number_then 1 LEVEL_MAX (λ finish. levels_then (finish + 1 - start) (λ levels. nothing_then (record {
  start = start;
  finish = finish;
  levels = levels;
})))) 1 (items bytes)

pub parameters-front : IsReadByFront parameters
parameters-front whole = limited (Err (refused_in 0 ParametersTooLong 0)) whole_file FILE_MAX whole

pub words-front : (t : Alphabet) → IsReadByFront (words t)
words-front t whole = limited (Err (refused_in 0 DictionaryTooLong 0)) (λ bytes. of_lines (line_words 1) t Dictionary (lines bytes)) FILE_MAX whole

pub start-front : (t : Alphabet) → IsReadByFront (start t)
start-front t whole = limited (Err (refused_in 0 PatternsTooLong 0))
    (λ bytes. of_lines (λ ls. map_of_entries (flat_map line_entries ls)) t Patterns (lines bytes)) FILE_MAX whole

-- a text that has a byte has a piece
onto_first_filled : (b : ℕ) (pieces : List (List ℕ)) → (first : List ℕ) × (later : List (List ℕ)) × (onto_first b pieces ≡ first ∷ later)
onto_first_filled b [] = (b ∷ [], [], refl)
onto_first_filled b (piece ∷ pieces) = (b ∷ piece, pieces, refl)

pieces_filled : (b : ℕ) (bs : List ℕ) → (first : List ℕ) × (later : List (List ℕ)) × (pieces_at is_line_feed (b ∷ bs) ≡ first ∷ later)
pieces_filled b bs =
    elim (is_line_feed b) as (λ ends. (first : List ℕ) × (later : List (List ℕ)) × (cond ends ([] ∷ pieces_at is_line_feed bs) (onto_first b (pieces_at is_line_feed bs)) ≡ first ∷ later)) [
      | true ↦ ([], pieces_at is_line_feed bs, refl)
      | false ↦ onto_first_filled b (pieces_at is_line_feed bs)
    ]

-- a translate file that is too long is refused before all else
too_long_by_pieces : (size : ℕ) (pieces : List (List ℕ)) (first : List ℕ) (later : List (List ℕ)) → pieces ≡ first ∷ later → nat_lt FILE_MAX size ≡ true
    → table_of size (map without_cr pieces) ≡ Err (record { kind = TranslateTooLong; line = 0; column = 0 })
too_long_by_pieces size pieces first later cut long = rw (cut, long) refl

table_too_long : (bytes : List ℕ) → nat_lt FILE_MAX (length bytes) ≡ true → table bytes ≡ Err (record { kind = TranslateTooLong; line = 0; column = 0 })
table_too_long [] long = cc
table_too_long (b ∷ bs) long =
    let cut : (first : List ℕ) × (later : List (List ℕ)) × (pieces_at is_line_feed (b ∷ bs) ≡ first ∷ later) = pieces_filled b bs in
    too_long_by_pieces (length (b ∷ bs)) (pieces_at is_line_feed (b ∷ bs)) cut.0 cut.1 cut.2 long

pub table-front : IsReadByFront table
table-front whole =
    elim (nat_lt FILE_MAX (length whole)) as (λ b. nat_lt FILE_MAX (length whole) ≡ b → table (take (FILE_MAX + 1) whole) ≡ table whole) [
      | true ↦ λ e. table_too_long (first_bytes FILE_MAX whole) (is_long FILE_MAX whole e) ∙ sym (table_too_long whole e)
      | false ↦ λ e. ap table (is_whole FILE_MAX whole e)
    ] refl
