-- A line with a letter enters its word into a store.
use Rattle.std.proofs.Common.{◌≡◌, ℕ, ◌+◌, ◌-◌, ◌≤◌, List, [], ◌∷◌, ◌++◌, length, Option, None, Some, Ok, refl, sym, ◌∙◌, ap, arith, ◌<◌}
use Rattle.pg_types.specs.declared.limits.TheConstants.{EDGE, WEIGHT_MAX, WORD_LETTERS_MAX}
use Rattle.pg_types.specs.declared.marks.Mark.TheVariants.{Nothing}
use Rattle.pg_types.specs.declared.refusals.Refusal.{Refusal}
use Rattle.pg_types.specs.ValuesOrRefusals.{unless}
use Rattle.pg_translate.specs.Alphabets.{Alphabet}
use Rattle.pg_translate.specs.Inside.tables.Rules.{KeepsRules}
use Rattle.pg_translate.specs.Tokens.{Token, Letter}
use Rattle.pg_translate.specs.Inside.items.Cuts.{tokens_of}
use Rattle.pg_translate.specs.Inside.items.Rests.{cut_rest}
use Rattle.pg_dict.specs.declared.store.Store.{Store}
use Rattle.pg_dict.specs.Inside.Lines.PositionedSigns.{PositionedSign, positioned_sign, Columns, with_signs}
use Rattle.pg_dict.specs.Word.{Word}
use Rattle.pg_dict.specs.Inside.SoundWords.{word_of_signs}
use Rattle.pg_translate.specs.Inside.items.Refusing.{refusal_with_room}
use Rattle.pg_translate.specs.declared.items.Place.TheVariants.{Dictionary}
use Rattle.pg_dict.specs.Inside.Lines.RunningWords.{running_word, signs_behind, word_signs}
use Rattle.pg_dict.specs.Inside.Lines.ReadColumns.{columns_after}
use Rattle.pg_dict.specs.Inside.Lines.LineStarts.{word_reading}
use Rattle.pg_dict.specs.Inside.Lines.Entries.{with_word}
use Rattle.pg_dict.specs.Inside.Store.{columns_of, stored_words, IsSound, IsFit}
use Rattle.pg_dict.proofs.LineReading.Takes.{add_spots-add}
use Rattle.pg_dict.proofs.WordStore.Adds.{length_signs, adds_words, adds_sound}
use Rattle.pg_dict.proofs.WordStore.Good.{fits_word}
use Rattle.pg_dict.proofs.LineReading.SoundItems.{items_sound}
use Rattle.pg_dict.proofs.WordStore.Told.{word_from}

-- what is not refused
pub unless_ok : {Y : Type 0} (refusal : Option Refusal) (y z : Y) → unless refusal y ≡ Ok z → (refusal ≡ None) × (y ≡ z)
unless_ok None y z is = (refl, cc)
unless_ok (Some r) y z is = cc

-- the items of the rest of a line
abbrev items_in : Alphabet → ℕ → List ℕ → List Token
items_in t size rest = tokens_of (cut_rest t Dictionary size rest)

-- the edge, the first letter and what is filled in behind them are the signs of the line's word
pub word_read : (t : Alphabet) (weight line size sign : ℕ) (rest : List ℕ) (before edge first after : Columns) → edge ≡ with_signs before (positioned_sign Nothing weight EDGE ∷ [])
    → first ≡ with_signs edge (positioned_sign Nothing weight sign ∷ []) → columns_after t weight line size Nothing weight (WORD_LETTERS_MAX - 1) first rest ≡ Ok after
    → (word_reading t line size weight sign rest ≡ Ok (record { word = Some (word_of_signs weight (word_signs weight sign (items_in t size rest))); weight = weight }))
    × (after ≡ with_signs before (word_signs weight sign (items_in t size rest)))
word_read t weight line size sign rest before edge first after is_edge is_first fills =
    let items : List Token = items_in t size rest in
    let positioned : List PositionedSign = signs_behind weight Nothing weight items in
    let p = unless_ok (refusal_with_room Dictionary line (WORD_LETTERS_MAX - 1) (cut_rest t Dictionary size rest)) (with_signs first positioned) after fills in (
      ap (λ (refusal : Option Refusal). unless refusal (running_word weight (Letter sign ∷ items))) p.0,
      sym p.1
          ∙ ap (λ (c : Columns). with_signs c positioned) is_first
          ∙ add_spots-add edge (positioned_sign Nothing weight sign) positioned
          ∙ ap (λ (c : Columns). with_signs c (positioned_sign Nothing weight sign ∷ positioned)) is_edge
          ∙ add_spots-add before (positioned_sign Nothing weight EDGE) (positioned_sign Nothing weight sign ∷ positioned),
    )

-- the word that is stored is the line's, and the store stays sound
pub enters : (t : Alphabet) → KeepsRules t → (weight line size sign n : ℕ) (rest : List ℕ) (s p q u : Store) (start end : ℕ) → IsSound s → columns_of p
    ≡ with_signs (columns_of s) (positioned_sign Nothing weight EDGE ∷ []) → columns_of q ≡ with_signs (columns_of p) (positioned_sign Nothing weight sign ∷ [])
    → columns_after t weight line size Nothing weight (WORD_LETTERS_MAX - 1) (columns_of q) rest ≡ Ok (columns_of u)
    → u.words.items ≡ s.words.items ++ record { start = start; end = end; weight = weight } ∷ [] → start ≡ length s.signs.items → end ≡ length u.signs.items
    → IsFit n u → length u.signs.items ≤ length q.signs.items + WORD_LETTERS_MAX → weight ≤ WEIGHT_MAX → EDGE < sign
    → (with_word (stored_words s) (word_reading t line size weight sign rest) ≡ Ok (record { words = stored_words u; weight = weight })) × IsSound u
enters t rules weight line size sign n rest s p q u start end sound is_edge is_first fills added from to fit short small letter =
    let items : List Token = items_in t size rest in
    let positioned : List PositionedSign = word_signs weight sign items in
    let r = word_read t weight line size sign rest (columns_of s) (columns_of p) (columns_of q) (columns_of u) is_edge is_first fills in
    let grown : columns_of u ≡ with_signs (columns_of s) positioned = r.1 in
    let size_u : length u.signs.items ≡ length s.signs.items + length positioned = length_signs s u positioned grown in
    let size_p : length p.signs.items ≡ length s.signs.items + 1 = length_signs s p (positioned_sign Nothing weight EDGE ∷ []) is_edge in
    let size_q : length q.signs.items ≡ length p.signs.items + 1 = length_signs p q (positioned_sign Nothing weight sign ∷ []) is_first in (
      ap (with_word (stored_words s)) r.0 ∙ ap (λ (words : List Word). Ok (record { words = words; weight = weight })) (sym (adds_words s u positioned start end weight sound grown added from to)),
      adds_sound s u positioned start end weight sound grown added from to
          (word_from _ (fits_word n s u weight sign items fit grown (omega arith) small letter (items_sound t rules (length rest) (size - length rest + 1) rest))),
    )
