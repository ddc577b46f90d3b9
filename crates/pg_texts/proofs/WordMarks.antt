-- The statuses of a word's positions mean its hyphens and cares.
use Rattle.std.proofs.Common.{◌≡◌, ℕ, ◌-◌, ◌<◌, nat_eq, Bool, true, false, length, map, Some, refl, sym, ap, ◌∙◌, arith, inl, inr}
use Rattle.std.specs.Prelude.{slice_index_or}
use Rattle.std.specs.List.{slice_get, list_any}
use Rattle.std.proofs.lemmas.Bool.{cases_Bool}
use Rattle.std.proofs.lemmas.Simd.{map-map}
use Rattle.std.proofs.lemmas.Option.{slice_get-get_or, get_or_from_slice_get}
use Rattle.pg_dict.specs.Inside.MarkedPositions.{sets_hyphen, keeps_care}
use Rattle.pg_dict.specs.Word.{Word}
use Rattle.pg_dict.specs.Inside.SoundWords.{IsWord}
use Rattle.pg_dict.specs.Inside.WrittenWords.{AreMarksOf}
use Rattle.pg_select.specs.Statuses.{status, is_odd}
use Rattle.pg_translate.specs.Alphabets.{Alphabet}
use Rattle.pg_patterns.specs.Values.{Patterns, value_at}
use Rattle.pg_translate.specs.Reach.{positions}
use Rattle.pg_texts.specs.PattmpTexts.{statuses}
use Rattle.pg_texts.proofs.Ranges.{same_map_over_range}
use Rattle.pg_texts.proofs.WordItems.{inner_positions, between}

-- a status tells the care, and where there is care the hyphen
status_care : (hyphen care : Bool) (value : ℕ) → keeps_care (status hyphen care value) ≡ care
status_care hyphen false value = refl
status_care true true value = elim (cases_Bool (is_odd value)) [ inl odd ↦ rw odd refl | inr even ↦ rw even refl ]
status_care false true value = elim (cases_Bool (is_odd value)) [ inl odd ↦ rw odd refl | inr even ↦ rw even refl ]

status_hyphen : (hyphen care : Bool) (value : ℕ) → (care ≡ false → hyphen ≡ false) → sets_hyphen (status hyphen care value) ≡ hyphen
status_hyphen hyphen false value decided = sym (decided refl)
status_hyphen true true value decided = elim (cases_Bool (is_odd value)) [ inl odd ↦ rw odd refl | inr even ↦ rw even refl ]
status_hyphen false true value decided = elim (cases_Bool (is_odd value)) [ inl odd ↦ rw odd refl | inr even ↦ rw even refl ]

-- whether a position of a word is in reach
abbrev is_in_reach : Alphabet → Word → ℕ → Bool
is_in_reach t w p = list_any (nat_eq p) (positions t.left t.right (length w.signs))

-- the same of a position, in reach or not
position_care : (t : Alphabet) (P : Patterns) (w : Word) (p : ℕ) → keeps_care (statuses t P w p) ≡ slice_index_or w.cares p true
position_care t P w p = elim (cases_Bool (is_in_reach t w p)) [
  | inl inside ↦ rw inside (status_care (slice_index_or w.hyphens p false) (slice_index_or w.cares p true) (value_at P w.signs p))
  | inr outside ↦ rw outside (status_care (slice_index_or w.hyphens p false) (slice_index_or w.cares p true) 0)
]

-- a position without care has no hyphen
no_hyphen : (w : Word) (p : ℕ) → IsWord w → p < length w.signs → slice_index_or w.cares p true ≡ false → slice_index_or w.hyphens p false ≡ false
no_hyphen w p word inside none =
    let there : slice_get w.cares p ≡ Some false = slice_get-get_or w.cares p true (omega (arith, word.cares_len)) ∙ ap Some none in
    get_or_from_slice_get w.hyphens p false false (word.disputed p there)

position_hyphen : (t : Alphabet) (P : Patterns) (w : Word) (p : ℕ) → IsWord w → p < length w.signs → sets_hyphen (statuses t P w p) ≡ slice_index_or w.hyphens p false
position_hyphen t P w p word inside = elim (cases_Bool (is_in_reach t w p)) [
  | inl here ↦ rw here (status_hyphen (slice_index_or w.hyphens p false) (slice_index_or w.cares p true) (value_at P w.signs p) (no_hyphen w p word inside))
  | inr outside ↦ rw outside (status_hyphen (slice_index_or w.hyphens p false) (slice_index_or w.cares p true) 0 (no_hyphen w p word inside))
]

-- so the marks of a line are those of its word
pub statuses_are_marks : (t : Alphabet) (P : Patterns) (w : Word) → IsWord w → AreMarksOf w (map (statuses t P w) (inner_positions w))
statuses_are_marks t P w word = record {
  hyphens =
      map-map sets_hyphen (statuses t P w) (inner_positions w)
      ∙ same_map_over_range (λ p. sets_hyphen (statuses t P w p)) (λ p. slice_index_or w.hyphens p false) 2 (length w.signs - 3) (λ p low high. position_hyphen t P w p word (omega (arith, word.long)))
      ∙ sym (between false w.hyphens (length w.signs) word.hyphens_len word.long);
  cares =
      map-map keeps_care (statuses t P w) (inner_positions w)
      ∙ same_map_over_range (λ p. keeps_care (statuses t P w p)) (λ p. slice_index_or w.cares p true) 2 (length w.signs - 3) (λ p low high. position_care t P w p)
      ∙ sym (between true w.cares (length w.signs) word.cares_len word.long);
}
