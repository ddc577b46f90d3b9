-- What every word keeps, as tests that a reading passes.
use Rattle.std.proofs.Common.{ℕ, ◌+◌, ◌-◌, ◌==◌, nat_le, nat_lt, Bool, true, false, not, ◌&&◌, ◌||◌, List, [], ◌∷◌, length, slice_index, slice_index_or, slice_range}
use Rattle.std.specs.List.{list_all}
use Rattle.pg_types.specs.declared.limits.TheConstants.{EDGE, WORD_LETTERS_MAX}
use Rattle.pg_dict.specs.Word.{Word}
use Rattle.pg_dict.specs.Inside.SoundWords.{is_weight}

abbrev pub is_plain_at : Word → ℕ → Bool
is_plain_at w p = not (slice_index_or w.hyphens p true) && (slice_index_or w.weights p (w.weight + 1) == w.weight && slice_index_or w.cares p false)

-- no hyphen where there is no care
abbrev pub decides : List Bool → List Bool → Bool
decides [] cares = true
decides (hyphen ∷ hyphens) [] = true
decides (hyphen ∷ hyphens) (care ∷ cares) = (not hyphen || care) && decides hyphens cares

abbrev pub has_lengths : Word → Bool
has_lengths w = nat_le 3 (length w.signs) && (nat_le (length w.signs) (WORD_LETTERS_MAX + 2)
    && (length w.hyphens == length w.signs && (length w.weights == length w.signs && length w.cares == length w.signs)))

abbrev pub has_signs : Word → Bool
has_signs w = list_all (nat_le 1) w.signs && (slice_index w.signs 0 == EDGE
    && (slice_index w.signs (length w.signs - 1) == EDGE && list_all (nat_lt EDGE) (slice_range w.signs 1 (length w.signs - 1))))

abbrev pub has_weights : Word → Bool
has_weights w = list_all is_weight w.weights && is_weight w.weight

abbrev pub has_plain : Word → Bool
has_plain w = is_plain_at w 0 && (is_plain_at w 1 && is_plain_at w (length w.signs - 1))

abbrev pub is_word : Word → Bool
is_word w = has_lengths w && (has_signs w && (has_weights w && (decides w.hyphens w.cares && has_plain w)))
