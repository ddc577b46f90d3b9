-- Words from their signs, and what every word of a dictionary keeps.
use Rattle.std.specs.Prelude.{◌≡◌, ℕ, ◌+◌, ◌-◌, ◌<◌, ◌≤◌, nat_le, Bool, true, false, List, map, length, slice_get, slice_range, Some, All}
use Rattle.pg_types.specs.declared.limits.TheConstants.{EDGE, WEIGHT_MAX, WORD_LETTERS_MAX}
use Rattle.pg_dict.specs.Inside.Lines.PositionedSigns.{PositionedSign}
use Rattle.pg_dict.specs.Word.{Word}

-- a word of this weight from its signs, each with the position before it
abbrev pub word_of_signs : ℕ → List PositionedSign → Word
word_of_signs weight positioned = record {
  signs = map (λ (s : PositionedSign). s.sign) positioned;
  hyphens = map (λ (s : PositionedSign). s.hyphen) positioned;
  weights = map (λ (s : PositionedSign). s.weight) positioned;
  cares = map (λ (s : PositionedSign). s.care) positioned;
  weight = weight;
}

-- the number of letters: the signs without the two edges
abbrev pub letter_count : Word → ℕ
letter_count w = length w.signs - 2

-- a position without a hyphen, with care, and with the weight of the word
pub record IsPlainAt (w : Word) (p : ℕ) : Type 0 where
  pub hyphen : slice_get w.hyphens p ≡ Some false
  pub weight : slice_get w.weights p ≡ Some w.weight
  pub care : slice_get w.cares p ≡ Some true

-- a word is an edge, 1 to 100 letters and an edge; weights are in range, its end positions plain
pub record IsWord (w : Word) : Type 0 where
  pub long : 3 ≤ length w.signs
  pub short : length w.signs ≤ WORD_LETTERS_MAX + 2
  pub hyphens_len : length w.hyphens ≡ length w.signs
  pub weights_len : length w.weights ≡ length w.signs
  pub cares_len : length w.cares ≡ length w.signs
  pub signs : All (λ sign. 1 ≤ sign) w.signs
  pub begins : slice_get w.signs 0 ≡ Some EDGE
  pub ends : slice_get w.signs (length w.signs - 1) ≡ Some EDGE
  pub letters : All (λ sign. EDGE < sign) (slice_range w.signs 1 (length w.signs - 1))
  pub weights : All (λ weight. weight ≤ WEIGHT_MAX) w.weights
  pub weight : w.weight ≤ WEIGHT_MAX
  pub disputed : (p : ℕ) → slice_get w.cares p ≡ Some false → slice_get w.hyphens p ≡ Some false
  pub first : IsPlainAt w 0
  pub second : IsPlainAt w 1
  pub last : IsPlainAt w (length w.signs - 1)

-- the signs of the words are at most this number
abbrev pub SignsAtMost : ℕ → List Word → Type 0
SignsAtMost n words = All (λ (w : Word). All (λ sign. sign ≤ n) w.signs) words

-- whether a weight is within its limit
abbrev pub is_weight : ℕ → Bool
is_weight weight = nat_le weight WEIGHT_MAX
