-- What a store holds.
use Rattle.std.specs.Prelude.{◌≡◌, ◌≤◌, ◌+◌, ◌*◌, ℕ, Bool, true, ◌&&◌, nat_le, List, map, length, slice_range, All}
use Rattle.std.specs.List.{list_all, flat_map}
use Rattle.pg_types.specs.declared.limits.TheConstants.{FILE_MAX}
use Rattle.pg_dict.specs.Word.{Word}
use Rattle.pg_dict.specs.Inside.SoundWords.{IsWord, is_weight}
use Rattle.pg_dict.specs.Inside.Lines.PositionedSigns.{Columns}
use Rattle.pg_dict.specs.Inside.Sites.{all_sites}
use Rattle.pg_dict.specs.declared.sites.Site.{Site}
use Rattle.pg_dict.specs.declared.store.Store.{Store}
use Rattle.pg_dict.specs.declared.store.StoredWord.{StoredWord}

-- the columns of a store
abbrev pub columns_of : Store → Columns
columns_of s = record {
  signs = s.signs.items;
  hyphens = s.hyphens.items;
  weights = s.weights.items;
  cares = s.cares.items;
}

-- the word that lies in the columns from the start to the end that are stored for it
abbrev pub word_at : Columns → StoredWord → Word
word_at c w = record {
  signs = slice_range c.signs w.start w.end;
  hyphens = slice_range c.hyphens w.start w.end;
  weights = slice_range c.weights w.start w.end;
  cares = slice_range c.cares w.start w.end;
  weight = w.weight;
}

-- the words of a store
abbrev pub stored_words : Store → List Word
stored_words s = map (word_at (columns_of s)) s.words.items

-- the signs of all words, joined
abbrev pub all_signs : List Word → List ℕ
all_signs words = flat_map (λ (w : Word). w.signs) words

-- the weights of all words, joined
abbrev pub all_weights : List Word → List ℕ
all_weights words = flat_map (λ (w : Word). w.weights) words

-- a word lies within columns of this length
abbrev pub lies_within : ℕ → StoredWord → Bool
lies_within n w = nat_le w.start w.end && nat_le w.end n

-- the four columns have one length, and those that are lent whole are the words joined
pub record IsSound (s : Store) : Type 0 where
  pub hyphens_len : length s.hyphens.items ≡ length s.signs.items
  pub weights_len : length s.weights.items ≡ length s.signs.items
  pub cares_len : length s.cares.items ≡ length s.signs.items
  pub within : list_all (lies_within (length s.signs.items)) s.words.items ≡ true
  pub signs_joined : s.signs.items ≡ all_signs (stored_words s)
  pub weights_joined : s.weights.items ≡ all_weights (stored_words s)
  pub words : All IsWord (stored_words s)

-- the store is sound, each letter took a byte of a file, and the row has what stands at each sign
pub record IsDictionary (s : Store) (row : List Site) : Type 0 where
  pub sound : IsSound s
  pub few : length s.signs.items ≤ FILE_MAX + 2 * length s.words.items
  pub sites : row ≡ all_sites (stored_words s)

-- whether a number is a sign up to this
abbrev pub is_sign_up_to : ℕ → ℕ → Bool
is_sign_up_to n sign = nat_le 1 sign && nat_le sign n

-- the signs of the columns are at most this number, and the weights are within their limit
pub record IsFit (n : ℕ) (s : Store) : Type 0 where
  pub signs : list_all (is_sign_up_to n) s.signs.items ≡ true
  pub weights : list_all is_weight s.weights.items ≡ true
