-- Families of parts of signs in packed cells.
use Rattle.std.specs.Prelude.{◌≡◌, ℕ, ◌+◌, ◌/◌, ◌%◌, ◌<◌, ◌≤◌, List, length, slice_index}

-- the number of a key
abbrev pub number_of : ℕ → ℕ
number_of key = key / 64

-- the cell of a key whose family has this base
abbrev pub cell_of : ℕ → ℕ → ℕ
cell_of base key = base + key % 64

-- a cell that no key has; past the end all are free
abbrev pub IsFree : List ℕ → ℕ → Type 0
IsFree cells c = c < length cells → slice_index cells c ≡ 4294967295

-- the family of each key below n has its base, and the cell of the key has the index of the key
pub record ArePacked (keys : List ℕ) (n : ℕ) (bases cells : List ℕ) : Type 0 where
  pub based : (k : ℕ) → k < n → number_of (slice_index keys k) < length bases
  pub inside : (k : ℕ) → k < n
      → cell_of (slice_index bases (number_of (slice_index keys k))) (slice_index keys k)
      < length cells
  pub place : (k : ℕ) → k < n → slice_index cells
      (cell_of (slice_index bases (number_of (slice_index keys k))) (slice_index keys k)) ≡ k

-- the keys from one up to another are those of one number, and the next key has another number
pub record IsFamily (keys : List ℕ) (from upto : ℕ) : Type 0 where
  pub some : from < upto
  pub within : upto ≤ length keys
  pub same : (k : ℕ) → from ≤ k → k < upto
      → number_of (slice_index keys k) ≡ number_of (slice_index keys from)
  pub ends : upto < length keys
      → number_of (slice_index keys from) < number_of (slice_index keys upto)
