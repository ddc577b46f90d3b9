-- Numbers of starts, which compare as the starts do in some order.
use Rattle.std.specs.Prelude.{◌≡◌, ℕ, ◌+◌, ◌*◌, ◌<◌, Bool, true, List, length, slice_index, Contains}
use Rattle.std.specs.declared.cmp.Ordering.{Ordering}
use Rattle.std.specs.Ordering.{nat_cmp, ordering_then}
use Rattle.std.specs.List.Sorted.{IsStrictlyIncreasing}

-- each start that passes the test has a number below the count, and numbers compare as starts do
pub record AreOrdered (order : ℕ → ℕ → Ordering) (test : ℕ → Bool) (numbers : List ℕ) (count : ℕ)
    : Type 0 where
  pub below : (i : ℕ) → test i ≡ true → slice_index numbers i < count
  pub compare : (i j : ℕ) → test i ≡ true → test j ≡ true
      → nat_cmp (slice_index numbers i) (slice_index numbers j) ≡ order i j

-- each number is that of a start, which stands in the list of first starts
pub record AreNumbers (order : ℕ → ℕ → Ordering) (test : ℕ → Bool) (numbers firsts : List ℕ)
    : Type 0 where
  pub ordered : AreOrdered order test numbers (length firsts)
  pub taken : (r : ℕ) → r < length firsts → (test (slice_index firsts r) ≡ true)
      × (slice_index numbers (slice_index firsts r) ≡ r)

-- an order, and where it says equal then a part of a sign
abbrev pub then_part : (ℕ → ℕ → Ordering) → (ℕ → ℕ) → ℕ → ℕ → Ordering
then_part order part i j = ordering_then (order i j) (nat_cmp (part i) (part j))

-- the number of a start and a part of a sign, as one number that compares as the two do
abbrev pub key_at : (ℕ → ℕ) → List ℕ → ℕ → ℕ
key_at part numbers i = slice_index numbers i * 64 + part i

-- the keys of the starts that pass the test, each once, rising
pub record AreKeys (test : ℕ → Bool) (part : ℕ → ℕ) (numbers keys : List ℕ) : Type 0 where
  pub rising : IsStrictlyIncreasing keys
  pub each : (i : ℕ) → test i ≡ true → Contains keys (key_at part numbers i)
  pub from : (x : ℕ) → Contains keys x
      → (i : ℕ) × (test i ≡ true) × (key_at part numbers i ≡ x)

-- each start has the index of its key, and each index one of the starts that have it
pub record AreRanks (test : ℕ → Bool) (part : ℕ → ℕ) (numbers keys next firsts : List ℕ)
    : Type 0 where
  pub rank : (i : ℕ) → test i ≡ true → (slice_index next i < length keys)
      × (slice_index keys (slice_index next i) ≡ key_at part numbers i)
  pub first_passes : (i : ℕ) → test i ≡ true → test (slice_index firsts (slice_index next i)) ≡ true
  pub first_rank : (i : ℕ) → test i ≡ true
      → slice_index next (slice_index firsts (slice_index next i)) ≡ slice_index next i
