-- A set of parts of signs for each number, as the bits of a number.
use Rattle.std.specs.Prelude.{◌≡◌, ℕ, ◌+◌, ◌*◌, ◌<◌, Contains, Bool, true, List, slice_index}
use Rattle.std.specs.Int.{bit_at}
use Rattle.std.specs.List.Sorted.{IsStrictlyIncreasing}

-- the set of a number has the parts that follow where a start has the number
pub record AreSets (test : ℕ → Bool) (part : ℕ → ℕ) (numbers sets : List ℕ) : Type 0 where
  pub each : (i : ℕ) → test i ≡ true
      → bit_at (slice_index sets (slice_index numbers i)) (part i) ≡ 1
  pub from : (r s : ℕ) → s < 64 → bit_at (slice_index sets r) s ≡ 1
      → (i : ℕ) × (test i ≡ true) × (slice_index numbers i ≡ r) × (part i ≡ s)

-- the keys of the sets of the numbers below r, each once, rising
pub record AreOfSets (sets : List ℕ) (r : ℕ) (keys : List ℕ) : Type 0 where
  pub rising : IsStrictlyIncreasing keys
  pub low : (x : ℕ) → Contains keys x → x < r * 64
  pub each : (q s : ℕ) → q < r → s < 64 → bit_at (slice_index sets q) s ≡ 1
      → Contains keys (q * 64 + s)
  pub from : (x : ℕ) → Contains keys x → (q : ℕ) × (s : ℕ) × (s < 64)
      × (bit_at (slice_index sets q) s ≡ 1) × (q * 64 + s ≡ x)
