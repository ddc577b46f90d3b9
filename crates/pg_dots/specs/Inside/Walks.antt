-- How far a walk over the clear bits of a row has come.
use Rattle.std.specs.Prelude.{◌≡◌, ℕ, ◌+◌, ◌-◌, ◌*◌, ◌<◌, ◌≤◌, Bool, true, false}
use Rattle.std.specs.Int.{bit_at}
use Rattle.pg_dots.specs.declared.walk.Walk.{Walk}

-- `next` is the first index from `from` on at which the test fails, or else the end
pub record IsFirstFailing (test : ℕ → Bool) (end from next : ℕ) : Type 0 where
  pub after : from ≤ next
  pub within : next ≤ end
  pub fails : next < end → test next ≡ false
  pub passes : (i : ℕ) → from ≤ i → i < next → test i ≡ true

-- a walk has ahead the bits from an index on at which a test fails: in its number and behind it
pub record IsAhead (test : ℕ → Bool) (w : Walk) (from : ℕ) : Type 0 where
  pub upto : from ≤ 64 * w.at + 64
  pub passed : (i : ℕ) → from ≤ i → i < 64 * w.at → test i ≡ true
  pub clear : (b : ℕ) → b < 64 → bit_at w.ahead b ≡ 1
      → (from ≤ 64 * w.at + b) × (test (64 * w.at + b) ≡ false)
  pub others : (i : ℕ) → from ≤ i → 64 * w.at ≤ i → i < 64 * w.at + 64
      → bit_at w.ahead (i - 64 * w.at) ≡ 0 → test i ≡ true
