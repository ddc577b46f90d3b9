-- What a pass keeps while windows are counted and chosen.
use Rattle.std.specs.Prelude.{◌≡◌, ℕ, ◌≤◌, List}
use Rattle.pg_types.specs.Inside.counting.Counts.{Counts, sums_of}
use Rattle.pg_select.specs.Inside.engine.Meanings.{Meaning}

-- both sums of every window are at most n
pub record AreAtMost (counts : Counts) (n : ℕ) : Type 0 where
  pub good : (u : List ℕ) → (sums_of counts u).0 ≤ n
  pub bad : (u : List ℕ) → (sums_of counts u).1 ≤ n

-- the greatest sign, the pass and the number of passes stay
pub record KeepsPass (old new : Meaning) : Type 0 where
  pub signs : new.signs ≡ old.signs
  pub pass : new.pass ≡ old.pass
  pub begun : new.begun ≡ old.begun
