-- A word of a dictionary.
use Rattle.std.specs.Prelude.{ℕ, Bool, List}

-- a word: its signs; the hyphen, weight and care of each position; and its own weight
pub record Word : Type 0 where
  pub signs : List ℕ
  pub hyphens : List Bool
  pub weights : List ℕ
  pub cares : List Bool
  pub weight : ℕ
