-- A trie into which the starting patterns were entered.
use Rattle.std.specs.Prelude.{◌≡◌, ℕ, List, []}
use Rattle.pg_patterns.specs.Values.{Patterns}
use Rattle.pg_trie.specs.Inside.Maps.{Maps}
use Rattle.pg_packed.specs.Inside.Starts.{pattern_families}

-- a trie has these patterns, which were entered in their order, and nothing is hopeless
pub record AreEntered (n : ℕ) (P : Patterns) (m : Maps) : Type 0 where
  pub signs : m.signs ≡ n
  pub families : m.families ≡ pattern_families n P
  pub patterns : m.patterns ≡ P
  pub hopeless : m.hopeless ≡ []
