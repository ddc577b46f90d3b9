-- A position that pruning compares.
use Rattle.std.specs.Prelude.{ℕ, List}
use Rattle.pg_prune.specs.declared.pruned.Need.{Need}

-- a position of a word with its number, and the signs of the word
abbrev pub PositionInReach : Type 0
PositionInReach = Need × List ℕ

-- the need at a position
abbrev pub need_at : PositionInReach → Need
need_at x = x.0
