-- What the values and hopeless entries of a string's list give at the position of their dot.
use Rattle.std.specs.Prelude.{ℕ, ◌&&◌, nat_lt, nat_le, if◌then◌else◌, List}
use Rattle.pg_select.specs.declared.pass.Pass.{Pass}
use Rattle.pg_select.specs.Inside.words.Positions.{bit}
use Rattle.pg_select.specs.Inside.words.WindowStrings.{is_within}
use Rattle.pg_trie.specs.Inside.Lists.{outputs_at}
use Rattle.pg_trie.specs.Inside.Maps.{Maps}
use Rattle.pg_trie.specs.declared.hopeless.TheConstants.{HOPELESS}

-- the lists of the strings of a trie
abbrev pub lists_in : Maps → List ℕ → List (ℕ × ℕ)
lists_in m = outputs_at m.patterns m.hopeless

-- the value itself, and 0 for a hopeless entry
abbrev pub pattern_value : ℕ → ℕ
pattern_value v = if nat_lt v HOPELESS then v else 0

-- the value that a record of a string's list gives to the position of its dot
abbrev pub value_by : ℕ → ℕ × ℕ → ℕ
value_by n x = pattern_value x.0

-- 1 where a record reaches the level, and its string stands in the window of that position; else 0
abbrev pub cover_by : Pass → ℕ → ℕ × ℕ → ℕ
cover_by pass n x = bit (nat_le pass.level x.0 && is_within pass.len pass.dot n x.1)
