-- How the records of outputs stand for the lists that they share.
use Rattle.std.specs.Prelude.{◌≡◌, ℕ, ◌+◌, if◌then◌else◌, List, [], ◌∷◌, ◌++◌, map, fold, reverse, length, slice_get, Some}
use Rattle.std.specs.List.{list_any}
use Rattle.std.specs.Cmp.Lexicographic.{pointwise}
use Rattle.pg_types.specs.Tails.{suffixes, same_pair}
use Rattle.pg_outputs.specs.declared.records.Record.{Record}
use Rattle.pg_outputs.specs.Lists.{list_of}
use Rattle.pg_outputs.specs.Inside.Heads.{OneHeadEach}
use Rattle.pg_outputs.specs.Inside.Records.{AreShared}

-- lists of dots with their values
abbrev pub Lists : Type 0
Lists = List (List (ℕ × ℕ))

-- a dot with its value, in the other order
abbrev pub value_and_dot : ℕ × ℕ → ℕ × ℕ
value_and_dot x = (x.1, x.0)

-- lists, with one more behind them where it is not among them
abbrev pub with_list : Lists → List (ℕ × ℕ) → Lists
with_list lists l = if list_any (pointwise same_pair l) lists then lists else lists ++ l ∷ []

-- lists, with the ends of one more, from the shortest on
abbrev pub with_ends : Lists → List (ℕ × ℕ) → Lists
with_ends lists l = fold with_list lists (reverse (suffixes l))

-- the records stand for the lists, in their order
pub record Shares (records : List Record) (lists : Lists) : Type 0 where
  pub size : length records ≡ length lists
  pub each : (i : ℕ) (l : List (ℕ × ℕ)) → slice_get lists i ≡ Some l
      → list_of records (i + 1) ≡ map value_and_dot l
  pub one_head : OneHeadEach records
  pub shared : AreShared records
