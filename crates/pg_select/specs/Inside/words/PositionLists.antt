-- What a pass counts as a list, one position after the other, and its candidates by this list.
use Rattle.std.specs.Prelude.{ℕ, Bool, not, ◌&&◌, if◌then◌else◌, List, [], ◌∷◌, length, map, fold, sum_by}
use Rattle.std.specs.List.{flat_map}
use Rattle.std.specs.Option.{option_map_or}
use Rattle.std.specs.Ordering.{nat_cmp, is_eq}
use Rattle.std.specs.Cmp.Lexicographic.{slice_cmp}
use Rattle.std.specs.FinMap.Entries.{put}
use Rattle.pg_dict.specs.Word.{Word}
use Rattle.pg_select.specs.declared.pass.Pass.{Pass}
use Rattle.pg_translate.specs.Alphabets.{Alphabet}
use Rattle.pg_translate.specs.Reach.{positions}
use Rattle.pg_patterns.specs.Values.{Patterns}
use Rattle.pg_select.specs.CountedPositions.{Candidate, counted_at}
use Rattle.pg_select.specs.Statuses.{position_weight}
use Rattle.pg_select.specs.Windows.{Hopeless, window}

-- a window at a position that counts: whether it counts as good, and the weight of the position
pub record CountedPosition : Type 0 where
  pub window : List ℕ
  pub good : Bool
  pub weight : ℕ

-- what a pass counts at a position
abbrev pub counted_positions_at : Pass → Patterns → Hopeless → Word → ℕ → List CountedPosition
counted_positions_at pass P H w p = let u = window w.signs p pass.len pass.dot in option_map_or
    (λ good. record { window = u; good = good; weight = position_weight w p } ∷ [])
    (counted_at pass P H w p) []

-- what a pass counts in all words: at each position in reach
abbrev pub counted_positions : Alphabet → List Word
    → Pass → Patterns → Hopeless → List CountedPosition
counted_positions T words pass P H = flat_map (λ (w : Word). flat_map
    (counted_positions_at pass P H w) (positions T.left T.right (length w.signs))) words

-- two windows have the same signs
abbrev pub same_signs : List ℕ → List ℕ → Bool
same_signs u v = is_eq (slice_cmp nat_cmp u v)

-- a set of windows in the order of signs, with one more
abbrev pub with_window : List (List ℕ × Unit {0}) → CountedPosition → List (List ℕ × Unit {0})
with_window windows s = put (slice_cmp nat_cmp) s.window (tt {0}) windows

-- the windows that are counted, in the order of signs, each once
abbrev pub candidates : List CountedPosition → List (List ℕ)
candidates counted = map (λ e. e.0) (fold with_window [] counted)

-- the sum of the weights of the good positions whose window is u
abbrev pub good_of : List CountedPosition → List ℕ → ℕ
good_of counted u = sum_by (λ s. if same_signs u s.window && s.good then s.weight else 0) counted

-- the sum of the weights of the bad positions whose window is u
abbrev pub bad_of : List CountedPosition → List ℕ → ℕ
bad_of counted u = sum_by (λ s. if same_signs u s.window && not s.good then s.weight else 0) counted

-- the candidates of what is counted, with their sums
abbrev pub with_sums : List CountedPosition → List Candidate
with_sums counted =
    map (λ u. record { window = u; good = good_of counted u; bad = bad_of counted u })
    (candidates counted)
