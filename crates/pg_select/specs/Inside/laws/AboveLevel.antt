-- Positions whose value is above the level: a pass counts them like others, but no choice changes
-- their value.
use Rattle.std.specs.Prelude.{ℕ, ◌-◌, ◌≤◌, nat_lt, Bool, not, ◌&&◌, if◌then◌else◌, List, [], ◌∷◌, length, sum_by, Option, None, MatchBool}
use Rattle.std.specs.List.{flat_map}
use Rattle.std.specs.Option.{option_map_or}
use Rattle.pg_types.specs.declared.marks.Totals.{Totals}
use Rattle.pg_translate.specs.Alphabets.{Alphabet}
use Rattle.pg_translate.specs.Reach.{positions}
use Rattle.pg_dict.specs.Word.{Word}
use Rattle.pg_patterns.specs.Values.{Patterns, value_at}
use Rattle.pg_select.specs.declared.pass.Pass.{Pass}
use Rattle.pg_select.specs.CountedPositions.{Candidate, counts_as}
use Rattle.pg_select.specs.Inside.words.PositionLists.{CountedPosition}
use Rattle.pg_select.specs.Inside.laws.Steps.{is_candidate, FindsMore, PreventsMore}
use Rattle.pg_select.specs.Statuses.{status_at, position_weight}
use Rattle.pg_select.specs.Windows.{window, fits}

-- what a position counts as at a level, where its value is above the level
abbrev pub counts_above : ℕ → Patterns → Word → ℕ → Option Bool
counts_above level P w p = if nat_lt level (value_at P w.signs p)
    then counts_as level (status_at P w p) else None

-- such a position with its window; nothing where the window does not fit into the word
abbrev pub above_at : Pass → Patterns → Word → ℕ → List CountedPosition
above_at pass P w p = option_map_or
    (λ good. record {
      window = window w.signs p pass.len pass.dot;
      good = good;
      weight = position_weight w p;
    } ∷ [])
    (if fits w.signs p pass.len pass.dot then counts_above pass.level P w p else None) []

-- the positions in reach of a word that count above the level, with their windows
abbrev pub above_in : Alphabet → Pass → Patterns → Word → List CountedPosition
above_in m pass P w = flat_map (above_at pass P w) (positions m.left m.right (length w.signs))

-- the positions of all words that count above the level, with their windows
abbrev pub above_positions : Alphabet → List Word → Pass → Patterns → List CountedPosition
above_positions m words pass P = flat_map (above_in m pass P) words

-- the sum of the weights of those that are good and whose windows a pass raised
abbrev pub good_above : (Candidate → Bool) → List CountedPosition → List CountedPosition → ℕ
good_above raised counted above = sum_by
    (λ s. if s.good && is_candidate raised counted s.window then s.weight else 0) above

-- the sum of the weights of those that are bad and whose windows a pass raised
abbrev pub bad_above : (Candidate → Bool) → List CountedPosition → List CountedPosition → ℕ
bad_above raised counted above = sum_by
    (λ s. if not s.good && is_candidate raised counted s.window then s.weight else 0) above

-- a part of the raised sums changes no total, and the rest moves in the totals
pub record MovesAllBut (odd : Bool) (old new : Totals)
    (good bad good_stays bad_stays : ℕ) : Type 0 where
  pub good_within : good_stays ≤ good
  pub bad_within : bad_stays ≤ bad
  pub totals : MatchBool odd (FindsMore old new (good - good_stays) (bad - bad_stays))
      (PreventsMore old new (good - good_stays) (bad - bad_stays))
