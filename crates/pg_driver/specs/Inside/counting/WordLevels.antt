-- A level in which each word is hyphenated in each pass: its positions whose value is above the
-- level, and the totals.
use Rattle.std.specs.Prelude.{◌≡◌, ℕ, ◌+◌, ◌*◌, ◌≤◌, Bool, true, false, not, ◌&&◌, if◌then◌else◌, List, sum_by, Option, None}
use Rattle.std.specs.List.{flat_map}
use Rattle.std.specs.Option.{option_map_or}
use Rattle.std.specs.Ordering.{nat_cmp}
use Rattle.std.specs.Cmp.Lexicographic.{slice_cmp}
use Rattle.std.specs.FinMap.Entries.{find}
use Rattle.pg_types.specs.declared.limits.TheConstants.{WEIGHT_MAX}
use Rattle.pg_types.specs.declared.parameters.LevelParams.{LevelParams}
use Rattle.pg_types.specs.Inside.counting.Counts.{Counts}
use Rattle.pg_translate.specs.Alphabets.{Alphabet}
use Rattle.pg_select.specs.Sums.{totals as totals_by}
use Rattle.pg_dict.specs.Word.{Word}
use Rattle.pg_patterns.specs.Values.{Patterns}
use Rattle.pg_select.specs.declared.pass.Pass.{Pass}
use Rattle.pg_select.specs.Inside.Choices.{choice}
use Rattle.pg_select.specs.Inside.words.PositionLists.{CountedPosition}
use Rattle.pg_select.specs.Inside.laws.AboveLevel.{counts_above}
use Rattle.pg_driver.specs.declared.counting.above_positions.ChosenWeights.{ChosenWeights}
use Rattle.pg_driver.specs.declared.pass_windows.WordPosition.{WordPosition}
use Rattle.pg_driver.specs.declared.counting.word_level.WordLevel.{WordLevel}
use Rattle.pg_driver.specs.Inside.counting.Counting.{IsBounded}
use Rattle.pg_driver.specs.Inside.counting.OpenLevels.{listed_from}
use Rattle.pg_driver.specs.Inside.counting.OpenPositions.{counted_of}
use Rattle.pg_driver.specs.Traces.{Knowledge}
use Rattle.pg_driver.specs.Inside.choices.Fates.{chooses}

-- the positions that count and have a value above the level, where they are listed; else none
abbrev pub listing : Bool → ℕ → Patterns → Word → ℕ → Option Bool
listing listed level P w p = if listed then counts_above level P w p else None

-- a level in which words are hyphenated in each pass: it lists positions above the level
pub record IsWordsAt (T : Alphabet) (W : List Word) (level : ℕ)
    (known : Knowledge) (e : WordLevel) : Type 0 where
  pub bounded : e.is_counted ≡ true → IsBounded T W
  pub above : e.above.items
      ≡ listed_from T (listing e.is_counted level known.patterns) 0 W
  pub totals : e.is_counted ≡ true → e.totals ≡ totals_by T W known.patterns

-- a window was chosen in a pass that has these sums
abbrev pub was_chosen : LevelParams → Counts → List ℕ → Bool
was_chosen params counts u =
    option_map_or (λ sums. chooses (choice params sums.0 sums.1))
    (find (slice_cmp nat_cmp) u counts) false

-- the weight of a position that is good and whose window was chosen; 0 for any other
abbrev pub good_weight_chosen : LevelParams → Counts → CountedPosition → ℕ
good_weight_chosen params counts s =
    if s.good && was_chosen params counts s.window then s.weight else 0

-- the weight of a position that is bad and whose window was chosen; 0 for any other
abbrev pub bad_weight_chosen : LevelParams → Counts → CountedPosition → ℕ
bad_weight_chosen params counts s =
    if not s.good && was_chosen params counts s.window then s.weight else 0

-- the weights of listed positions whose windows were chosen: of the good ones, and of the bad ones
abbrev pub chosen_weights : LevelParams → Pass → Counts → List Word
    → List WordPosition → ChosenWeights
chosen_weights params pass counts words above = record {
  good = sum_by (good_weight_chosen params counts) (flat_map (counted_of pass words) above);
  bad = sum_by (bad_weight_chosen params counts) (flat_map (counted_of pass words) above);
}

-- sums with those of one position more
abbrev pub with_chosen : ChosenWeights → ChosenWeights → ChosenWeights
with_chosen k l = record { good = k.good + l.good; bad = k.bad + l.bad }

-- n positions more turned the old sums into the new ones
abbrev pub TookChosen : ChosenWeights → ChosenWeights → ℕ → Type 0
TookChosen old new n = new.good + new.bad ≤ old.good + old.bad + WEIGHT_MAX * n
