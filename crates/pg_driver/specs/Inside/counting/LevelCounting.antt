-- How the windows of a level are counted: what its way to count knows before a pass, and what it
-- makes of the choices after it.
use Rattle.std.specs.Prelude.{◌≡◌, ℕ, ◌-◌, ◌≤◌, ◌<◌, Bool, true, not, List, [], length, fold, All, MatchBool}
use Rattle.pg_types.specs.declared.limits.TheConstants.{FILE_MAX}
use Rattle.pg_types.specs.declared.marks.Totals.{Totals}
use Rattle.pg_types.specs.declared.parameters.LevelParams.{LevelParams}
use Rattle.pg_types.specs.Inside.counting.Counts.{Counts}
use Rattle.pg_types.specs.Inside.counting.NumberedWindows.{Windows}
use Rattle.pg_translate.specs.Alphabets.{Alphabet}
use Rattle.pg_select.specs.Sums.{totals as totals_by}
use Rattle.pg_dict.specs.Inside.Store.{all_signs}
use Rattle.pg_dict.specs.Word.{Word}
use Rattle.pg_select.specs.declared.pass.Pass.{Pass}
use Rattle.pg_select.specs.Inside.words.PositionLists.{counted_positions}
use Rattle.pg_select.specs.Inside.laws.Steps.{FindsMore, PreventsMore}
use Rattle.pg_select.specs.Inside.engine.Meanings.{Meaning, with_position}
use Rattle.pg_starts.specs.declared.start_numbers.StartNumbers.{StartNumbers}
use Rattle.pg_starts.specs.Inside.Known.{AreKnown}
use Rattle.pg_select.specs.Statuses.{is_odd}
use Rattle.pg_driver.specs.declared.choices.Choices.{Choices}
use Rattle.pg_driver.specs.declared.counting.WayToCount.{WayToCount}
use Rattle.pg_driver.specs.declared.pass_windows.PassWindows.{PassWindows}
use Rattle.pg_driver.specs.declared.counting.WayToCount.TheVariants.{Open, EachWord}
use Rattle.pg_driver.specs.declared.counting.open_positions.OpenLevel.{OpenLevel}
use Rattle.pg_driver.specs.declared.counting.word_level.WordLevel.{WordLevel}
use Rattle.pg_driver.specs.declared.counting.above_positions.ChosenWeights.{ChosenWeights}
use Rattle.pg_dots.specs.Inside.Dots.{is_closed, position_count}
use Rattle.pg_dots.specs.Inside.Positions.{is_among, positions_room}
use Rattle.pg_driver.specs.Inside.counting.Counting.{AreNumbersFor, HasRoom, IsBounded}
use Rattle.pg_driver.specs.Inside.counting.OpenSigns.{AreNever, IsLevelAt, TellsStatus, closed_at_sign, sign_count}
use Rattle.pg_driver.specs.Inside.counting.OpenPositions.{IsInWord}
use Rattle.pg_driver.specs.Inside.level.PassWindows.{HaveNumbers, is_counted_at}
use Rattle.pg_driver.specs.Inside.records.SoundRecords.{IsSmall}
use Rattle.pg_driver.specs.Traces.{Knowledge}
use Rattle.pg_driver.specs.Inside.counting.WordLevels.{IsWordsAt, chosen_weights}
use Rattle.pg_types.specs.Inside.Limits.{sums_limit}
use Rattle.pg_patterns.specs.Values.{Patterns}

-- a pass was counted: the counts have its windows and are not full, and the totals are those before
pub record DidCount (T : Alphabet) (W : List Word) (pass : Pass)
    (m : Meaning) (cs : Counts) (before : Totals) : Type 0 where
  pub counts : cs ≡ fold with_position []
      (counted_positions T W pass m.patterns m.hopeless)
  pub room : HasRoom cs 0
  pub totals : before ≡ totals_by T W m.patterns
  pub small : IsSmall before

-- the dots are closed as they are at a length of a level, and the totals are those by the patterns
pub record IsOpenAt (T : Alphabet) (W : List Word) (level len : ℕ)
    (known : Knowledge) (o : OpenLevel) : Type 0 where
  pub bounded : IsBounded T W
  pub size : sign_count W ≤ position_count o.dots
  pub dots : IsLevelAt level len T W known.patterns known.hopeless
      (is_closed o.dots)
  pub room : positions_room o.never ≡ position_count o.dots
  pub never : AreNever T W (is_among o.never)
  pub totals : o.totals ≡ totals_by T W known.patterns

-- what is known of open positions at the end of a level, where these are the patterns
pub record HasEndedOpen (T : Alphabet) (W : List Word) (level : ℕ)
    (P : Patterns) (o : OpenLevel) : Type 0 where
  pub bounded : IsBounded T W
  pub size : sign_count W ≤ position_count o.dots
  pub status : TellsStatus level T W P (is_closed o.dots)
  pub room : positions_room o.never ≡ position_count o.dots
  pub never : AreNever T W (is_among o.never)
  pub totals : o.totals ≡ totals_by T W P

-- a level has ended, or none has begun
abbrev pub HasEnded : Alphabet → List Word → ℕ → Patterns → WayToCount → Type 0
HasEnded T W level P (Open o) = HasEndedOpen T W level P o
HasEnded T W level P (EachWord e) = Unit {0}

-- a way to count is ready for the passes of a length
abbrev pub IsReady : Alphabet → List Word → ℕ → ℕ → Knowledge → WayToCount → Type 0
IsReady T W level len known (Open o) = IsOpenAt T W level len known o
IsReady T W level len known (EachWord e) = IsWordsAt T W level known e

-- windows are counted at open positions, so no word is hyphenated in a pass
abbrev pub IsOverOpen : WayToCount → Type 0
IsOverOpen (Open o) = Unit {0}
IsOverOpen (EachWord e) = ⊥

-- where each word is hyphenated in each pass, a pass was counted
abbrev pub IsCounted : WayToCount → Type 0
IsCounted (Open o) = Unit {0}
IsCounted (EachWord e) = e.is_counted ≡ true

-- the totals that a way to count carries
abbrev pub totals_carried : WayToCount → Totals
totals_carried (Open o) = o.totals
totals_carried (EachWord e) = e.totals

-- the totals that it carries are those by the patterns, and small
abbrev pub TellsTotals : Alphabet → List Word → Patterns → WayToCount → Type 0
TellsTotals T W P c = (totals_carried c ≡ totals_by T W P) × IsSmall (totals_carried c)

-- the open dots have a bit for each sign of the words; or, if each word is hyphenated, the listed
-- positions lie in the words, and are at most FILE_MAX
abbrev pub AreInWords : List Word → WayToCount → Type 0
AreInWords words (Open o) = sign_count words ≤ position_count o.dots
AreInWords words (EachWord e) = All (IsInWord words) e.above.items
    × (length e.above.items ≤ FILE_MAX)

-- the open dots have a bit for each sign of the words, where there are open dots
abbrev pub HasSize : List Word → WayToCount → Type 0
HasSize words (Open o) = sign_count words ≤ position_count o.dots
HasSize words (EachWord e) = Unit {0}

-- the windows of a length that a way to count may count have numbers
abbrev pub AreNumbersIn : List Word → ℕ → StartNumbers → WayToCount → Type 0
AreNumbersIn words len n (Open o) =
    AreNumbersFor words len (λ d s. not (is_closed o.dots d s)) n
AreNumbersIn words len n (EachWord e) = AreNumbersFor words len (λ d s. true) n

-- where it is noted that the windows of a length have numbers, they have
pub record MayHaveNumbers (words : List Word) (len : ℕ) (w : PassWindows) (c : WayToCount)
    : Type 0 where
  pub known : AreKnown (all_signs words) w.counts.numbers
  pub numbers : w.numbered ≡ true → AreNumbersIn words len w.counts.numbers c

-- over open positions the dot of the pass is reached. Else each position that is listed has its
-- window's number, where the pass counts it
abbrev pub AreListed : Pass → Counts → List Word → Windows → WayToCount → List ℕ → Type 0
AreListed pass counts words ws (Open o) ns = pass.dot < o.dots.reached
AreListed pass counts words ws (EachWord e) ns =
    HaveNumbers pass (is_counted_at pass counts) words ws e.above.items ns

-- the totals before and after a pass whose chosen windows have these sums
abbrev pub Carries : Bool → Totals → Totals → ℕ → ℕ → Type 0
Carries odd old new good bad = MatchBool odd (FindsMore old new good bad)
    (PreventsMore old new good bad)

-- the totals before a pass are large enough for what its choices take away, and all sums are small
pub record CanCarry (odd : Bool) (totals : Totals) (good bad : ℕ) : Type 0 where
  pub small : IsSmall totals
  pub sums : (good < sums_limit) × (bad < sums_limit)
  pub within : MatchBool odd (good ≤ totals.missed) ((bad ≤ totals.good) × (good ≤ totals.bad))

-- some choices of a pass change no total, and the totals are large enough for the others
pub record CanMove (odd : Bool) (totals : Totals)
    (n : Choices) (stays : ChosenWeights) : Type 0 where
  pub good : stays.good ≤ n.good
  pub bad : stays.bad ≤ n.bad
  pub rest : CanCarry odd totals (n.good - stays.good) (n.bad - stays.bad)

-- the totals that are carried are large enough for what the choices of a pass take away
abbrev pub CanGoOn : LevelParams → Pass → Counts → List Word → Choices → WayToCount → Type 0
CanGoOn params pass counts words n (Open o) = CanCarry (is_odd pass.level) o.totals n.good n.bad
CanGoOn params pass counts words n (EachWord e) =
    CanMove (is_odd pass.level) e.totals n (chosen_weights params pass counts words e.above.items)

-- what the choices of a pass make of open positions: dots are closed, and the totals go on
pub record IsAfterPass (params : LevelParams) (pass : Pass)
    (counts : Counts) (words : List Word) (n : Choices) (old new : OpenLevel) : Type 0 where
  pub size : position_count new.dots ≡ position_count old.dots
  pub dots : (d s : ℕ) → s < sign_count words
      → is_closed new.dots d s ≡ closed_at_sign params pass counts words (is_closed old.dots) d s
  pub never : new.never ≡ old.never
  pub totals : Carries (is_odd pass.level) old.totals new.totals n.good n.bad

-- what the choices of a pass make where words are hyphenated: totals go on, listed positions stay
pub record IsAfterWords (odd : Bool) (n : Choices)
    (stays : ChosenWeights) (old new : WordLevel) : Type 0 where
  pub above : new.above.items ≡ old.above.items
  pub counted : new.is_counted ≡ old.is_counted
  pub totals : Carries odd old.totals new.totals (n.good - stays.good) (n.bad - stays.bad)

-- what the choices of a pass make of a way to count, which stays of its kind
abbrev pub GoesOnAfter : LevelParams → Pass → Counts
    → List Word → Choices → WayToCount → WayToCount → Type 0
GoesOnAfter params pass counts words n (Open o) (Open p) =
    IsAfterPass params pass counts words n o p
GoesOnAfter params pass counts words n (Open o) (EachWord e) = ⊥
GoesOnAfter params pass counts words n (EachWord e) (Open p) = ⊥
GoesOnAfter params pass counts words n (EachWord e) (EachWord f) =
    IsAfterWords (is_odd pass.level) n (chosen_weights params pass counts words e.above.items) e f
