-- The open positions of a level as the signs of all words, numbered through: at which of them a dot
-- is open, and what is known of that.
use Rattle.std.specs.Prelude.{◌≡◌, ℕ, zero, suc, ◌+◌, ◌-◌, ◌<◌, ◌≤◌, nat_lt, nat_eq, Bool, true, false, not, ◌&&◌, ◌||◌, if◌then◌else◌, List, [], ◌∷◌, length, map, filter, slice_get, slice_index_or, is_some, Option, None, Some}
use Rattle.std.specs.List.{list_any, range_with_len}
use Rattle.std.specs.Option.{option_map_or}
use Rattle.pg_types.specs.declared.limits.TheConstants.{LENGTH_MAX}
use Rattle.pg_types.specs.declared.marks.Mark.{Mark}
use Rattle.pg_types.specs.declared.marks.Mark.TheVariants.{DontCare}
use Rattle.pg_types.specs.declared.parameters.LevelParams.{LevelParams}
use Rattle.pg_types.specs.Inside.Limits.{positions_limit}
use Rattle.pg_types.specs.Inside.counting.Counts.{Counts, counted_sums}
use Rattle.pg_types.specs.Inside.counting.NumberedWindows.{HasNumber, Windows}
use Rattle.pg_translate.specs.Alphabets.{Alphabet}
use Rattle.pg_translate.specs.Reach.{positions}
use Rattle.pg_dict.specs.Inside.Store.{all_signs}
use Rattle.pg_dict.specs.Word.{Word}
use Rattle.pg_patterns.specs.Values.{Patterns}
use Rattle.pg_select.specs.declared.choice.Choice.{Choice}
use Rattle.pg_select.specs.declared.choice.Choice.TheVariants.{Hopeless as GivenUp, Chosen, Left}
use Rattle.pg_select.specs.declared.pass.Pass.{Pass}
use Rattle.pg_select.specs.Inside.Choices.{choice}
use Rattle.pg_select.specs.CountedPositions.{counts_as}
use Rattle.pg_select.specs.Inside.laws.ClosedDots.{TellCounted}
use Rattle.pg_select.specs.Inside.laws.Steps.{CoversUpTo, IsUpTo}
use Rattle.pg_select.specs.Statuses.{status_at}
use Rattle.pg_select.specs.Windows.{Hopeless, window, fits}
use Rattle.pg_driver.specs.declared.pass_windows.WordPosition.{WordPosition}

-- how many signs words have together
abbrev pub sign_count : List Word → ℕ
sign_count words = length (all_signs words)

-- where the signs of a word begin among those of all words
abbrev pub start_of : List Word → ℕ → ℕ
start_of [] n = 0
start_of (w ∷ words) zero = 0
start_of (w ∷ words) (suc n) = length w.signs + start_of words n

-- a word of the words, whose signs stand behind so many
pub record IsWordAt (words : List Word) (before : ℕ) (w : Word) : Type 0 where
  pub number : ℕ
  pub there : slice_get words number ≡ Some w
  pub starts : before ≡ start_of words number
  pub few : length (all_signs words) < positions_limit

-- the position of a sign of words, which are numbered from a number on
abbrev pub position_from : ℕ → List Word → ℕ → WordPosition
position_from n [] s = record { word = n; at = s }
position_from n (w ∷ words) s =
    if nat_lt s (length w.signs) then record { word = n; at = s }
    else position_from (n + 1) words (s - length w.signs)

-- the signs from one on, up to an end, at which a dot is open
abbrev pub open_signs : (ℕ → Bool) → ℕ → ℕ → List ℕ
open_signs closed from end = filter (λ s. not (closed s)) (range_with_len from (end - from))

-- the positions of words at which a dot is open, in order
abbrev pub open_word_positions : (ℕ → Bool) → List Word → List WordPosition
open_word_positions closed words =
    map (position_from 0 words) (open_signs closed 0 (sign_count words))

-- a position of a word is in reach
abbrev pub is_in_reach : Alphabet → Word → ℕ → Bool
is_in_reach m w p = list_any (nat_eq p) (positions m.left m.right (length w.signs))

-- a position is open where a level begins: it is in reach and counts by its status
abbrev pub is_open_first : Alphabet → ℕ → Patterns → Word → ℕ → Bool
is_open_first m level P w p = is_in_reach m w p && is_some (counts_as level (status_at P w p))

-- a position of this status has care
abbrev pub has_care : Mark → Bool
has_care DontCare = false
has_care other = true

-- by its status a position counts at odd levels or at even ones: it is in reach and has care
abbrev pub takes_part : Alphabet → Word → ℕ → Bool
takes_part m w p = is_in_reach m w p && slice_index_or w.cares p true

-- a dot that is greater than those of all passes
abbrev pub dot_of_no_pass : ℕ
dot_of_no_pass = LENGTH_MAX + 1

-- the dot of no pass is closed where a position does not count at the level by its status now
abbrev pub TellsStatus : ℕ → Alphabet → List Word → Patterns → (ℕ → ℕ → Bool) → Type 0
TellsStatus level m words P closed = (n p : ℕ) (w : Word)
    → slice_get words n ≡ Some w → p < length w.signs
    → closed dot_of_no_pass (start_of words n + p) ≡ not (is_open_first m level P w p)

-- of the signs of words those are in the set that count at no level
abbrev pub AreNever : Alphabet → List Word → (ℕ → Bool) → Type 0
AreNever m words among = (n p : ℕ) (w : Word) → slice_get words n ≡ Some w → p < length w.signs
    → among (start_of words n + p) ≡ not (takes_part m w p)

-- at a length the closed dots of a position tell what counts there; out of reach all are closed
pub record DotsTell (level len : ℕ) (m : Alphabet) (P : Patterns) (H : Hopeless) (w : Word) (p : ℕ)
    (closed : ℕ → Bool) : Type 0 where
  pub inside : is_in_reach m w p ≡ true → TellCounted level len P H w p closed
  pub outside : is_in_reach m w p ≡ false → (d : ℕ) → d ≤ LENGTH_MAX → closed d ≡ true

-- how far a level is: no string that covers is longer than the length, and no value is above the
-- level. Closed dots tell what counts in passes of the length, and what counts by the status
pub record IsLevelAt (level len : ℕ) (m : Alphabet) (words : List Word) (P : Patterns)
    (H : Hopeless) (closed : ℕ → ℕ → Bool) : Type 0 where
  pub short : CoversUpTo level len P H
  pub upto : IsUpTo level P
  pub known : (n p : ℕ) (w : Word) → slice_get words n ≡ Some w → p < length w.signs
      → DotsTell level len m P H w p (λ d. closed d (start_of words n + p))
  pub status : TellsStatus level m words P closed

-- the closed dots of an open position, by what became of its window. A dot whose window does not
-- fit is closed too
abbrev pub closed_by : (ℕ → Bool) → ℕ → Option Choice → ℕ → Bool
closed_by closed dot None d = closed d || nat_eq d dot
closed_by closed dot (Some Left) d = closed d
closed_by closed dot (Some Chosen) d = true
closed_by closed dot (Some GivenUp) d = closed d || nat_eq d dot

-- the closed dots of a position of a word after a pass
abbrev pub closed_in : LevelParams → Pass → Counts → Word → ℕ → (ℕ → Bool) → ℕ → Bool
closed_in level pass counts w p closed d =
    if closed pass.dot then closed d
    else (if fits w.signs p pass.len pass.dot
    then option_map_or (λ sums. closed_by closed pass.dot (Some (choice level sums.0 sums.1)) d)
    (counted_sums counts (window w.signs p pass.len pass.dot)) (closed d)
    else closed_by closed pass.dot None d)

-- the closed dots of a sign after a pass, where signs are counted through all words
abbrev pub closed_at_sign : LevelParams → Pass → Counts → List Word → (ℕ → ℕ → Bool) → ℕ → ℕ → Bool
closed_at_sign level pass counts words closed d s =
    let e = position_from 0 words s in
    option_map_or (λ w. closed_in level pass counts w e.at (λ c. closed c s) d)
    (slice_get words e.word) (closed d s)

-- a dot is open at one sign alone
abbrev pub open_at : ℕ → ℕ → ℕ → ℕ → Bool
open_at dot sign d s = nat_eq d dot && nat_eq s sign

-- what became of the window of a pass at a sign, by its number; none where it does not fit
pub record HasFate (pass : Pass) (words : List Word) (ws : Windows) (fates : List Choice) (s : ℕ)
    (fate : Option Choice) : Type 0 where
  pub outside : (w : Word) → slice_get words (position_from 0 words s).word ≡ Some w
      → fits w.signs (position_from 0 words s).at pass.len pass.dot ≡ false → fate ≡ None
  pub inside : (w : Word) → slice_get words (position_from 0 words s).word ≡ Some w
      → fits w.signs (position_from 0 words s).at pass.len pass.dot ≡ true
      → (n : ℕ) × (HasNumber ws (window w.signs (position_from 0 words s).at pass.len pass.dot) n)
      × (fate ≡ slice_get fates n)

-- open dots close by what became of their windows; closed ones stay as they are
pub record ClosesBy (after : ℕ → ℕ → Bool) (pass : Pass) (words : List Word) (ws : Windows)
    (fates : List Choice) (old : ℕ → ℕ → Bool) : Type 0 where
  pub stays : (s : ℕ) → old pass.dot s ≡ true → (d : ℕ) → after d s ≡ old d s
  pub closes : (s : ℕ) → s < sign_count words → old pass.dot s ≡ false → (fate : Option Choice)
      → HasFate pass words ws fates s fate
      → (d : ℕ) → closed_by (λ c. old c s) pass.dot fate d ≡ after d s
