-- The windows of a pass by their numbers, as the pass keeps them.
use Rattle.std.specs.Prelude.{◌≡◌, ℕ, Bool, true, false, not, ◌&&◌, List, ◌++◌, length, slice_get, Option, None, Some, ◌⊎◌}
use Rattle.std.specs.Option.{option_map_or}
use Rattle.pg_types.specs.declared.parameters.LevelParams.{LevelParams}
use Rattle.pg_types.specs.Inside.counting.Counts.{Counts, counted_sums, is_counted}
use Rattle.pg_types.specs.Inside.counting.NumberedWindows.{Windows, HasNumber}
use Rattle.pg_dict.specs.Word.{Word}
use Rattle.pg_starts.specs.declared.start_counts.StartCounts.{StartCounts}
use Rattle.pg_starts.specs.Inside.StartCountings.{counts_in, windows_in}
use Rattle.pg_patterns.specs.Values.{Patterns}
use Rattle.pg_select.specs.declared.pass.Pass.{Pass}
use Rattle.pg_select.specs.declared.choice.Choice.{Choice}
use Rattle.pg_select.specs.declared.choice.Choice.TheVariants.{Left}
use Rattle.pg_select.specs.Inside.Choices.{choice}
use Rattle.pg_select.specs.Inside.engine.Meanings.{Meaning}
use Rattle.pg_select.specs.Windows.{Hopeless, window, fits, is_covered}
use Rattle.pg_driver.specs.declared.pass_windows.WordPosition.{WordPosition}
use Rattle.pg_driver.specs.declared.pass_windows.TheConstants.{NO_NUMBER}

-- whether the window of a pass at a position fits and is not covered
abbrev pub uncovered_at : Pass → Patterns → Hopeless → Word → WordPosition → Bool
uncovered_at pass P H w e =
    fits w.signs e.at pass.len pass.dot
    && not (is_covered pass.level P H (window w.signs e.at pass.len pass.dot) pass.dot)

-- whether the window of a pass at a position fits and is counted
abbrev pub is_counted_at : Pass → Counts → Word → WordPosition → Bool
is_counted_at pass counts w e =
    fits w.signs e.at pass.len pass.dot && is_counted counts (window w.signs e.at pass.len pass.dot)

-- n is the number of the position's window where the window counts. Else it is `NO_NUMBER`, or that
-- of the window all the same
pub record IsNumbered (pass : Pass) (counts : Word → WordPosition → Bool) (words : List Word)
    (ws : Windows) (e : WordPosition) (n : ℕ) : Type 0 where
  pub counted : (w : Word) → slice_get words e.word ≡ Some w → counts w e ≡ true
      → HasNumber ws (window w.signs e.at pass.len pass.dot) n
  pub uncounted : (w : Word) → slice_get words e.word ≡ Some w → counts w e ≡ false
      → (n ≡ NO_NUMBER) ⊎ ((fits w.signs e.at pass.len pass.dot ≡ true)
      × HasNumber ws (window w.signs e.at pass.len pass.dot) n)

-- a position gets the number of its window where it counts, as good or as bad; else `NO_NUMBER`
abbrev pub GetsNumber : Option Bool → Windows → List ℕ → ℕ → Type 0
GetsNumber None ws u n = n ≡ NO_NUMBER
GetsNumber (Some good) ws u n = HasNumber ws u n

-- each position has its number
pub record HaveNumbers (pass : Pass) (counts : Word → WordPosition → Bool) (words : List Word)
    (ws : Windows) (entries : List WordPosition) (ns : List ℕ) : Type 0 where
  pub size : length ns ≡ length entries
  pub each : (k : ℕ) (e : WordPosition) (n : ℕ) → slice_get entries k ≡ Some e
      → slice_get ns k ≡ Some n → IsNumbered pass counts words ws e n

-- in a word, a pass noted the numbers of the windows of more positions
abbrev pub NotesNumbers : Pass → ℕ → Word → Meaning → Windows → List WordPosition → List ℕ → List ℕ
    → Type 0
NotesNumbers pass n w m ws more ns after = (words : List Word) (entries : List WordPosition)
    → slice_get words n ≡ Some w
    → HaveNumbers pass (uncovered_at pass m.patterns m.hopeless) words ws entries ns
    → HaveNumbers pass (uncovered_at pass m.patterns m.hopeless) words ws (entries ++ more) after

-- what becomes of a window with these sums; it is left where it was not counted
abbrev pub fate_of_sums : LevelParams → Option (ℕ × ℕ) → Choice
fate_of_sums params o = option_map_or (λ sums. choice params sums.0 sums.1) o Left

-- what becomes of the windows, by number
pub record AreFates (params : LevelParams) (counts : Counts) (ws : Windows) (fates : List Choice)
    : Type 0 where
  pub size : length fates ≡ length ws
  pub each : (u : List ℕ) (n : ℕ) → HasNumber ws u n
      → slice_get fates n ≡ Some (fate_of_sums params (counted_sums counts u))

-- each of the entries is one of the counts
abbrev pub IsPart : Counts → Counts → Type 0
IsPart rest counts = (k : ℕ) (e : List ℕ × (ℕ × ℕ)) → slice_get rest k ≡ Some e
    → counted_sums counts e.0 ≡ Some e.1

-- the window has the number and these sums
pub record IsCandidate (signs : List ℕ) (c : StartCounts) (n : ℕ) (u : List ℕ) (s : ℕ × ℕ)
    : Type 0 where
  pub number : HasNumber (windows_in signs c) u n
  pub sums : counted_sums (counts_in signs c) u ≡ Some s
