-- What is known while a pass is counted, and the room that its counts have.
use Rattle.std.specs.Prelude.{◌≡◌, ℕ, ◌+◌, ◌*◌, ◌≤◌, ◌<◌, Bool, true, T, List, [], length, sum_by}
use Rattle.std.specs.List.{list_all}
use Rattle.std.specs.Ordering.{nat_cmp, is_lt}
use Rattle.std.specs.Cmp.Lexicographic.{slice_cmp}
use Rattle.std.specs.FinMap.Entries.{is_sorted}
use Rattle.pg_types.specs.declared.limits.TheConstants.{WEIGHT_MAX, FILE_MAX}
use Rattle.pg_types.specs.Inside.Signs.{SignsWithin}
use Rattle.pg_translate.specs.Alphabets.{Alphabet}
use Rattle.pg_dict.specs.Word.{Word}
use Rattle.pg_dict.specs.Inside.SoundWords.{IsWord, letter_count}
use Rattle.pg_types.specs.Inside.counting.Counts.{Counts}
use Rattle.pg_dict.specs.Inside.Store.{all_signs}
use Rattle.pg_starts.specs.declared.start_numbers.StartNumbers.{StartNumbers}
use Rattle.pg_starts.specs.Inside.Known.{AreKnown, is_numbered}
use Rattle.pg_select.specs.Inside.laws.Laws.{AreFew, number_of_positions}
use Rattle.pg_select.specs.Inside.engine.Meanings.{Meaning}
use Rattle.pg_select.specs.Inside.words.Positions.{Positions, HasValues, HasCovers}

-- the windows of a length that may be counted have numbers: those at open dots, or all
pub record AreNumbersFor (words : List Word) (size : ℕ) (is_open : ℕ → ℕ → Bool) (n : StartNumbers)
    : Type 0 where
  pub known : AreKnown (all_signs words) n
  pub len : n.len ≡ size
  pub each : (d i : ℕ) → d ≤ size → i + size ≤ length (all_signs words)
      → i + d < length (all_signs words) → is_open d (i + d) ≡ true
      → is_numbered (all_signs words) n i ≡ true

-- what an engine found of the positions of a word
pub record IsRead (m : Meaning) (w : Word) (at : Positions) : Type 0 where
  pub word : IsWord w
  pub signs : SignsWithin m.signs w.signs
  pub values : HasValues m.patterns w.signs at.values
  pub covers : HasCovers m.pass m.patterns m.hopeless w.signs at.covers

-- the words are few, and have together no more positions in reach than letters
pub record IsBounded (T : Alphabet) (W : List Word) : Type 0 where
  pub few : AreFew W
  pub reached : number_of_positions T W ≤ sum_by letter_count W

-- whether the window of an entry has a sign
abbrev pub is_filled : List ℕ × (ℕ × ℕ) → Bool
is_filled e = is_lt (slice_cmp nat_cmp [] e.0)

-- the sums of all windows together
abbrev pub weight_in : Counts → ℕ
weight_in counts = sum_by (λ e. e.1.0 + e.1.1) counts

-- counts have room for n more positions, in a dictionary of the greatest size
pub record HasRoom (counts : Counts) (n : ℕ) : Type 0 where
  pub sorted : T (is_sorted (slice_cmp nat_cmp) counts)
  pub filled : list_all is_filled counts ≡ true
  pub few : length counts + n ≤ FILE_MAX
  pub light : weight_in counts + WEIGHT_MAX * n ≤ WEIGHT_MAX * FILE_MAX

-- at most n positions more turned the old counts into the new ones
pub record TookRoom (old new : Counts) (n : ℕ) : Type 0 where
  pub sorted : T (is_sorted (slice_cmp nat_cmp) new)
  pub filled : list_all is_filled new ≡ true
  pub few : length new ≤ length old + n
  pub light : weight_in new ≤ weight_in old + WEIGHT_MAX * n
