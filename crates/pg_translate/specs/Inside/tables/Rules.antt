-- The rules that every table keeps.
use Rattle.std.specs.Prelude.{◌≡◌, ℕ, ◌+◌, ◌-◌, ◌<◌, ◌≤◌, true, false, List, [], length}
use Rattle.pg_translate.specs.declared.head.TheConstants.{MINIMUM_MAX}
use Rattle.pg_types.specs.declared.limits.TheConstants.{SIGNS_MAX}
use Rattle.pg_translate.specs.Alphabets.{Alphabet, letters_of}
use Rattle.pg_translate.specs.Inside.spellings.FirstSpellings.{first_spelling}
use Rattle.pg_translate.specs.Spellings.{is_spelling, clash}
use Rattle.pg_translate.specs.Inside.spellings.Members.{IsAmong}
use Rattle.pg_translate.specs.Inside.tables.Checks.{mark_checks}

-- the rules of the translate file on minima, marks, letters and spellings
pub record KeepsRules (t : Alphabet) : Type 0 where
  pub left_some : 0 < t.left
  pub left_few : t.left ≤ MINIMUM_MAX
  pub right_some : 0 < t.right
  pub right_few : t.right ≤ MINIMUM_MAX
  pub four : length t.marks ≡ 4
  pub marks_pass : mark_checks t.marks ≡ []
  pub letters_few : letters_of t ≤ SIGNS_MAX - 1
  pub signs_low : (s : ℕ × List ℕ) → IsAmong s t.spellings → 1 < s.0
  pub signs_high : (s : ℕ × List ℕ) → IsAmong s t.spellings → s.0 ≤ letters_of t + 1
  pub spelled : (s : ℕ × List ℕ) → IsAmong s t.spellings → is_spelling t.marks s.1 ≡ true
  pub apart : (s r : ℕ × List ℕ) → IsAmong s t.spellings → IsAmong r t.spellings → clash s r ≡ false
  pub each : (sign : ℕ) → 2 ≤ sign → sign ≤ letters_of t + 1
      → IsAmong (sign, first_spelling t.spellings sign) t.spellings
