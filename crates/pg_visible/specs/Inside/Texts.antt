-- What a text is to the terminal that shows it.
use Rattle.std.specs.Prelude.{◌≡◌, ◌≤◌, ℕ, true, List, ◌∷◌, length, take, slice_index}
use Rattle.std.specs.List.{list_all}
use Rattle.pg_visible.specs.declared.text.TheConstants.{LINES_MAX}
use Rattle.pg_visible.specs.Inside.Bytes.{is_text_byte, line_count}

-- a few whole lines without a control byte; each ends with a line feed
pub record IsVisibleText (bytes : List ℕ) : Type 0 where
  pub printable : list_all is_text_byte bytes ≡ true
  pub whole : slice_index (10 ∷ bytes) (length bytes) ≡ 10
  pub few : line_count bytes ≤ LINES_MAX

-- what was there stays in front of what comes
abbrev pub Keeps : List ℕ → List ℕ → Type 0
Keeps before after = take (length before) after ≡ before
