-- What the entries of a map of dotted strings give at the positions of a word.
use Rattle.std.specs.Prelude.{ℕ, Bool, ◌&&◌, if◌then◌else◌, List, [], ◌∷◌, length, max}
use Rattle.pg_select.specs.declared.pass.Pass.{Pass}
use Rattle.pg_select.specs.Inside.words.Positions.{bit, Raises}
use Rattle.pg_select.specs.Inside.words.WindowStrings.{is_within}

-- the greatest number of the entries whose dotted strings pass the test, 0 where there is none
abbrev pub greatest_by : {X : Type 0} → ((List ℕ × ℕ) × X → ℕ)
    → (List ℕ × ℕ → Bool) → List ((List ℕ × ℕ) × X) → ℕ
greatest_by number test [] = 0
greatest_by number test (e ∷ es) =
    max (if test e.0 then number e else 0) (greatest_by number test es)

-- for each position the greatest number of the entries whose dotted strings pass its test
abbrev pub greatest_at : {X : Type 0} → ((List ℕ × ℕ) × X → ℕ)
    → (ℕ → List ℕ × ℕ → Bool) → List ((List ℕ × ℕ) × X) → ℕ → ℕ
greatest_at number test es p = greatest_by number (test p) es

-- each position's number was raised to the greatest of the entries that pass its test
abbrev pub RaisesBy : {X : Type 0} → ((List ℕ × ℕ) × X → ℕ)
    → (ℕ → List ℕ × ℕ → Bool) → List ((List ℕ × ℕ) × X) → (ℕ → ℕ) → (ℕ → ℕ) → Type 0
RaisesBy number test es before after = Raises (greatest_at number test es) before after

-- the value that an entry gives to the position of its dot
abbrev pub entry_value : {X : Type 0} → (X → ℕ) → (List ℕ × ℕ) × X → ℕ
entry_value given e = given e.1

-- 1 where an entry covers at the level, and its string stands in the window of the position; else 0
abbrev pub entry_cover : {X : Type 0} → (ℕ → X → Bool) → Pass → (List ℕ × ℕ) × X → ℕ
entry_cover covers_at pass e =
    bit (covers_at pass.level e.1 && is_within pass.len pass.dot (length e.0.0) e.0.1)
