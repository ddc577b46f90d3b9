-- The text of one entry.
use Rattle.std.specs.Prelude.{ℕ, ◌-◌, List, [], ◌∷◌, length, take}
use Rattle.pg_translate.specs.Alphabets.{Alphabet}
use Rattle.pg_patterns.specs.Texts.{pattern_text}

-- the text of an entry: the pattern file of this entry alone, without its line feed
abbrev pub entry_text : Alphabet → (List ℕ × ℕ) × ℕ → List ℕ
entry_text t e = let line = pattern_text t (e ∷ []) in take (length line - 1) line
