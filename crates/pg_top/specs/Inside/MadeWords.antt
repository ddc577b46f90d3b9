-- The dictionary of `sample` by its words and their syllables, each with the state behind it.
use Rattle.std.specs.Prelude.{ℕ, zero, suc, ◌+◌, ◌/◌, ◌%◌, ◌==◌, if◌then◌else◌, List, [], ◌∷◌, ◌++◌, flat_map, slice_index, codes}
use Rattle.pg_draws.specs.DrawnNumbers.{drawn}

-- the state after a draw
abbrev pub next_state : ℕ → ℕ
next_state x = (drawn 1 x).1

-- the number below m that is drawn with this state
abbrev pub draw : ℕ → ℕ → ℕ
draw m x = x / 65536 % m

-- a text that was made, and the state behind it
pub record MadeText : Type 0 where
  pub text : List ℕ
  pub state : ℕ

-- the end of a syllable
unfoldable pub ending : ℕ → MadeText
ending x = let y = next_state x in if draw 4 x == 0
    then record { text = slice_index (codes "nrs") (draw 3 y) ∷ []; state = y }
    else record { text = []; state = x }

-- a syllable
unfoldable pub syllable : ℕ → MadeText
syllable x = let c = next_state x in let v = next_state c in let end = ending (next_state v) in
    let front = slice_index (codes "aeiou") (draw 5 v) ∷ end.text in
    record { text = slice_index (codes "bdfgklmnprst") (draw 12 c) ∷ front; state = end.state }

-- so many further syllables, each behind a hyphen
abbrev pub further_syllables : ℕ → ℕ → MadeText
further_syllables zero x = record { text = []; state = x }
further_syllables (suc n) x = let one = syllable x in let more = further_syllables n one.state in
    record { text = 45 ∷ (one.text ++ more.text); state = more.state }

-- a word
unfoldable pub word : ℕ → MadeText
word x = let size = next_state x in let first = syllable size in
    let more = further_syllables (draw 3 size + 1) first.state in
    record { text = first.text ++ more.text; state = more.state }

-- so many words, one after the other
abbrev pub words_made : ℕ → ℕ → List (List ℕ)
words_made zero x = []
words_made (suc n) x = (word x).text ∷ words_made n (word x).state

-- their lines
abbrev pub lines_made : ℕ → ℕ → List ℕ
lines_made seed count = flat_map (λ text. text ++ 10 ∷ []) (words_made count seed)
