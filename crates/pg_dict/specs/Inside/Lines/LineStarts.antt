-- What a line gives, from where its reading stands before its first letter, or right behind it.
use Rattle.std.specs.Prelude.{◌≡◌, ◌<◌, ◌≤◌, ◌+◌, ◌-◌, ℕ, List, ◌∷◌, length, None, Result, Ok, Err}
use Rattle.pg_types.specs.declared.limits.TheConstants.{WEIGHT_MAX, WORD_LETTERS_MAX}
use Rattle.pg_types.specs.declared.refusals.Refusal.{Refusal}
use Rattle.pg_types.specs.ValuesOrRefusals.{unless}
use Rattle.pg_translate.specs.Alphabets.{Alphabet, letters_of}
use Rattle.pg_translate.specs.Tokens.{Letter}
use Rattle.pg_translate.specs.Inside.items.Cuts.{tokens_of}
use Rattle.pg_translate.specs.Inside.items.Rests.{cut_rest}
use Rattle.pg_translate.specs.Inside.items.Refusing.{cut_refusal, refusal_with_room}
use Rattle.pg_translate.specs.declared.items.Place.TheVariants.{Dictionary}
use Rattle.pg_dict.specs.declared.entries.line.Line.{Line}
use Rattle.pg_dict.specs.declared.entries.line_start.LineStart.{LineStart}
use Rattle.pg_dict.specs.declared.entries.line_start.LineStart.TheVariants.{Word, Empty}
use Rattle.pg_dict.specs.Inside.LineWords.{LineWord}
use Rattle.pg_dict.specs.Inside.Lines.RunningWords.{running_word}

-- what a line gives, from its rest before the first letter and the word weight so far
abbrev pub rest_reading : Alphabet → ℕ → ℕ → ℕ → List ℕ → Result LineWord Refusal
rest_reading t line size weight rest = let c = cut_rest t Dictionary size rest in
    unless (cut_refusal Dictionary line c) (running_word weight (tokens_of c))

-- what a line gives, from its first letter and the rest behind it
abbrev pub word_reading : Alphabet → ℕ → ℕ → ℕ → ℕ → List ℕ → Result LineWord Refusal
word_reading t line size weight sign rest = let c = cut_rest t Dictionary size rest in
    unless (refusal_with_room Dictionary line (WORD_LETTERS_MAX - 1) c)
    (running_word weight (Letter sign ∷ tokens_of c))

-- what a line of a known word weight gives, from its first letter and the rest
abbrev pub word_reading_by : Line → ℕ → List ℕ → Result LineWord Refusal
word_reading_by l sign rest = word_reading l.table.now l.number l.size l.weight sign rest

-- the first letter, from which the line gives the whole; or the line gives no word; or a refusal
abbrev pub IsLineStart : Line → Result LineWord Refusal → Result LineStart Refusal → Type 0
IsLineStart l whole (Ok (Word weight sign rest)) =
    (word_reading l.table.now l.number l.size weight sign rest.now ≡ whole)
    × (length rest.now < l.size) × (weight ≤ WEIGHT_MAX)
    × (1 < sign) × (sign ≤ letters_of l.table.now + 1)
IsLineStart l whole (Ok (Empty weight)) = (whole ≡ Ok (record { word = None; weight = weight }))
    × (weight ≤ WEIGHT_MAX)
IsLineStart l whole (Err r) = whole ≡ Err r
