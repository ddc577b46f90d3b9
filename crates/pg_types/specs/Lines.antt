-- How a file is cut into lines.
use Rattle.std.specs.Prelude.{ℕ, ◌-◌, ◌==◌, Bool, true, false, if◌then◌else◌, List, [], ◌∷◌, length, map, take, slice_index}
use Rattle.std.specs.List.{onto_first}

-- the pieces between the bytes that pass a test; an empty piece at the end does not count
abbrev pub pieces_at : (ℕ → Bool) → List ℕ → List (List ℕ)
pieces_at test [] = []
pieces_at test (b ∷ bs) = if test b then [] ∷ pieces_at test bs
    else onto_first b (pieces_at test bs)

-- the line feed ends a line
abbrev pub is_line_feed : ℕ → Bool
is_line_feed b = b == 10

-- the lines of a file, each without the one CR at its end
abbrev pub lines : List ℕ → List (List ℕ)
lines bytes = map (λ line. if slice_index line (length line - 1) == 13
    then take (length line - 1) line else line) (pieces_at is_line_feed bytes)

-- whether a piece has a byte
abbrev pub has_byte : List ℕ → Bool
has_byte [] = false
has_byte (b ∷ bs) = true
