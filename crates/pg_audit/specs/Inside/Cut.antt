-- The first line of a file with its line feed, and what follows it.
use Rattle.std.specs.Prelude.{ℕ, if◌then◌else◌, List, [], ◌∷◌}
use Rattle.pg_types.specs.Lines.{is_line_feed}

-- the bytes up to the first line feed, which is one of them, or all bytes
abbrev pub first_whole : List ℕ → List ℕ
first_whole [] = []
first_whole (b ∷ bs) = if is_line_feed b then b ∷ [] else b ∷ first_whole bs

-- the bytes behind the first line feed, or none
abbrev pub rest_whole : List ℕ → List ℕ
rest_whole [] = []
rest_whole (b ∷ bs) = if is_line_feed b then bs else rest_whole bs
