-- Windows of a few signs as numbers, with a sign for each digit.
use Rattle.std.specs.Prelude.{ℕ, zero, suc, ◌+◌, ◌*◌, ◌/◌, ◌%◌, List, [], ◌∷◌, ◌++◌, map, slice_index}
use Rattle.std.specs.List.{range_with_len}
use Rattle.pg_types.specs.Inside.counting.NumberedWindows.{Windows}

-- how many numbers of so many digits there are
abbrev pub code_count : ℕ → ℕ → ℕ
code_count radix zero = 1
code_count radix (suc len) = code_count radix len * radix

-- the number whose digits are the signs of the window from a start on
abbrev pub code_at : List ℕ → ℕ → ℕ → ℕ → ℕ
code_at signs radix start zero = 0
code_at signs radix start (suc len) =
    code_at signs radix start len * radix + slice_index signs (start + len)

-- so many digits of a number
abbrev pub digits : ℕ → ℕ → ℕ → List ℕ
digits radix zero code = []
digits radix (suc len) code = digits radix len (code / radix) ++ code % radix ∷ []

-- the windows of all codes, in the order of the codes
abbrev pub coded_windows : ℕ → ℕ → Windows
coded_windows radix len = map (digits radix len) (range_with_len 0 (code_count radix len))
