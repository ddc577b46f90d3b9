-- What the lists of strings do at the positions of a word.
use Rattle.std.specs.Prelude.{◌≡◌, ℕ, ◌+◌, ◌-◌, ◌<◌, ◌&&◌, nat_le, nat_eq, if◌then◌else◌, List, length}
use Rattle.std.specs.List.{range_with_len}
use Rattle.pg_types.specs.declared.limits.TheConstants.{PATTERN_SIGNS_MAX, WORD_LETTERS_MAX}
use Rattle.pg_select.specs.Inside.words.Positions.{Positions, covers_of}
use Rattle.pg_table.specs.Lookups.{value_from}
use Rattle.pg_table.specs.Inside.view.Greatest.{greatest, value_in_list}

-- no position is covered
abbrev pub IsUncovered : Positions → Type 0
IsUncovered s = (p : ℕ) → p < WORD_LETTERS_MAX + 2 → covers_of s p ≡ 0

-- what one value with its dot gives to position p, where it is that of n signs from start on
abbrev pub by_value : ℕ → ℕ → ℕ × ℕ → ℕ → ℕ
by_value start n x p = if nat_le x.1 n && nat_eq (start + x.1) p then x.0 else 0

-- what the whole list of these n signs gives to position p
abbrev pub by_record_list : ℕ → ℕ → List (ℕ × ℕ) → ℕ → ℕ
by_record_list start n xs p = if nat_le start p && nat_le (p - start) n
    then value_in_list (p - start) xs else 0

-- what the lists of the strings that begin at start give, from n signs on
unfoldable pub by_table_strings : List ℕ → List ℕ → ℕ → ℕ → ℕ → ℕ
by_table_strings b w start n p = greatest (value_from b w p start)
    (range_with_len n (PATTERN_SIGNS_MAX + 1 - n))

-- what the lists of all strings give that begin at start or later
unfoldable pub by_table_starts : List ℕ → List ℕ → ℕ → ℕ → ℕ
by_table_starts b w start p = greatest (λ i. by_table_strings b w i 1 p)
    (range_with_len start (length w - start))
