-- A packed table and its totals, and refused tables, computed. The edge is sign 1, `a` 2, `b` 3 and `c` 4, and the one pattern
-- is `ab` with the value 1 between its letters.
use Rattle.std.proofs.Common.{◌≡◌, ℕ, true, false, List, [], ◌∷◌, ◌++◌, take, refl}
use Rattle.pg_types.specs.Placement.{with_sign}
use Rattle.pg_dict.specs.Word.{Word}
use Rattle.pg_outputs.specs.Lists.{list_of}
use Rattle.pg_table.specs.Numbers.{number_of_bytes, bytes_of_number}
use Rattle.pg_table.specs.Forms.{is_well_formed}
use Rattle.pg_table.specs.Lookups.{lookup, table_value, table_totals}
use Rattle.pg_table.specs.Texts.{table_text}

abbrev patterns : List ((List ℕ × ℕ) × ℕ)
patterns = ((2 ∷ 3 ∷ [], 2), 1) ∷ []

abbrev table : List ℕ
table =
    (80 ∷ 71 ∷ 84 ∷ 49 ∷ 0 ∷ 0 ∷ 0 ∷ 4 ∷ 0 ∷ 0 ∷ 0 ∷ 6 ∷ 0 ∷ 0 ∷ 0 ∷ 1 ∷ [])
    ++ (0 ∷ 0 ∷ 0 ∷ 0 ∷ 0 ∷ 0 ∷ 0 ∷ 0 ∷ 0 ∷ 0 ∷ [])
    ++ (0 ∷ 1 ∷ 0 ∷ 0 ∷ 0 ∷ 0 ∷ 0 ∷ 0 ∷ 0 ∷ 0 ∷ [])
    ++ (0 ∷ 2 ∷ 0 ∷ 0 ∷ 0 ∷ 2 ∷ 0 ∷ 0 ∷ 0 ∷ 0 ∷ [])
    ++ (0 ∷ 3 ∷ 0 ∷ 0 ∷ 0 ∷ 0 ∷ 0 ∷ 0 ∷ 0 ∷ 0 ∷ [])
    ++ (0 ∷ 4 ∷ 0 ∷ 0 ∷ 0 ∷ 0 ∷ 0 ∷ 0 ∷ 0 ∷ 0 ∷ [])
    ++ (0 ∷ 3 ∷ 0 ∷ 0 ∷ 0 ∷ 0 ∷ 0 ∷ 0 ∷ 0 ∷ 1 ∷ [])
    ++ (1 ∷ 2 ∷ 0 ∷ 0 ∷ 0 ∷ 0 ∷ [])

text_is_table : table_text 4 patterns ≡ table
unfolding table_text with_sign bytes_of_number
text_is_table = refl

table_is_sound : is_well_formed table ≡ true
unfolding is_well_formed number_of_bytes
table_is_sound = refl

short_table_is_not : is_well_formed (take 81 table) ≡ false
unfolding is_well_formed number_of_bytes
short_table_is_not = refl

list_of_ab : lookup table (2 ∷ 3 ∷ []) ≡ (1, 2) ∷ []
unfolding lookup number_of_bytes list_of
list_of_ab = refl

nothing_of_ac : lookup table (2 ∷ 4 ∷ []) ≡ []
unfolding lookup number_of_bytes list_of
nothing_of_ac = refl

value_in_a_word : table_value table (1 ∷ 2 ∷ 3 ∷ 4 ∷ 1 ∷ []) 3 ≡ 1
unfolding table_value lookup number_of_bytes list_of
value_in_a_word = refl

-- the words `ab-c` and `ab-a`, each weight 1
abbrev ab_c : Word
ab_c = record { signs = 1 ∷ 2 ∷ 3 ∷ 4 ∷ 1 ∷ []; hyphens = false ∷ false ∷ false ∷ true ∷ false ∷ []; weights = 1 ∷ 1 ∷ 1 ∷ 1 ∷ 1 ∷ []; cares = true ∷ true ∷ true ∷ true ∷ true ∷ []; weight = 1 }

abbrev ab_a : Word
ab_a = record { signs = 1 ∷ 2 ∷ 3 ∷ 2 ∷ 1 ∷ []; hyphens = false ∷ false ∷ false ∷ true ∷ false ∷ []; weights = 1 ∷ 1 ∷ 1 ∷ 1 ∷ 1 ∷ []; cares = true ∷ true ∷ true ∷ true ∷ true ∷ []; weight = 1 }

totals_of_both : table_totals (record { left = 1; right = 1; marks = []; spellings = [] }) (ab_c ∷ ab_a ∷ []) table ≡ record { good = 2; bad = 0; missed = 0 }
unfolding table_value lookup number_of_bytes list_of
totals_of_both = refl
