-- Small runs, computed on the trace. The table has the minima 1 and 1, and the letters a, b and c with the signs 2, 3 and 4.
use Rattle.std.proofs.Common.{◌≡◌, ℕ, Bool, true, false, List, [], ◌∷◌, map, codes, refl}
use Rattle.pg_types.specs.declared.marks.Totals.{Totals}
use Rattle.pg_types.specs.declared.parameters.LevelParams.{LevelParams}
use Rattle.pg_types.specs.Parameters.{Parameters}
use Rattle.pg_types.specs.Placement.{root, with_sign}
use Rattle.pg_translate.specs.Alphabets.{Alphabet}
use Rattle.pg_dict.specs.Word.{Word}
use Rattle.pg_patterns.specs.Values.{Patterns}
use Rattle.pg_select.specs.declared.pass.Pass.{Pass}
use Rattle.pg_select.specs.CountedPositions.{Candidate, candidates_of}
use Rattle.pg_driver.specs.Dots.{order}
use Rattle.pg_driver.specs.Accounts.{begun_count}
use Rattle.pg_driver.specs.Inside.records.AccountLines.{Account, LevelLine, PassLine, account}
use Rattle.pg_driver.specs.Inside.records.CellsAccounts.{CellsAccount, cells_account}
use Rattle.pg_driver.specs.Traces.{final_patterns, trace}

-- a word of these signs, with these hyphens, and with weight 1 everywhere
abbrev word : List ℕ → List Bool → Word
word signs hyphens = record { signs = signs; hyphens = hyphens; weights = map (λ _. 1) signs; cares = map (λ _. true) signs; weight = 1 }

abbrev letters_abc : Alphabet
letters_abc = record { left = 1; right = 1; marks = codes ".-*?"; spellings = (2, codes "a") ∷ (3, codes "b") ∷ (4, codes "c") ∷ [] }

abbrev level : ℕ → ℕ → ℕ → ℕ → ℕ → LevelParams
level from to good bad threshold = record { pat_start = from; pat_finish = to; good_wt = good; bad_wt = bad; thresh = threshold }

abbrev one_level : LevelParams → Parameters
one_level l = record { start = 1; finish = 1; levels = l ∷ [] }

abbrev sums : ℕ → ℕ → ℕ → Totals
sums good bad missed = record { good = good; bad = bad; missed = missed }

-- the numbers of a pass line: level, length, dot; the totals before; candidates, chosen, hopeless; good and bad of the chosen
abbrev numbers : PassLine → (ℕ × ℕ × ℕ) × Totals × (ℕ × ℕ × ℕ) × (ℕ × ℕ)
numbers l = ((l.pass.level, l.pass.len, l.pass.dot), l.before, (l.candidates, l.chosen, l.hopeless), (l.good, l.bad))

abbrev level_numbers : LevelLine → ℕ × ℕ × Totals
level_numbers l = (l.level, l.chosen, l.after)

abbrev pass_numbers : Account → List ((ℕ × ℕ × ℕ) × Totals × (ℕ × ℕ × ℕ) × (ℕ × ℕ))
pass_numbers a = map numbers a.passes

-- the final patterns of a run, and what is told of it
abbrev patterns : List Word → Parameters → Patterns → Patterns
patterns words parameters S = final_patterns S (trace letters_abc words parameters S)

abbrev told : List Word → Parameters → Patterns → Account
told words parameters S = account letters_abc words S (trace letters_abc words parameters S)

-- the words ab-c and ab-a
abbrev two_words : List Word
two_words = word (1 ∷ 2 ∷ 3 ∷ 4 ∷ 1 ∷ []) (false ∷ false ∷ false ∷ true ∷ false ∷ []) ∷ word (1 ∷ 2 ∷ 3 ∷ 2 ∷ 1 ∷ []) (false ∷ false ∷ false ∷ true ∷ false ∷ []) ∷ []

abbrev three_passes : Account
three_passes = told two_words (one_level (level 2 2 1 1 2)) []

one_pattern : patterns two_words (one_level (level 2 2 1 1 2)) [] ≡ ((2 ∷ 3 ∷ [], 2), 1) ∷ []
one_pattern = refl

one_pattern_passes : pass_numbers three_passes ≡ ((1, 2, 1), sums 0 0 2, (3, 0, 3), (0, 0)) ∷ ((1, 2, 0), sums 0 0 2, (4, 0, 4), (0, 0)) ∷ ((1, 2, 2), sums 0 0 2, (2, 1, 1), (2, 0)) ∷ []
one_pattern_passes = refl

one_pattern_levels : map level_numbers three_passes.levels ≡ (1, 1, sums 2 0 0) ∷ []
one_pattern_levels = refl

-- the counts of its passes
abbrev counts : Candidate → List ℕ × ℕ × ℕ
counts c = (c.window, c.good, c.bad)

abbrev counts_of : ℕ → List (List ℕ × ℕ × ℕ)
counts_of dot = map counts (candidates_of letters_abc two_words (record { level = 1; len = 2; dot = dot }) [] [])

counts_at_dot_1 : counts_of 1 ≡ (2 ∷ 3 ∷ [], 0, 2) ∷ (3 ∷ 2 ∷ [], 1, 0) ∷ (3 ∷ 4 ∷ [], 1, 0) ∷ []
counts_at_dot_1 = refl

counts_at_dot_0 : counts_of 0 ≡ (2 ∷ 1 ∷ [], 1, 0) ∷ (3 ∷ 2 ∷ [], 0, 1) ∷ (3 ∷ 4 ∷ [], 0, 1) ∷ (4 ∷ 1 ∷ [], 1, 0) ∷ []
counts_at_dot_0 = refl

counts_at_dot_2 : counts_of 2 ≡ (1 ∷ 2 ∷ [], 0, 2) ∷ (2 ∷ 3 ∷ [], 2, 0) ∷ []
counts_at_dot_2 = refl

-- with threshold 1 the patterns are chosen at the first dot
abbrev first_dot : Account
first_dot = told two_words (one_level (level 2 2 1 1 1)) []

first_dot_patterns : patterns two_words (one_level (level 2 2 1 1 1)) [] ≡ ((3 ∷ 2 ∷ [], 1), 1) ∷ ((3 ∷ 4 ∷ [], 1), 1) ∷ []
first_dot_patterns = refl

first_dot_passes : pass_numbers first_dot ≡ ((1, 2, 1), sums 0 0 2, (3, 2, 1), (2, 0)) ∷ ((1, 2, 0), sums 2 0 0, (2, 0, 2), (0, 0)) ∷ ((1, 2, 2), sums 2 0 0, (1, 0, 1), (0, 0)) ∷ []
first_dot_passes = refl

-- a window that is covered by a starting pattern is no candidate
abbrev covered_window : Account
covered_window = told two_words (one_level (level 2 2 1 1 1)) (((3 ∷ 4 ∷ [], 1), 2) ∷ [])

covered_window_patterns : patterns two_words (one_level (level 2 2 1 1 1)) (((3 ∷ 4 ∷ [], 1), 2) ∷ []) ≡ ((2 ∷ 3 ∷ [], 2), 1) ∷ ((3 ∷ 2 ∷ [], 1), 1) ∷ ((3 ∷ 4 ∷ [], 1), 2) ∷ ((4 ∷ 1 ∷ [], 0), 1) ∷ []
covered_window_patterns = refl

covered_window_passes : pass_numbers covered_window ≡ ((1, 2, 1), sums 0 0 2, (2, 1, 1), (1, 0)) ∷ ((1, 2, 0), sums 1 0 1, (3, 1, 2), (1, 0)) ∷ ((1, 2, 2), sums 1 0 1, (2, 1, 1), (1, 0)) ∷ []
covered_window_passes = refl

-- a starting value above the level
value_above_the_level : patterns two_words (one_level (level 2 2 1 1 1)) (((3 ∷ 4 ∷ [], 1), 3) ∷ []) ≡ ((3 ∷ 2 ∷ [], 1), 1) ∷ ((3 ∷ 4 ∷ [], 1), 3) ∷ []
value_above_the_level = refl

-- the words a-b, a-b and cab, at two levels
abbrev a_b : Word
a_b = word (1 ∷ 2 ∷ 3 ∷ 1 ∷ []) (false ∷ false ∷ true ∷ false ∷ [])

abbrev three_words : List Word
three_words = a_b ∷ a_b ∷ word (1 ∷ 4 ∷ 2 ∷ 3 ∷ 1 ∷ []) (false ∷ false ∷ false ∷ false ∷ false ∷ []) ∷ []

abbrev levels_1_and_2 : Parameters
levels_1_and_2 = record { start = 1; finish = 2; levels = level 2 2 1 1 1 ∷ level 3 3 1 1 1 ∷ [] }

abbrev two_levels : Account
two_levels = told three_words levels_1_and_2 []

two_levels_patterns : patterns three_words levels_1_and_2 [] ≡ ((2 ∷ 3 ∷ [], 1), 1) ∷ ((4 ∷ 2 ∷ 3 ∷ [], 2), 2) ∷ []
two_levels_patterns = refl

two_levels_passes : pass_numbers two_levels ≡ ((1, 2, 1), sums 0 0 2, (2, 1, 1), (2, 1)) ∷ ((1, 2, 0), sums 2 1 0, (1, 0, 1), (0, 0)) ∷ (
  (1, 2, 2),
  sums 2 1 0,
  (1, 0, 1),
  (0, 0),
) ∷ ((2, 3, 1), sums 2 1 0, (1, 0, 0), (0, 0)) ∷ ((2, 3, 2), sums 2 1 0, (2, 1, 1), (1, 0)) ∷ []
two_levels_passes = refl

two_levels_levels : map level_numbers two_levels.levels ≡ (1, 1, sums 2 1 0) ∷ (2, 1, sums 2 0 0) ∷ []
two_levels_levels = refl

-- ab-0c: a position of weight 0 gives candidates
abbrev weight_0 : Account
weight_0 = told (record {
  signs = 1 ∷ 2 ∷ 3 ∷ 4 ∷ 1 ∷ [];
  hyphens = false ∷ false ∷ false ∷ true ∷ false ∷ [];
  weights = 1 ∷ 1 ∷ 1 ∷ 0 ∷ 1 ∷ [];
  cares =
      true ∷ true ∷ true ∷ true ∷ true ∷ [];
  weight = 1;
} ∷ []) (one_level (level 2 2 1 1 1)) []

weight_0_passes : pass_numbers weight_0 ≡ ((1, 2, 1), sums 0 0 0, (2, 0, 2), (0, 0)) ∷ ((1, 2, 0), sums 0 0 0, (2, 0, 2), (0, 0)) ∷ ((1, 2, 2), sums 0 0 0, (2, 0, 2), (0, 0)) ∷ []
weight_0_passes = refl

-- ab?c and ab-a: a don't-care position counts nowhere
abbrev with_dont_care : List Word
with_dont_care = record {
  signs = 1 ∷ 2 ∷ 3 ∷ 4 ∷ 1 ∷ [];
  hyphens = false ∷ false ∷ false ∷ false ∷ false ∷ [];
  weights = 1 ∷ 1 ∷ 1 ∷ 1 ∷ 1 ∷ [];
  cares =
      true ∷ true ∷ true ∷ false ∷ true ∷ [];
  weight = 1;
} ∷ word (1 ∷ 2 ∷ 3 ∷ 2 ∷ 1 ∷ []) (false ∷ false ∷ false ∷ true ∷ false ∷ []) ∷ []

abbrev dont_care : Account
dont_care = told with_dont_care (one_level (level 2 2 1 1 1)) []

dont_care_patterns : patterns with_dont_care (one_level (level 2 2 1 1 1)) [] ≡ ((3 ∷ 2 ∷ [], 1), 1) ∷ []
dont_care_patterns = refl

dont_care_passes : pass_numbers dont_care ≡ ((1, 2, 1), sums 0 0 1, (2, 1, 1), (1, 0)) ∷ ((1, 2, 0), sums 1 0 0, (2, 0, 2), (0, 0)) ∷ ((1, 2, 2), sums 1 0 0, (1, 0, 1), (0, 0)) ∷ []
dont_care_passes = refl

-- the number of passes that cannot be skipped: all seven where each of length 2 left a candidate, three where there is no word
abbrev begun_of : List Word → Parameters → ℕ
begun_of words parameters = begun_count (trace letters_abc words parameters [])

passes_left : begun_of (a_b ∷ word (1 ∷ 2 ∷ 3 ∷ 1 ∷ []) (false ∷ false ∷ false ∷ false ∷ []) ∷ []) (one_level (level 2 3 1 1 1)) ≡ 7
passes_left = refl

passes_skipped : begun_of [] (one_level (level 2 3 1 1 1)) ≡ 3
passes_skipped = refl

-- the layouts along the first run
abbrev cells : CellsAccount
cells = cells_account 4 (root 4) [] (trace letters_abc two_words (one_level (level 2 2 1 1 2)) [])

layout_at_start : cells.start ≡ record { taken = 4; top = 4; tails = 0 }
layout_at_start = refl

abbrev by_dot : Pass × ℕ × ℕ → ℕ × ℕ × ℕ
by_dot p = (p.0.dot, p.1, p.2)

layouts_of_passes : map by_dot cells.passes ≡ (1, 7, 8) ∷ (0, 9, 10) ∷ (2, 10, 10) ∷ []
unfolding with_sign
layouts_of_passes = refl

layout_of_the_level : cells.levels ≡ (1, record { taken = 5; top = 9; tails = 1 }) ∷ []
unfolding with_sign
layout_of_the_level = refl

-- starting values of 1 and 2 at three levels: above, at and below the level
abbrev four_words : List Word
four_words = word (1 ∷ 2 ∷ 3 ∷ 4 ∷ 1 ∷ []) (false ∷ false ∷ false ∷ true ∷ false ∷ [])
    ∷ word (1 ∷ 2 ∷ 3 ∷ 2 ∷ 1 ∷ []) (false ∷ false ∷ false ∷ true ∷ false ∷ [])
    ∷ word (1 ∷ 2 ∷ 3 ∷ 4 ∷ 3 ∷ 1 ∷ []) (false ∷ false ∷ true ∷ false ∷ false ∷ false ∷ [])
    ∷ word (1 ∷ 4 ∷ 2 ∷ 3 ∷ 4 ∷ 1 ∷ []) (false ∷ false ∷ false ∷ false ∷ false ∷ false ∷ [])
    ∷ []

abbrev levels_1_to_3 : Parameters
levels_1_to_3 = record { start = 1; finish = 3; levels = level 2 2 1 1 1 ∷ level 2 2 1 1 1 ∷ level 2 3 1 1 1 ∷ [] }

abbrev starting_values : Patterns
starting_values = ((2 ∷ [], 1), 1) ∷ ((3 ∷ 4 ∷ [], 1), 2) ∷ []

starting_values_patterns : patterns four_words levels_1_to_3 starting_values ≡ ((2 ∷ [], 1), 1) ∷ ((2 ∷ 3 ∷ [], 1), 2) ∷ ((3 ∷ 2 ∷ [], 1), 1) ∷ ((3 ∷ 4 ∷ [], 1), 2) ∷ ((3 ∷ 4 ∷ 3 ∷ [], 0), 3) ∷ []
starting_values_patterns = refl

starting_values_levels : map level_numbers (told four_words levels_1_to_3 starting_values).levels ≡ (1, 1, sums 2 3 1) ∷ (2, 1, sums 1 0 2) ∷ (3, 1, sums 2 0 1) ∷ []
starting_values_levels = refl

-- the orders of the dots
orders : map order (1 ∷ 2 ∷ 3 ∷ 4 ∷ 5 ∷ 6 ∷ 7 ∷ [])
    ≡ (0 ∷ 1 ∷ []) ∷ (1 ∷ 0 ∷ 2 ∷ []) ∷ (1 ∷ 2 ∷ 0 ∷ 3 ∷ []) ∷ (2 ∷ 1 ∷ 3 ∷ 0 ∷ 4 ∷ []) ∷ (2 ∷ 3 ∷ 1 ∷ 4 ∷ 0 ∷ 5 ∷ []) ∷ (3 ∷ 2 ∷ 4 ∷ 1 ∷ 5 ∷ 0 ∷ 6 ∷ []) ∷ (3 ∷ 4 ∷ 2 ∷ 5 ∷ 1 ∷ 6 ∷ 0 ∷ 7 ∷ []) ∷ []
orders = refl
