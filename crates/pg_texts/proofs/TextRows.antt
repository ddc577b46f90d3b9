-- Worked rows of the texts, computed on the traces of their runs. The table has the minima 1 and 1, and the letters a, b and c with the signs 2, 3 and 4.
use Rattle.std.proofs.Common.{◌≡◌, ℕ, Bool, true, false, List, [], ◌∷◌, ◌++◌, map, refl, codes}
use Rattle.std.specs.Fmt.{digits}
use Rattle.pg_types.specs.declared.parameters.LevelParams.{LevelParams}
use Rattle.pg_types.specs.Parameters.{Parameters}
use Rattle.pg_types.specs.Placement.{with_sign}
use Rattle.pg_translate.specs.Alphabets.{Alphabet}
use Rattle.pg_dict.specs.Word.{Word}
use Rattle.pg_patterns.specs.Values.{Patterns}
use Rattle.pg_patterns.specs.Texts.{pattern_text}
use Rattle.pg_driver.specs.Traces.{trace, final_patterns}
use Rattle.pg_texts.specs.ReportTexts.{report_text}
use Rattle.pg_texts.specs.PattmpTexts.{pattmp_text}
use Rattle.pg_texts.specs.CellsTexts.{cells_text}

-- the table of the rows
abbrev letters_abc : Alphabet
letters_abc = record { left = 1; right = 1; marks = codes ".-*?"; spellings = (2, codes "a") ∷ (3, codes "b") ∷ (4, codes "c") ∷ [] }

-- a word of these signs, with these hyphens, and with weight 1 everywhere
abbrev word : List ℕ → List Bool → Word
word signs hyphens = record { signs = signs; hyphens = hyphens; weights = map (λ _. 1) signs; cares = map (λ _. true) signs; weight = 1 }

abbrev level : ℕ → ℕ → ℕ → ℕ → ℕ → LevelParams
level from to good bad threshold = record { pat_start = from; pat_finish = to; good_wt = good; bad_wt = bad; thresh = threshold }

abbrev one_level : LevelParams → Parameters
one_level l = record { start = 1; finish = 1; levels = l ∷ [] }

-- the report, the patterns, the list and the cells file of a run
abbrev report : List Word → Parameters → Patterns → List ℕ
report words parameters S = report_text letters_abc words parameters S (trace letters_abc words parameters S)

abbrev patterns : List Word → Parameters → Patterns → Patterns
patterns words parameters S = final_patterns S (trace letters_abc words parameters S)

abbrev cells : List Word → Parameters → Patterns → List ℕ
cells words parameters S = cells_text 4 S (trace letters_abc words parameters S)

-- the words ab-c and ab-a
abbrev two_words : List Word
two_words = word (1 ∷ 2 ∷ 3 ∷ 4 ∷ 1 ∷ []) (false ∷ false ∷ false ∷ true ∷ false ∷ []) ∷ word (1 ∷ 2 ∷ 3 ∷ 2 ∷ 1 ∷ []) (false ∷ false ∷ false ∷ true ∷ false ∷ []) ∷ []

-- One pattern of three passes
one_pattern : patterns two_words (one_level (level 2 2 1 1 2)) [] ≡ ((2 ∷ 3 ∷ [], 2), 1) ∷ []
one_pattern = refl

one_pattern_report : report two_words (one_level (level 2 2 1 1 2)) []
    ≡ codes "pass 1 2 1: 0 good, 0 bad, 2 missed; 3 candidates, 0 chosen, 3 hopeless, 0 left; 0 good, 0 bad\n"
    ++ codes "pass 1 2 0: 0 good, 0 bad, 2 missed; 4 candidates, 0 chosen, 4 hopeless, 0 left; 0 good, 0 bad\n"
    ++ codes "pass 1 2 2: 0 good, 0 bad, 2 missed; 2 candidates, 1 chosen, 1 hopeless, 0 left; 2 good, 0 bad\n"
    ++ codes "level 1: 1 chosen, 2 good, 0 bad, 0 missed\n"
    ++ codes "total: 2 good, 0 bad, 0 missed\n"
    ++ codes "rate: 100.00 % good, 0.00 % bad, 0.00 % missed\n"
unfolding digits
one_pattern_report = refl

-- the words a-b, a-b and cab
abbrev a_b : Word
a_b = word (1 ∷ 2 ∷ 3 ∷ 1 ∷ []) (false ∷ false ∷ true ∷ false ∷ [])

-- ab-0c
abbrev ab_0c : Word
ab_0c = record { signs = 1 ∷ 2 ∷ 3 ∷ 4 ∷ 1 ∷ []; hyphens = false ∷ false ∷ false ∷ true ∷ false ∷ []; weights = 1 ∷ 1 ∷ 1 ∷ 0 ∷ 1 ∷ []; cares = true ∷ true ∷ true ∷ true ∷ true ∷ []; weight = 1 }

-- Threshold 1 is met at the first dot
first_dot_report : report two_words (one_level (level 2 2 1 1 1)) []
    ≡ codes "pass 1 2 1: 0 good, 0 bad, 2 missed; 3 candidates, 2 chosen, 1 hopeless, 0 left; 2 good, 0 bad\n"
    ++ codes "pass 1 2 0: 2 good, 0 bad, 0 missed; 2 candidates, 0 chosen, 2 hopeless, 0 left; 0 good, 0 bad\n"
    ++ codes "pass 1 2 2: 2 good, 0 bad, 0 missed; 1 candidates, 0 chosen, 1 hopeless, 0 left; 0 good, 0 bad\n"
    ++ codes "level 1: 2 chosen, 2 good, 0 bad, 0 missed\n"
    ++ codes "total: 2 good, 0 bad, 0 missed\n"
    ++ codes "rate: 100.00 % good, 0.00 % bad, 0.00 % missed\n"
unfolding digits
first_dot_report = refl

-- A covered window is no candidate
covered_window_report : report two_words (one_level (level 2 2 1 1 1)) (((3 ∷ 4 ∷ [], 1), 2) ∷ []) ≡ codes "warning: starting value 2 is not below level 1\n"
    ++ codes "pass 1 2 1: 0 good, 0 bad, 2 missed; 2 candidates, 1 chosen, 1 hopeless, 0 left; 1 good, 0 bad\n"
    ++ codes "pass 1 2 0: 1 good, 0 bad, 1 missed; 3 candidates, 1 chosen, 2 hopeless, 0 left; 1 good, 0 bad\n"
    ++ codes "pass 1 2 2: 1 good, 0 bad, 1 missed; 2 candidates, 1 chosen, 1 hopeless, 0 left; 1 good, 0 bad\n"
    ++ codes "level 1: 3 chosen, 1 good, 0 bad, 1 missed\n"
    ++ codes "total: 1 good, 0 bad, 1 missed\n"
    ++ codes "rate: 50.00 % good, 0.00 % bad, 50.00 % missed\n"
unfolding digits
covered_window_report = refl

-- Two levels
two_levels_report : report (a_b ∷ a_b ∷ word (1 ∷ 4 ∷ 2 ∷ 3 ∷ 1 ∷ []) (false ∷ false ∷ false ∷ false ∷ false ∷ [])
    ∷ []) (record { start = 1; finish = 2; levels = level 2 2 1 1 1 ∷ level 3 3 1 1 1 ∷ [] }) []
    ≡ codes "pass 1 2 1: 0 good, 0 bad, 2 missed; 2 candidates, 1 chosen, 1 hopeless, 0 left; 2 good, 1 bad\n"
    ++ codes "pass 1 2 0: 2 good, 1 bad, 0 missed; 1 candidates, 0 chosen, 1 hopeless, 0 left; 0 good, 0 bad\n"
    ++ codes "pass 1 2 2: 2 good, 1 bad, 0 missed; 1 candidates, 0 chosen, 1 hopeless, 0 left; 0 good, 0 bad\n"
    ++ codes "level 1: 1 chosen, 2 good, 1 bad, 0 missed\n"
    ++ codes "pass 2 3 1: 2 good, 1 bad, 0 missed; 1 candidates, 0 chosen, 0 hopeless, 1 left; 0 good, 0 bad\n"
    ++ codes "pass 2 3 2: 2 good, 1 bad, 0 missed; 2 candidates, 1 chosen, 1 hopeless, 0 left; 1 good, 0 bad\n"
    ++ codes "level 2: 1 chosen, 2 good, 0 bad, 0 missed\n"
    ++ codes "total: 2 good, 0 bad, 0 missed\n"
    ++ codes "rate: 100.00 % good, 0.00 % bad, 0.00 % missed\n"
unfolding digits
two_levels_report = refl

-- Weight 0 gives candidates
weight_0_report : report (ab_0c ∷ []) (one_level (level 2 2 1 1 1)) []
    ≡ codes "pass 1 2 1: 0 good, 0 bad, 0 missed; 2 candidates, 0 chosen, 2 hopeless, 0 left; 0 good, 0 bad\n"
    ++ codes "pass 1 2 0: 0 good, 0 bad, 0 missed; 2 candidates, 0 chosen, 2 hopeless, 0 left; 0 good, 0 bad\n"
    ++ codes "pass 1 2 2: 0 good, 0 bad, 0 missed; 2 candidates, 0 chosen, 2 hopeless, 0 left; 0 good, 0 bad\n"
    ++ codes "level 1: 0 chosen, 0 good, 0 bad, 0 missed\n"
    ++ codes "total: 0 good, 0 bad, 0 missed\n"
unfolding digits
weight_0_report = refl

-- A don't-care position
dont_care_report : report (record {
  signs = 1 ∷ 2 ∷ 3 ∷ 4 ∷ 1 ∷ [];
  hyphens = false ∷ false ∷ false ∷ false ∷ false ∷ [];
  weights = 1 ∷ 1 ∷ 1 ∷ 1 ∷ 1 ∷ [];
  cares = true ∷ true ∷ true ∷ false ∷ true ∷ [];
  weight = 1;
} ∷ word (1 ∷ 2 ∷ 3 ∷ 2 ∷ 1 ∷ []) (false ∷ false ∷ false ∷ true ∷ false ∷ [])
    ∷ []) (one_level (level 2 2 1 1 1)) [] ≡ codes "pass 1 2 1: 0 good, 0 bad, 1 missed; 2 candidates, 1 chosen, 1 hopeless, 0 left; 1 good, 0 bad\n"
    ++ codes "pass 1 2 0: 1 good, 0 bad, 0 missed; 2 candidates, 0 chosen, 2 hopeless, 0 left; 0 good, 0 bad\n"
    ++ codes "pass 1 2 2: 1 good, 0 bad, 0 missed; 1 candidates, 0 chosen, 1 hopeless, 0 left; 0 good, 0 bad\n"
    ++ codes "level 1: 1 chosen, 1 good, 0 bad, 0 missed\n"
    ++ codes "total: 1 good, 0 bad, 0 missed\n"
    ++ codes "rate: 100.00 % good, 0.00 % bad, 0.00 % missed\n"
unfolding digits
dont_care_report = refl

-- The cells file, and that of starting patterns and no level
cells_file : cells two_words (one_level (level 2 2 1 1 2)) [] ≡ codes "start: 4 taken, top 4, 0 tails\n"
    ++ codes "pass 1 2 1: 7 taken, top 8\n"
    ++ codes "pass 1 2 0: 9 taken, top 10\n"
    ++ codes "pass 1 2 2: 10 taken, top 10\n"
    ++ codes "level 1: 5 taken, top 9, 1 tails\n"
unfolding digits with_sign
cells_file = refl

abbrev starting : Patterns
starting = ((1 ∷ 2 ∷ [], 2), 1) ∷ ((2 ∷ 3 ∷ [], 1), 2) ∷ ((3 ∷ 4 ∷ [], 1), 1) ∷ []

abbrev no_level : Parameters
no_level = record { start = 2; finish = 1; levels = [] }

cells_of_starting : cells two_words no_level starting ≡ codes "start: 7 taken, top 7, 3 tails\n"
unfolding digits with_sign
cells_of_starting = refl

-- Starting patterns and no level: the report, the pattern file and the list
starting_report : report two_words no_level starting ≡ codes "total: 1 good, 0 bad, 1 missed\nrate: 50.00 % good, 0.00 % bad, 50.00 % missed\n"
unfolding digits
starting_report = refl

starting_text : pattern_text letters_abc (patterns two_words no_level starting) ≡ codes ".a1\na2b\nb1c\n"
starting_text = refl

starting_list : pattmp_text letters_abc starting two_words ≡ codes "ab*c\nab-a\n"
unfolding digits
starting_list = refl

-- the list of ab-0c, and of words with weights
weight_0_list : pattmp_text letters_abc [] (ab_0c ∷ []) ≡ codes "ab-0c\n"
unfolding digits
weight_0_list = refl

-- out of reach a hyphen is missed, also where a pattern breaks there: a-b-c-d-e under the default minima
abbrev letters_abcde : Alphabet
letters_abcde = record { left = 2; right = 3; marks = codes ".-*?"; spellings = (2, codes "a") ∷ (3, codes "b") ∷ (4, codes "c") ∷ (5, codes "d") ∷ (6, codes "e") ∷ [] }

out_of_reach : pattmp_text letters_abcde (((2 ∷ 3 ∷ [], 1), 1) ∷ ((3 ∷ 4 ∷ [], 1), 1) ∷ ((4 ∷ 5 ∷ [], 1), 1) ∷ ((5 ∷ 6 ∷ [], 1), 1) ∷ []) (word (1 ∷ 2 ∷ 3 ∷ 4
    ∷ 5 ∷ 6 ∷ 1 ∷ []) (false ∷ false ∷ true ∷ true ∷ true ∷ true ∷ false ∷ []) ∷ []) ≡ codes "a-b*c-d-e\n"
unfolding digits
out_of_reach = refl

-- word weights are compared with the line before in this list
abbrev plain : ℕ → List ℕ → Word
plain weight signs = record { signs = signs; hyphens = map (λ _. false) signs; weights = map (λ _. weight) signs; cares = map (λ _. true) signs; weight = weight }

running_weights : pattmp_text letters_abcde [] (plain 3 (1 ∷ 2 ∷ 3 ∷ 1 ∷ []) ∷ plain 5 (1 ∷ 2 ∷ 3 ∷ 4 ∷ 5 ∷ 6 ∷ 1 ∷ []) ∷ plain 3 (1 ∷ 2 ∷ 3 ∷ 4 ∷ 5 ∷ 1 ∷ [])
    ∷ plain 5 (1 ∷ 2 ∷ 3 ∷ 4 ∷ 5 ∷ 6 ∷ 1 ∷ []) ∷ plain 1 (1 ∷ 2 ∷ 3 ∷ 4 ∷ 5 ∷ 6 ∷ 1 ∷ []) ∷ []) ≡ codes "5abcde\nabcde\n1abcde\n"
unfolding digits
running_weights = refl

-- a-2b*c.a with a further weight of 12: braces and a don't-care position
marked : pattmp_text letters_abc [] (record {
  signs = 1 ∷ 2 ∷ 3 ∷ 4 ∷ 2 ∷ 1 ∷ [];
  hyphens = false ∷ false ∷ true ∷ true ∷ false ∷ false ∷ [];
  weights = 1 ∷ 1 ∷ 2 ∷ 12 ∷ 1 ∷ 1 ∷ [];
  cares = true ∷ true ∷ true ∷ true ∷ false ∷ true ∷ [];
  weight = 1;
} ∷ []) ≡ codes "a-2b-{12}c?a\n"
unfolding digits
marked = refl
