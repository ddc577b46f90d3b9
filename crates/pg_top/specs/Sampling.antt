-- The dictionary of `sample`, as a text made from a number, and what the command prints.
use Rattle.std.specs.Prelude.{ℕ, ◌+◌, ◌==◌, nat_eq, if◌then◌else◌, List, [], ◌∷◌, ◌++◌, length, fold, filter, flat_map, slice_index, codes, Option, None}
use Rattle.std.specs.List.{list_any, range_with_len, starts_with}
use Rattle.std.specs.Option.{option_and_then, option_map}
use Rattle.pg_draws.specs.DrawnNumbers.{drawn}
use Rattle.pg_types.specs.Lines.{lines}
use Rattle.pg_types.specs.declared.parameters.LevelParams.{LevelParams}
use Rattle.pg_types.specs.Parameters.{Parameters}
use Rattle.pg_translate.specs.Tables.{default_alphabet}
use Rattle.pg_dict.specs.Word.{Word}
use Rattle.pg_dict.specs.DictionaryWords.{words}
use Rattle.pg_plans.specs.Plans.{Plan, Ending}
use Rattle.pg_plans.specs.declared.answers.Status.TheVariants.{Done}
use Rattle.pg_steps.specs.InputPlans.{unless_refused}
use Rattle.pg_steps.specs.declared.inputs.Input.TheVariants.{Dictionary}
use Rattle.pg_words.specs.NumbersWithin.{number_within}
use Rattle.pg_words.specs.declared.limits.TheConstants.{SEED_MAX, COUNT_MAX, SAMPLE_DIGITS}
use Rattle.pg_top.specs.PrintedLines.{done_line}
use Rattle.pg_steps.specs.declared.inputs.Given.TheVariants as given
use Rattle.pg_top.specs.Selection.{selected_file}
use Rattle.pg_top.specs.declared.selection.Inputs.{Inputs}

-- a text so far and the state of the draws, with one letter more, which is drawn from these
abbrev pub with_letter : List ℕ → List ℕ × ℕ → List ℕ × ℕ
with_letter letters made = let d = drawn (length letters) made.1 in
    (made.0 ++ slice_index letters d.0 ∷ [], d.1)

-- with a syllable more: a consonant, a vowel, and in one of four cases a last consonant
unfoldable pub with_syllable : List ℕ × ℕ → List ℕ × ℕ
with_syllable made =
    let front = with_letter (codes "aeiou") (with_letter (codes "bdfgklmnprst") made) in
    let d = drawn 4 front.1 in
    if d.0 == 0 then with_letter (codes "nrs") (front.0, d.1) else (front.0, d.1)

-- with a line more, of one word: it has 2 to 4 syllables, with a hyphen between two
unfoldable pub with_word : List ℕ × ℕ → List ℕ × ℕ
with_word made = let d = drawn 3 made.1 in
    let word = fold (λ front i. with_syllable (front.0 ++ codes "-", front.1))
    (with_syllable (made.0, d.1)) (range_with_len 0 (d.0 + 1)) in (word.0 ++ codes "\n", word.1)

-- the dictionary: so many words from the seed
abbrev pub sample_text : ℕ → ℕ → List ℕ
sample_text seed count = (fold (λ made i. with_word made) ([], seed) (range_with_len 0 count)).0

-- the two levels of the file: the first with lengths 1 to 3, the second with lengths 2 to 4
abbrev pub sample_parameters : Parameters
sample_parameters = let a : LevelParams =
    record { pat_start = 1; pat_finish = 3; good_wt = 1; bad_wt = 2; thresh = 20 } in
    let b : LevelParams =
    record { pat_start = 2; pat_finish = 4; good_wt = 2; bad_wt = 1; thresh = 8 } in
    record { start = 1; finish = 2; levels = a ∷ b ∷ [] }

-- the selection: the default table, no starting patterns, and these words
abbrev pub sample_inputs : List Word → Inputs
sample_inputs ws =
    record { table = default_alphabet; params = sample_parameters; start = []; dictionary = ws }

-- what `sample` prints of its selection: the lines of the report for levels, totals and rates, and
-- the `done:` line
abbrev pub sample_lines : Inputs → List ℕ
sample_lines i = flat_map (λ line. line ++ codes "\n") (filter (λ line. list_any
    (starts_with nat_eq line) (codes "level" ∷ codes "total" ∷ codes "rate" ∷ []))
    (lines (selected_file i given.Report))) ++ done_line i

-- the plan of `sample`: the dictionary that is made is read by its rules, and no file is
abbrev pub sampled : (seed count : ℕ) → Plan
sampled seed count = unless_refused Dictionary (words default_alphabet (sample_text seed count))
    (λ ws. Ending Done [] (sample_lines (sample_inputs ws)))

-- `sample N COUNT`: the seed, and how many words it makes
abbrev pub sample : List (List ℕ) → Option Plan
sample (seed ∷ count ∷ []) = option_and_then (λ s. option_map (λ c. sampled s c)
    (number_within SAMPLE_DIGITS 0 COUNT_MAX count)) (number_within SAMPLE_DIGITS 0 SEED_MAX seed)
sample arguments = None
