-- The printed lines of `sample`, and the letters of its words.
use Rattle.std.specs.Prelude.{◌≡◌, ℕ, Bool, nat_eq, List, [], ◌∷◌, ◌++◌, filter, flat_map, codes, Ok}
use Rattle.std.specs.List.{list_any, starts_with}
use Rattle.pg_types.specs.Lines.{lines}
use Rattle.pg_translate.specs.Tables.{default_alphabet}
use Rattle.pg_dict.specs.DictionaryWords.{words}
use Rattle.pg_top.specs.Sampling.{sample_inputs, sample_text}
use Rattle.pg_top.specs.declared.selection.Inputs.{Inputs}

-- the selection of `sample` by this seed and number of words
pub record IsSample (seed count : ℕ) (i : Inputs) : Type 0 where
  pub words : words default_alphabet (sample_text seed count) ≡ Ok i.dictionary
  pub inputs : i ≡ sample_inputs i.dictionary

-- whether a line of the report is printed: that of a level, of the totals or of the rates
abbrev pub is_printed : List ℕ → Bool
is_printed line =
    list_any (starts_with nat_eq line) (codes "level" ∷ codes "total" ∷ codes "rate" ∷ [])

-- these lines of a report, each with its line's end
abbrev pub printed_part : List ℕ → List ℕ
printed_part report = flat_map (λ line. line ++ 10 ∷ []) (filter is_printed (lines report))

-- the consonants that a syllable begins with
abbrev pub consonants : List ℕ
consonants = codes "bdfgklmnprst"

-- the vowels of syllables
abbrev pub vowels : List ℕ
vowels = codes "aeiou"

-- the consonants that a syllable may end with
abbrev pub closings : List ℕ
closings = codes "nrs"
