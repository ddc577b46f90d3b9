-- What is promised of a command that is done, beside its plan.
use Rattle.std.specs.Prelude.{◌≡◌, ℕ, ◌+◌, List, [], ◌∷◌, Some, Ok, codes}
use Rattle.std.specs.Option.{IsSome}
use Rattle.pg_dict.specs.DictionaryWords.{words}
use Rattle.pg_dict.specs.Word.{Word}
use Rattle.pg_outside.specs.Content.{FileMap, FilesShown, Told}
use Rattle.pg_patterns.specs.Starts.{start}
use Rattle.pg_patterns.specs.Values.{Patterns, value_at}
use Rattle.pg_plans.specs.Plans.{Moment}
use Rattle.pg_plans.specs.declared.answers.Status.{Status}
use Rattle.pg_plans.specs.declared.answers.Status.TheVariants.{Done}
use Rattle.pg_prune.specs.Prunes.{pruning_of}
use Rattle.pg_select.specs.Sums.{totals}
use Rattle.pg_table.specs.Lookups.{table_value, table_totals}
use Rattle.pg_table.specs.Texts.{table_text}
use Rattle.pg_texts.specs.ReportTexts.{ending_text}
use Rattle.pg_translate.specs.Alphabets.{Alphabet, letters_of}
use Rattle.pg_translate.specs.Tables.{table}
use Rattle.pg_top.specs.Commands.{IsRun}
use Rattle.pg_top.specs.ReadingBack.{ReadsBackPatterns, ReadsBackSelected}
use Rattle.pg_top.specs.Theorems.{HasInputs, Means, PutsLines}
use Rattle.pg_top.specs.Totalling.{packed_table}
use Rattle.pg_top.specs.declared.selection.Inputs.{Inputs}

-- a packed table gives each position of each word the value of the patterns, and so their totals
pub record GivesValues (bytes : List ℕ) (P : Patterns) : Type 0 where
  pub values : (w : List ℕ) (p : ℕ) → table_value bytes w p ≡ value_at P w p
  pub totals : (m : Alphabet) (ws : List Word) → table_totals m ws bytes ≡ totals m ws P

-- the packed table of patterns is accepted by `totals`, and gives their values
pub record IsGoodTable (t : Alphabet) (P : Patterns) (bytes : List ℕ) : Type 0 where
  pub accepted : packed_table t bytes ≡ Ok bytes
  pub gives : GivesValues bytes P

-- `pack` writes a table that `totals` accepts, and that gives the values of the patterns
pub record PackPromise (files : FileMap) (p t : List ℕ) : Type 0 where
  pub alphabet : Alphabet
  pub patterns : Patterns
  pub table : Means table files t alphabet
  pub entries : Means (start alphabet) files p patterns
  pub good : IsGoodTable alphabet patterns (table_text (letters_of alphabet + 1) patterns)

-- what `prune` writes is read back
pub record PrunePromise (files : FileMap) (d p t : List ℕ) : Type 0 where
  pub alphabet : Alphabet
  pub patterns : Patterns
  pub dictionary : List Word
  pub table : Means table files t alphabet
  pub entries : Means (start alphabet) files p patterns
  pub words : Means (words alphabet) files d dictionary
  pub reads_back : ReadsBackPatterns alphabet
      (pruning_of alphabet dictionary patterns).patterns

-- what `generate` writes is read back
pub record GeneratePromise (files : FileMap) (d p t a : List ℕ) : Type 0 where
  pub inputs : Inputs
  pub has : HasInputs files d p t a inputs
  pub reads_back : ReadsBackSelected inputs

-- what is promised of a call on these arguments that is done, by the files before it
pub record IsPromised (arguments : List (List ℕ)) (status : Status)
    (old new : FilesShown) : Type 0 where
  pub generate : (d p o t a r : List ℕ) (options : List (List ℕ))
      → arguments ≡ codes "generate" ∷ d ∷ p ∷ o ∷ t ∷ a ∷ r ∷ options → status ≡ Done
      → Told old.held new.held (λ before after. GeneratePromise before d p t a)
  pub pack : (p t o : List ℕ) → arguments ≡ codes "pack" ∷ p ∷ t ∷ o ∷ [] → status ≡ Done
      → Told old.held new.held (λ before after. PackPromise before p t)
  pub prune : (d p o t r : List ℕ) → arguments ≡ codes "prune" ∷ d ∷ p ∷ o ∷ t ∷ r ∷ []
      → status ≡ Done → Told old.held new.held (λ before after. PrunePromise before d p t)

-- totals_of_packed: `totals` of the table that `pack` wrote, from those files on, puts the totals
-- by the patterns
abbrev pub TotalsOfPacked : Type 0
TotalsOfPacked = (p t o d : List ℕ) (old mid next new : Moment)
    → IsRun (codes "pack" ∷ p ∷ t ∷ o ∷ []) Done old mid
    → IsPromised (codes "pack" ∷ p ∷ t ∷ o ∷ []) Done old.0 mid.0
    → IsRun (codes "totals" ∷ d ∷ t ∷ o ∷ []) Done next new → (files : FileMap)
    → mid.0.held ≡ Some files → next.0.held ≡ Some files → IsSome new.0.held
    → (T : Alphabet) × (P : Patterns) × (W : List Word) × Means table files t T
    × Means (start T) files p P × Means (words T) files d W
    × PutsLines next new (ending_text (totals T W P))
