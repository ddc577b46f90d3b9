-- What is written is read back.
use Rattle.std.specs.Prelude.{◌≡◌, ◌≤◌, length, filter, Ok}
use Rattle.pg_types.specs.declared.limits.TheConstants.{FILE_MAX}
use Rattle.pg_dict.specs.DictionaryWords.{words}
use Rattle.pg_patterns.specs.Starts.{start}
use Rattle.pg_patterns.specs.Texts.{pattern_text}
use Rattle.pg_patterns.specs.Values.{Patterns}
use Rattle.pg_texts.specs.PattmpTexts.{is_taking_part}
use Rattle.pg_translate.specs.Alphabets.{Alphabet}
use Rattle.pg_steps.specs.declared.inputs.Given.TheVariants as given
use Rattle.pg_top.specs.Selection.{selected_file, selected_patterns}
use Rattle.pg_top.specs.declared.selection.Inputs.{Inputs}

-- the text of patterns is read as these patterns, where it is no longer than a pattern file may be
abbrev pub ReadsBackPatterns : Alphabet → Patterns → Type 0
ReadsBackPatterns t P = length (pattern_text t P) ≤ FILE_MAX → start t (pattern_text t P) ≡ Ok P

-- what a selection writes is read back: its patterns, and its hyphenated list as the words that
-- take part, where that is no longer than a dictionary may be
pub record ReadsBackSelected (i : Inputs) : Type 0 where
  pub patterns : ReadsBackPatterns i.table (selected_patterns i)
  pub list : length (selected_file i given.Pattmp) ≤ FILE_MAX
      → words i.table (selected_file i given.Pattmp)
      ≡ Ok (filter (is_taking_part i.table) i.dictionary)
