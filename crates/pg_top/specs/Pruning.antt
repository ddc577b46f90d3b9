-- What `prune` writes and prints.
use Rattle.std.specs.Prelude.{ℕ, List, [], ◌∷◌, ◌++◌, length, codes, decimal, Option, None}
use Rattle.pg_translate.specs.Tables.{table}
use Rattle.pg_dict.specs.DictionaryWords.{words}
use Rattle.pg_patterns.specs.Starts.{start}
use Rattle.pg_patterns.specs.Texts.{pattern_text}
use Rattle.pg_prune.specs.Prunes.{pruning_of}
use Rattle.pg_prune.specs.Reports.{prune_report}
use Rattle.pg_plans.specs.Plans.{Plan, Ending}
use Rattle.pg_plans.specs.declared.answers.Status.TheVariants.{Done}
use Rattle.pg_steps.specs.InputPlans.{input}
use Rattle.pg_steps.specs.declared.inputs.Input.TheVariants.{Translate, Patterns, Dictionary}
use Rattle.pg_words.specs.AcceptedNames.{where_accepted}

-- the line where `prune` is done: how many rounds were made, and how many entries were taken out
-- and stay
abbrev pub rounds_line : ℕ → ℕ → ℕ → List ℕ
rounds_line rounds removed kept = codes "done: " ++ decimal rounds ++ codes " rounds, "
    ++ decimal removed ++ codes " removed, " ++ decimal kept ++ codes " kept\n"

-- `prune DICT PATTERNS OUT TRANSLATE REPORT`: the patterns that stay are written, and a report
abbrev pub prune : List (List ℕ) → Option Plan
prune (d ∷ p ∷ o ∷ t ∷ r ∷ []) = where_accepted (d ∷ p ∷ t ∷ []) (o ∷ r ∷ [])
    (input Translate t table (λ T. input Patterns p (start T) (λ P. input Dictionary d (words T)
    (λ W. let found = pruning_of T W P in
    Ending Done ((o, pattern_text T found.patterns) ∷ (r, prune_report T found) ∷ [])
    (rounds_line found.rounds found.removed (length found.patterns))))))
prune arguments = None
