-- The report of what comes out of pruning.
use Rattle.std.specs.Prelude.{ℕ, ◌-◌, List, [], ◌∷◌, ◌++◌, length, flat_map, take, codes, decimal}
use Rattle.std.specs.List.{zip}
use Rattle.pg_translate.specs.Alphabets.{Alphabet}
use Rattle.pg_patterns.specs.Texts.{pattern_text}
use Rattle.pg_prune.specs.declared.pruned.Need.{Need}
use Rattle.pg_prune.specs.Prunes.{Pruning}

-- `keep E: word N after L letters`, where E is the line of a pattern file without its line feed
abbrev pub keep_line : Alphabet → (List ℕ × ℕ) × ℕ → Need → List ℕ
keep_line t e n = let line = pattern_text t (e ∷ []) in codes "keep " ++ take (length line - 1) line
    ++ codes ": word " ++ decimal n.word ++ codes " after "
    ++ decimal (n.position - 1) ++ codes " letters\n"

-- `rounds: R, removed X, kept Y`
abbrev pub last_line : Pruning → List ℕ
last_line f = codes "rounds: " ++ decimal f.rounds ++ codes ", removed " ++ decimal f.removed
    ++ codes ", kept " ++ decimal (length f.patterns) ++ codes "\n"

-- the report: the line of each entry with its need, and the last line
unfoldable pub prune_report : Alphabet → Pruning → List ℕ
prune_report t f = flat_map (λ k. keep_line t k.0 k.1) (zip f.patterns f.needs) ++ last_line f
