-- The lines of the cells file that begin with families.
use Rattle.std.specs.Prelude.{ℕ, List, [], ◌∷◌, ◌++◌, if◌then◌else◌, codes}
use Rattle.pg_types.specs.Placement.{Families}
use Rattle.pg_driver.specs.Accounts.{has_candidate}
use Rattle.pg_driver.specs.Inside.Layouts.{after_pass, after_level}
use Rattle.pg_driver.specs.Traces.{PassTrace, Trace, patterns_after}
use Rattle.pg_texts.specs.Fronts.{pass_front, level_front}
use Rattle.pg_texts.specs.CellsTexts.{used_text, layout_text}

-- the lines of passes: of those that have a candidate
abbrev pub passes_cells_text : ℕ → Families → List PassTrace → List ℕ
passes_cells_text signs fs [] = []
passes_cells_text signs fs (p ∷ ps) = let after = after_pass signs fs p in
    (if has_candidate p then pass_front p.pass ++ used_text after ++ codes "\n" else [])
    ++ passes_cells_text signs after ps

-- the lines of levels: those of the passes, and then its own
abbrev pub levels_cells_text : ℕ → Families → Trace → List ℕ
levels_cells_text signs fs [] = []
levels_cells_text signs fs (l ∷ ls) = let after = after_level signs fs l in
    passes_cells_text signs fs l.passes ++ level_front l.number
    ++ layout_text after (patterns_after l) ++ levels_cells_text signs after ls
