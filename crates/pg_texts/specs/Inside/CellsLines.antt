-- The text of the cells file by the layouts that a run tells.
use Rattle.std.specs.Prelude.{ℕ, ◌==◌, List, ◌++◌, filter, codes, decimal}
use Rattle.std.specs.List.{flat_map}
use Rattle.pg_types.specs.declared.marks.Layout.{Layout}
use Rattle.pg_select.specs.declared.pass.Pass.{Pass}
use Rattle.pg_driver.specs.Inside.records.CellsAccounts.{CellsAccount}
use Rattle.pg_texts.specs.Fronts.{pass_front, level_front}

-- `T taken, top U`
abbrev pub taken_text : ℕ → ℕ → List ℕ
taken_text taken top = decimal taken ++ codes " taken, top " ++ decimal top

-- `T taken, top U, K tails` and the line's end
abbrev pub layout_line_text : Layout → List ℕ
layout_line_text l = taken_text l.taken l.top ++ codes ", " ++ decimal l.tails ++ codes " tails\n"

-- the line of a pass
abbrev pub pass_cells_text : Pass × ℕ × ℕ → List ℕ
pass_cells_text p = pass_front p.0 ++ taken_text p.1 p.2 ++ codes "\n"

-- the lines of the passes of a level
abbrev pub pass_cells_lines : List (Pass × ℕ × ℕ) → ℕ → List ℕ
pass_cells_lines passes level = flat_map pass_cells_text (filter (λ p. p.0.level == level) passes)

-- the line of a level
abbrev pub level_cells_line : ℕ × Layout → List ℕ
level_cells_line l = level_front l.0 ++ layout_line_text l.1

-- the lines of a level: those of its passes, and then its own
abbrev pub level_cells_text : List (Pass × ℕ × ℕ) → ℕ × Layout → List ℕ
level_cells_text passes l = pass_cells_lines passes l.0 ++ level_cells_line l

-- the cells file
abbrev pub account_cells_text : CellsAccount → List ℕ
account_cells_text a = codes "start: " ++ layout_line_text a.start
    ++ flat_map (level_cells_text a.passes) a.levels
