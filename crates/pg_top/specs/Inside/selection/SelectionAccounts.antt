-- What is told of the run of a selection.
use Rattle.std.specs.Prelude.{ℕ, List, ◌++◌, map, codes, decimal}
use Rattle.pg_types.specs.declared.marks.Layout.{Layout}
use Rattle.pg_types.specs.Placement.{Families}
use Rattle.pg_translate.specs.Inside.items.GapItems.{last_else}
use Rattle.pg_packed.specs.Inside.Starts.{pattern_families}
use Rattle.pg_driver.specs.Accounts.{begun_count}
use Rattle.pg_driver.specs.Inside.records.AccountLines.{Account, account}
use Rattle.pg_driver.specs.Inside.records.CellsAccounts.{CellsAccount, cells_account}
use Rattle.pg_texts.specs.Inside.CellsLines.{layout_line_text}
use Rattle.pg_top.specs.Selection.{selection}
use Rattle.pg_top.specs.Inside.selection.SelectionSigns.{greatest_sign_of}
use Rattle.pg_top.specs.declared.selection.Inputs.{Inputs}

-- what is told of that run
unfoldable pub selected_account : Inputs → Account
selected_account i = account i.table i.dictionary i.start (selection i)

-- how many passes of that run are begun
unfoldable pub passes_begun : Inputs → ℕ
passes_begun i = begun_count (selection i)

-- what is told of the cells of that run, where it begins with these families
unfoldable pub selected_cells_from : Inputs → Families → CellsAccount
selected_cells_from i fs = cells_account (greatest_sign_of i) fs i.start (selection i)

-- what is told of the cells, where the run begins with the families of the starting patterns
unfoldable pub selected_cells : Inputs → CellsAccount
selected_cells i = selected_cells_from i (pattern_families (greatest_sign_of i) i.start)

-- the last layout that is told of the cells of a run
abbrev pub last_layout : CellsAccount → Layout
last_layout a = last_else a.start (map (λ l. l.1) a.levels)

-- the line of how many passes were begun, and of a layout
abbrev pub work_line : ℕ → Layout → List ℕ
work_line passes layout = codes "work: " ++ decimal passes
    ++ codes " passes, " ++ layout_line_text layout
