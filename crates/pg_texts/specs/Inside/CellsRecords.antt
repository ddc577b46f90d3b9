-- What a run tells of the cells, where each of its records has a layout.
use Rattle.std.specs.Prelude.{ℕ, map, All, IsSome, Option, unwrap_or}
use Rattle.pg_types.specs.declared.marks.Layout.{Layout}
use Rattle.pg_select.specs.declared.pass.Pass.{Pass}
use Rattle.pg_driver.specs.declared.records.PassRecord.{PassRecord}
use Rattle.pg_driver.specs.declared.records.LevelRecord.{LevelRecord}
use Rattle.pg_driver.specs.Inside.records.SoundRecords.{CompletedRun}
use Rattle.pg_driver.specs.Inside.records.CellsAccounts.{CellsAccount}

-- every layout of a run is there
pub record HasLayouts (r : CompletedRun) : Type 0 where
  pub first : IsSome r.first_layout
  pub passes : All (λ (p : PassRecord). IsSome p.layout) r.passes
  pub levels : All (λ (l : LevelRecord). IsSome l.layout) r.levels

-- a layout that is there
abbrev pub layout_there : Option Layout → Layout
layout_there layout = unwrap_or layout (record { taken = 0; top = 0; tails = 0 })

-- what a record of a pass tells of the cells
abbrev pub pass_cells : PassRecord → Pass × ℕ × ℕ
pass_cells r = let l = layout_there r.layout in
    (record { level = r.level; len = r.len; dot = r.dot }, l.taken, l.top)

-- what a record of a level tells of the cells
abbrev pub level_cells : LevelRecord → ℕ × Layout
level_cells r = (r.level, layout_there r.layout)

-- what a run tells of the cells
abbrev pub run_cells : CompletedRun → CellsAccount
run_cells r = record {
  start = layout_there r.first_layout;
  passes = map pass_cells r.passes;
  levels = map level_cells r.levels;
}
