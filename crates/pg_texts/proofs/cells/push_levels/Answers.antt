use Rattle.std.proofs.Common.{◌++◌, ℕ, List, None, map, append_assoc, get_or, ap, ◌∙◌}
use Rattle.std.proofs.lemmas.Result.{IfOk-from_err}
use Rattle.pg_driver.specs.declared.records.LevelRecord.{LevelRecord}
use Rattle.pg_texts.specs.Inside.CellsRecords.{pass_cells, level_cells}
use Rattle.pg_texts.specs.Inside.CellsLines.{pass_cells_lines, level_cells_line, level_cells_text}
use Rattle.pg_texts.proofs.Joins.{lines_next, lines_end}
use Rattle.pg_texts.proofs.cells.push_levels.Goals as goal

pub push_passes-requires : goal.push_passes-requires
push_passes-requires c = c.requires.passes

pub push_level-requires : goal.push_level-requires
push_level-requires c = c.requires.levels c.levels.level-index _ c.levels-test.true

pub returns-in_err-push_passes : goal.returns-in_err-push_passes
returns-in_err-push_passes c = IfOk-from_err c.from_residual.result _ c.from_residual.ensures.0

pub returns-in_err-push_level : goal.returns-in_err-push_level
returns-in_err-push_level c = IfOk-from_err c.from_residual-in_err-push_level.result _ c.from_residual-in_err-push_level.ensures.0

-- some record
abbrev none : LevelRecord
none = record {
  level = 0;
  chosen = 0;
  after = record { good = 0; bad = 0; missed = 0 };
  layout = None;
}

pub levels-preserved : goal.levels-preserved
levels-preserved c =
    let passes = map pass_cells c.args.passes.now in
    let level : LevelRecord = get_or c.args.levels.now c.levels.level-index none in
    let line : List ℕ = level_cells_line (level_cells level) in
    lines_next (level_cells_text passes) level_cells c.args.levels.now c.levels.level-index none c.levels.text.items c.push_level.new.text.items _ c.levels-test.true
    (c.in_ok-push_level.ensures ∙ ap (λ (t : List ℕ). t ++ line) c.in_ok-push_passes.ensures ∙ append_assoc c.levels.text.items (pass_cells_lines passes level.level) line) c.levels.invariant

pub returns : goal.returns
returns c = lines_end (level_cells_text (map pass_cells c.args.passes.now)) level_cells c.args.levels.now c.levels.level-index c.levels.text.items _ c.levels-test.false c.levels.invariant
