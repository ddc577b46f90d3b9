use Rattle.std.proofs.Common.{◌++◌, ℕ, List, None, map, append_assoc, get_or, ap, ◌∙◌}
use Rattle.std.proofs.lemmas.Result.{IfOk-from_err}
use Rattle.pg_driver.specs.declared.records.LevelRecord.{LevelRecord}
use Rattle.pg_driver.specs.Inside.records.RunAccounts.{line_of, level_line_of}
use Rattle.pg_texts.specs.Inside.ReportLines.{passes_text, level_line_text, level_lines_text}
use Rattle.pg_texts.proofs.Joins.{lines_next, lines_end}
use Rattle.pg_texts.proofs.report.push_levels.Goals as goal

pub push_passes-requires : goal.push_passes-requires
push_passes-requires c = c.requires

pub returns-in_err-push_passes : goal.returns-in_err-push_passes
returns-in_err-push_passes c = IfOk-from_err c.from_residual.result _ c.from_residual.ensures.0

pub returns-in_err-push_level : goal.returns-in_err-push_level
returns-in_err-push_level c = IfOk-from_err c.from_residual-in_err-push_level.result _ c.from_residual-in_err-push_level.ensures.0

-- some record
abbrev none : LevelRecord
none = record {
  level = 0;
  chosen = 0;
  after = record { good = 0; bad = 0; missed = 0 };
  layout = None;
}

pub levels-preserved : goal.levels-preserved
levels-preserved c =
    let passes = map line_of c.args.passes.now in
    let level : LevelRecord = get_or c.args.levels.now c.levels.level-index none in
    let line : List ℕ = level_line_text (level_line_of level) in
    lines_next (level_lines_text passes) level_line_of c.args.levels.now c.levels.level-index none c.levels.text.items c.push_level.new.text.items _ c.levels-test.true
    (c.in_ok-push_level.ensures ∙ ap (λ (t : List ℕ). t ++ line) c.in_ok-push_passes.ensures ∙ append_assoc c.levels.text.items (passes_text passes level.level) line) c.levels.invariant

pub returns : goal.returns
returns c = lines_end (level_lines_text (map line_of c.args.passes.now)) level_line_of c.args.levels.now c.levels.level-index c.levels.text.items _ c.levels-test.false c.levels.invariant
