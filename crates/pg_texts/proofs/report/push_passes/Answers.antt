use Rattle.std.proofs.Common.{◌==◌, ◌+◌, ◌++◌, ℕ, Bool, Vec, Global, None, map, filter, flat_map, drop, ap, ◌∙◌}
use Rattle.std.proofs.lemmas.Bool.{eq-eqb, ne_eqb}
use Rattle.std.proofs.lemmas.Result.{IfOk-from_err}
use Rattle.pg_driver.specs.declared.records.PassRecord.{PassRecord}
use Rattle.pg_driver.specs.Inside.records.AccountLines.{PassLine}
use Rattle.pg_driver.specs.Inside.records.RunAccounts.{line_of}
use Rattle.pg_texts.specs.Inside.ReportLines.{pass_line_text}
use Rattle.pg_texts.proofs.Joins.{tested_next, tested_skip, tested_end}
use Rattle.pg_texts.proofs.report.push_passes.Goals as goal
use Rattle.pg_texts.proofs.report.push_passes.Goals.{then-pass-level+in_ok-push_pass, else-pass-level}

pub push_pass-requires : goal.push_pass-requires
push_pass-requires c = c.requires c.passes.pass-index _ c.passes-test.true

pub returns-in_err-push_pass : goal.returns-in_err-push_pass
returns-in_err-push_pass c = IfOk-from_err c.from_residual.result _ c.from_residual.ensures.0

-- some record
abbrev none : PassRecord
none = record {
  level = 0;
  len = 0;
  dot = 0;
  before = record { good = 0; bad = 0; missed = 0 };
  candidates = 0;
  chosen = 0;
  hopeless = 0;
  good = 0;
  bad = 0;
  layout = None;
}

abbrev of_level : ℕ → PassLine → Bool
of_level level p = p.pass.level == level

pub passes-preserved : goal.passes-preserved
passes-preserved c =
    let xs = c.args.passes.now in
    let i = c.passes.pass-index in
    let test = of_level c.args.level in
    elim c.if-pass-level.branch [
      | then-pass-level+in_ok-push_pass w ↦
          tested_next pass_line_text line_of xs i test none c.passes.text.items c.if-pass-level.text.items _ c.passes-test.true (eq-eqb _ _ w.if-pass-level.true)
          (ap (λ (v : Vec ℕ Global). v.items) w.text-is ∙ w.in_ok-push_pass.ensures) c.passes.invariant
      | else-pass-level w ↦
          ap (λ (v : Vec ℕ Global). v.items ++ flat_map pass_line_text (filter test (map line_of (drop (i + 1) xs)))) w.text-is
          ∙ tested_skip pass_line_text line_of xs i test none c.passes.text.items _ c.passes-test.true (ne_eqb _ _ w.if-pass-level.false) c.passes.invariant
    ]

pub returns : goal.returns
returns c = tested_end pass_line_text line_of c.args.passes.now c.passes.pass-index (of_level c.args.level) c.passes.text.items _ c.passes-test.false c.passes.invariant
