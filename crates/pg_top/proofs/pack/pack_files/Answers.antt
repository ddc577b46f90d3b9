use Rattle.std.proofs.Common.{◌≡◌, ◌∙◌, subst}
use Rattle.pg_outside.specs.Content.{FileMap}
use Rattle.pg_patterns.specs.Starts.{start}
use Rattle.pg_plans.proofs.Told.{told_on}
use Rattle.pg_steps.specs.declared.inputs.Input.TheVariants.{Translate, Patterns}
use Rattle.pg_translate.specs.Tables.{table}
use Rattle.pg_top.specs.Promises.{PackPromise}
use Rattle.pg_top.specs.Theorems.{Means}
use Rattle.pg_top.proofs.theorems.MeantReads.{alphabet_code, patterns_code, meant}
use Rattle.pg_steps.specs.Inside.Texts.{ending_of}
use Rattle.pg_steps.proofs.Stopping.{stops}
use Rattle.pg_top.specs.Inside.Plans.{end_of_pack}
use Rattle.pg_top.proofs.pack.pack_files.Goals as goal

pub returns-in_err-table-clause-begins : goal.returns-in_err-table-clause-begins
returns-in_err-table-clause-begins g c status sink new h =
    c.in_err-table.ensures _ status sink new (stops c.from_residual.result ending_of _ status _ new c.from_residual.ensures.1 h)

pub returns-in_err-patterns-clause-begins : goal.returns-in_err-patterns-clause-begins
returns-in_err-patterns-clause-begins g c status sink new h =
    c.in_ok-table.ensures _ status sink new (c.in_err-patterns.ensures.read _ status sink new
    (stops c.from_residual-in_err-patterns.result ending_of _ status _ new c.from_residual-in_err-patterns.ensures.1 h))

pub returns-in_err-outputs-clause-begins : goal.returns-in_err-outputs-clause-begins
returns-in_err-outputs-clause-begins g c status sink new h =
    let end = end_of_pack c.args.names.now.table.now c.in_ok-table.table in
    c.in_ok-table.ensures _ status sink new (c.in_ok-patterns.ensures.read end status sink new
    (c.in_err-outputs.ensures.made (g.F.Files.shown c.read_patterns.new.files) status sink new
    (stops c.from_residual-in_err-outputs.result ending_of _ status _ new c.from_residual-in_err-outputs.ensures.1 h)))

pub returns-clause-begins : goal.returns-clause-begins
returns-clause-begins g c status sink new h =
    let end = end_of_pack c.args.names.now.table.now c.in_ok-table.table in
    c.in_ok-table.ensures _ status sink new (c.in_ok-patterns.ensures.read end status sink new
    (c.in_ok-outputs.ensures.made (g.F.Files.shown c.read_patterns.new.files) status sink new h))

pub returns-clause-promised : goal.returns-clause-promised
returns-clause-promised g c =
    let s0 = g.F.Files.shown c.args.files.now in
    let s1 = g.F.Files.shown c.read_table.new.files in
    let s2 = g.F.Files.shown c.read_patterns.new.files in
    let n = c.args.names.now in
    let T = c.in_ok-table.table in
    let P = c.in_ok-patterns.patterns in
    let one = meant alphabet_code Translate n.translate.now table T s0 s1 c.in_ok-table.ensures in
    let two = meant patterns_code Patterns n.patterns.now (start T) P s1 s2 c.in_ok-patterns.ensures.read in
    told_on s0.held s1.held s2.held _ _ (λ (before after : FileMap). PackPromise before n.patterns.now n.translate.now) (λ x y z first second. record {
      alphabet = T;
      patterns = P;
      table = first.1;
      entries = subst (λ (files : FileMap). Means (start T) files n.patterns.now P) first.0 second.1;
      good = c.in_ok-outputs.ensures.good;
    }) one two
