use Rattle.std.proofs.Common.{subst}
use Rattle.pg_outside.specs.Content.{FileMap}
use Rattle.pg_plans.proofs.Told.{told_as}
use Rattle.pg_plans.specs.Plans.{Plan, Ending, Follows}
use Rattle.pg_plans.specs.declared.answers.Status.TheVariants.{Done}
use Rattle.pg_steps.specs.Inside.Texts.{ending_of}
use Rattle.pg_steps.proofs.Stopping.{stops, stops_short}
use Rattle.pg_words.specs.Inside.CommandRequests.{texts_of}
use Rattle.pg_words.specs.Inside.forms.Generate.{FileNames}
use Rattle.pg_top.specs.Generating.{selected_lines}
use Rattle.pg_top.specs.Inside.selection.SelectedFiles.{selected_files}
use Rattle.pg_top.specs.Promises.{GeneratePromise}
use Rattle.pg_top.specs.declared.selection.Inputs.{Inputs}
use Rattle.pg_top.proofs.theorems.MeantReads.{meant_inputs}
use Rattle.pg_top.proofs.generate.generate_files.Goals as goal

-- the end of the plan, by what was read
abbrev written : FileNames → Inputs → Plan
written n i = Ending Done (selected_files n i) (selected_lines i)

pub returns-in_err-inputs-clause-begins : goal.returns-in_err-inputs-clause-begins
returns-in_err-inputs-clause-begins g c status sink new h =
    c.in_err-inputs.ensures.read (written (texts_of c.args.names.now)) status sink new (stops c.from_residual.result ending_of _ status _ new c.from_residual.ensures.1 h)

pub returns-in_err-outputs-clause-begins : goal.returns-in_err-outputs-clause-begins
returns-in_err-outputs-clause-begins g c status sink new h =
    let end = written (texts_of c.args.names.now) in
    c.in_ok-inputs.ensures.read end status sink new
    (stops_short c.from_residual-in_err-outputs.result ending_of (end c.in_ok-inputs.inputs) status _ new c.from_residual-in_err-outputs.ensures.1 h)

pub returns-clause-begins : goal.returns-clause-begins
returns-clause-begins g c status sink new h =
    let files = c.in_ok-outputs.ensures.files in
    let lines = c.in_ok-outputs.ensures.lines in
    c.in_ok-inputs.ensures.read (written (texts_of c.args.names.now)) status sink new
    (subst (λ plan. Follows plan status (g.F.Files.shown c.read_inputs.new.files, sink) new) (λ k. Ending Done (files k) (lines k)) h)

pub returns-clause-promised : goal.returns-clause-promised
returns-clause-promised g c =
    let n = c.args.names.now in
    let s0 = g.F.Files.shown c.args.files.now in
    let s1 = g.F.Files.shown c.read_inputs.new.files in
    told_as s0.held s1.held _ (λ (before after : FileMap). GeneratePromise before n.dict.now n.patterns.now n.translate.now n.params.now) (λ x z is. record {
      inputs = c.in_ok-inputs.inputs;
      has = is.1;
      reads_back = record { patterns = c.in_ok-outputs.ensures.reads_back; list = c.list_reads_back.ensures };
    }) (meant_inputs n.dict.now n.patterns.now n.translate.now n.params.now c.in_ok-inputs.inputs s0 s1 c.in_ok-inputs.ensures.read)
