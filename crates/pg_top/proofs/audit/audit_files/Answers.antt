use Rattle.std.proofs.Common.{ap, sym, subst, ◌∙◌}
use Rattle.pg_plans.specs.Plans.{Follows}
use Rattle.pg_steps.proofs.Stopping.{stops, stops_short}
use Rattle.pg_words.specs.Inside.CommandRequests.{texts_of}
use Rattle.pg_top.specs.Auditing.{comparison}
use Rattle.pg_top.specs.Inside.Comparing.{comparing, end_of}
use Rattle.pg_top.specs.Inside.Requests.{selected_names}
use Rattle.pg_top.specs.declared.selection.Inputs.{Inputs}
use Rattle.pg_top.proofs.audit.Judgements.{compared-is}
use Rattle.pg_top.proofs.audit.audit_files.Goals as goal

pub returns-in_err-inputs : goal.returns-in_err-inputs
returns-in_err-inputs g c status sink new h =
    c.in_err-inputs.ensures.read (λ (i : Inputs). comparison i (selected_names (texts_of c.args.names.now))) status sink new
    (stops c.from_residual.result end_of _ status _ new c.from_residual.ensures.1 h)

pub returns-in_err-wanted : goal.returns-in_err-wanted
returns-in_err-wanted g c status sink new h =
    let gs = selected_names (texts_of c.args.names.now) in
    c.in_ok-inputs.ensures.read (λ (i : Inputs). comparison i gs) status sink new
    (stops_short c.from_residual-in_err-wanted.result end_of (comparison c.in_ok-inputs.inputs gs) status _ new c.from_residual-in_err-wanted.ensures.1 h)

pub returns : goal.returns
returns g c status sink new h =
    let gs = selected_names (texts_of c.args.names.now) in
    let is = sym (compared-is c.in_ok-inputs.inputs gs ∙ ap comparing (sym c.in_ok-wanted.ensures)) in
    let there = rw c.deref.ensures.value at (c.compare_all.ensures status sink new h) in
    c.in_ok-inputs.ensures.read (λ (i : Inputs). comparison i gs) status sink new (subst (λ plan. Follows plan status (g.F.Files.shown c.read_inputs.new.files, sink) new) is there)
