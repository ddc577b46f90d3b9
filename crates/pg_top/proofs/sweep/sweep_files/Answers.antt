use Rattle.std.proofs.Common.{subst}
use Rattle.pg_plans.specs.Plans.{Plan, Follows}
use Rattle.pg_steps.specs.Inside.Texts.{ending_of}
use Rattle.pg_steps.proofs.Stopping.{stops, stops_short}
use Rattle.pg_words.specs.Inside.CommandRequests.{sweep_of}
use Rattle.pg_top.specs.Inside.Swept.{sets_ended, terms_of}
use Rattle.pg_top.proofs.sweep.sweep_files.Goals as goal

pub returns-in_err-inputs : goal.returns-in_err-inputs
returns-in_err-inputs g c status sink new h =
    c.in_err-inputs.ensures.read (sets_ended (sweep_of c.args.words.now)) status sink new (stops c.from_residual.result ending_of _ status _ new c.from_residual.ensures.1 h)

pub returns-in_err-outputs : goal.returns-in_err-outputs
returns-in_err-outputs g c status sink new h =
    let s = sweep_of c.args.words.now in
    let i = c.in_ok-inputs.inputs in
    c.in_ok-inputs.ensures.read (sets_ended s) status sink new
    (stops_short c.from_residual-in_err-outputs.result ending_of (sets_ended s (terms_of s.folds i) i.sets.items) status _ new c.from_residual-in_err-outputs.ensures.1 h)

pub returns : goal.returns
returns g c status sink new h =
    let s = sweep_of c.args.words.now in
    c.in_ok-inputs.ensures.read (sets_ended s) status sink new
    (subst (λ (p : Plan). Follows p status (g.F.Files.shown c.read_sweep.new.files, sink) new) c.in_ok-outputs.ensures h)
