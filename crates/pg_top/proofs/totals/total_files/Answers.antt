use Rattle.std.proofs.Common.{[], ◌∙◌, List, ap, subst}
use Rattle.pg_plans.specs.Plans.{Plan, Ending, Follows}
use Rattle.pg_plans.specs.declared.answers.Status.TheVariants.{Done}
use Rattle.pg_steps.specs.Inside.Texts.{ending_of, writing_of}
use Rattle.pg_steps.specs.declared.ends.OutputFile.{OutputFile}
use Rattle.pg_steps.proofs.Stopping.{stops}
use Rattle.pg_top.proofs.totals.total_files.Goals as goal

pub returns-in_err-letters : goal.returns-in_err-letters
returns-in_err-letters g c status sink new h =
    c.in_err-letters.ensures _ status sink new (stops c.from_residual.result ending_of _ status _ new c.from_residual.ensures.1 h)

pub returns-in_err-dictionary : goal.returns-in_err-dictionary
returns-in_err-dictionary g c status sink new h =
    c.in_ok-letters.ensures _ status sink new (c.in_err-dictionary.ensures.read _ status sink new
    (stops c.from_residual-in_err-dictionary.result ending_of _ status _ new c.from_residual-in_err-dictionary.ensures.1 h))

pub returns-in_err-lines : goal.returns-in_err-lines
returns-in_err-lines g c status sink new h =
    c.in_ok-letters.ensures _ status sink new (c.in_ok-dictionary.ensures.read _ status sink new (c.in_err-lines.ensures status sink new
    (stops c.from_residual-in_err-lines.result ending_of _ status _ new c.from_residual-in_err-lines.ensures.1 h)))

pub returns : goal.returns
returns g c status sink new h =
    let none = ap (λ (fs : List OutputFile). Ending Done (writing_of fs) c.in_ok-lines.lines.items) c.new.ensures.items in
    c.in_ok-letters.ensures _ status sink new (c.in_ok-dictionary.ensures.read _ status sink new (c.in_ok-lines.ensures status sink new
    (subst (λ (p : Plan). Follows p status (g.F.Files.shown c.total_by-lines.new.files, sink) new) none h)))
