use Rattle.std.proofs.Common.{List, [], Result, sym, ap, ◌∙◌}
use Rattle.std.proofs.lemmas.Result.{IfOk-weaker}
use Rattle.pg_types.specs.declared.refusals.Refusal.{Refusal}
use Rattle.pg_dict.specs.Word.{Word}
use Rattle.pg_plans.specs.Plans.{Ending}
use Rattle.pg_plans.specs.declared.answers.Status.TheVariants.{Done}
use Rattle.pg_steps.specs.InputPlans.{unless_refused}
use Rattle.pg_steps.specs.declared.inputs.Input.TheVariants.{Dictionary}
use Rattle.pg_top.specs.Sampling.{sample_inputs, sample_lines}
use Rattle.pg_top.proofs.sample.sample_lines.Goals as goal

pub returns : goal.returns
returns g c =
    let i = c.in_ok-inputs.inputs in
    IfOk-weaker c.run_lines.result _ _
    (λ lines is. ap (λ (r : Result (List Word) Refusal). unless_refused Dictionary r (λ ws. Ending Done [] (sample_lines (sample_inputs ws)))) c.in_ok-inputs.ensures.inputs.words
    ∙ ap (λ j. Ending Done [] (sample_lines j)) (sym c.in_ok-inputs.ensures.inputs.inputs) ∙ ap (Ending Done []) (sym is)) c.run_lines.ensures
