-- The plan of what is asked for.
use Rattle.std.specs.Prelude.{ℕ, List, ◌++◌}
use Rattle.pg_plans.specs.Plans.{Plan}
use Rattle.pg_steps.specs.declared.inputs.Given.{Given}
use Rattle.pg_steps.specs.declared.inputs.Given.TheVariants as given
use Rattle.pg_words.specs.Inside.Requests.{Request, ToGenerate, ToAudit, ToSample, ToPack, ToTotals, ToPrune, ToSweep}
use Rattle.pg_words.specs.Inside.forms.Generate.{FileNames, if_asked}
use Rattle.pg_words.specs.Inside.forms.Sweep.{SweepRequest}
use Rattle.pg_top.specs.Inside.Plans.{plan_of_audit, plan_of_generate, plan_of_pack, plan_of_prune, plan_of_totals}
use Rattle.pg_top.specs.Generating.{files_of}
use Rattle.pg_top.specs.Sampling.{sampled}
use Rattle.pg_top.specs.Sweeping.{swept}

-- the files that options asked for
abbrev pub asked_of : FileNames → List (Given × List ℕ)
asked_of n = if_asked n.pattmp (λ name. (given.Pattmp, name))
    ++ if_asked n.cells (λ name. (given.Cells, name))

-- the files of a selection in their order
abbrev pub selected_names : FileNames → List (Given × List ℕ)
selected_names n = files_of n.output (asked_of n) n.report

abbrev pub generate_plan : FileNames → Plan
generate_plan n = plan_of_generate n.dict n.patterns n.translate n.params (selected_names n)

abbrev pub audit_plan : FileNames → Plan
audit_plan n = plan_of_audit n.dict n.patterns n.translate n.params (selected_names n)

abbrev pub sweep_plan : SweepRequest → Plan
sweep_plan s = swept s.dict s.patterns s.output s.translate s.folds s.bad s.missed s.params

-- the plan of what is asked for
abbrev pub plan_by : Request → Plan
plan_by (ToGenerate n) = generate_plan n
plan_by (ToAudit n) = audit_plan n
plan_by (ToSample seed count) = sampled seed count
plan_by (ToPack n) = plan_of_pack n.patterns n.translate n.table
plan_by (ToTotals n) = plan_of_totals n.dict n.translate n.table
plan_by (ToPrune n) = plan_of_prune n.dict n.patterns n.output n.translate n.report
plan_by (ToSweep s) = sweep_plan s
