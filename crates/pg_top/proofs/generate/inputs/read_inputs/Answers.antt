use Rattle.pg_steps.proofs.Stopping.{stops}
use Rattle.pg_top.proofs.generate.inputs.read_inputs.Goals as goal

pub returns-in_err-table-clause-read : goal.returns-in_err-table-clause-read
returns-in_err-table-clause-read g c next status sink new h =
    c.in_err-table.ensures _ status sink new (stops c.from_residual.result next _ status _ new c.from_residual.ensures.1 h)

pub returns-in_err-params-clause-read : goal.returns-in_err-params-clause-read
returns-in_err-params-clause-read g c next status sink new h =
    c.in_ok-table.ensures _ status sink new (c.in_err-params.ensures _ status sink new
    (stops c.from_residual-in_err-params.result next _ status _ new c.from_residual-in_err-params.ensures.1 h))

pub returns-in_err-start-clause-read : goal.returns-in_err-start-clause-read
returns-in_err-start-clause-read g c next status sink new h =
    c.in_ok-table.ensures _ status sink new (c.in_ok-params.ensures _ status sink new (c.in_err-start.ensures.read _ status sink new
    (stops c.from_residual-in_err-start.result next _ status _ new c.from_residual-in_err-start.ensures.1 h)))

pub returns-in_err-dictionary-clause-read : goal.returns-in_err-dictionary-clause-read
returns-in_err-dictionary-clause-read g c next status sink new h =
    c.in_ok-table.ensures _ status sink new (c.in_ok-params.ensures _ status sink new (c.in_ok-start.ensures.read _ status sink new (c.in_err-dictionary.ensures.read _ status sink new
    (stops c.from_residual-in_err-dictionary.result next _ status _ new c.from_residual-in_err-dictionary.ensures.1 h))))

pub returns-clause-read : goal.returns-clause-read
returns-clause-read g c next status sink new h =
    c.in_ok-table.ensures _ status sink new (c.in_ok-params.ensures _ status sink new (c.in_ok-start.ensures.read _ status sink new (c.in_ok-dictionary.ensures.read _ status sink new h)))
