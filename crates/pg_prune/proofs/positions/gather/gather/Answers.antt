use Rattle.std.proofs.Common.{◌∙◌}
use Rattle.std.proofs.lemmas.List.Elements.{All-same}
use Rattle.std.proofs.lemmas.Result.{IfOk-from_err}
use Rattle.pg_prune.specs.Inside.positions.Trails.{IsStart}
use Rattle.pg_prune.proofs.positions.gather.gather.Goals as goal

pub returns-in_err-all : goal.returns-in_err-all
returns-in_err-all c = IfOk-from_err c.from_residual.result _ c.from_residual.ensures.0

pub gather_by-requires-clause-starts : goal.gather_by-requires-clause-starts
gather_by-requires-clause-starts c = c.as_slice.ensures.value ∙ c.in_ok-all.ensures.starts

pub gather_by-requires-clause-known : goal.gather_by-requires-clause-known
gather_by-requires-clause-known c = All-same (IsStart c.args.dictionary.now) _ _ c.as_slice.ensures.value c.in_ok-all.ensures.known

pub returns : goal.returns
returns c = c.gather_by.ensures
