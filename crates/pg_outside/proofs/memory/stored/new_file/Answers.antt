use Rattle.std.proofs.Common.{List, ℕ, ◌++◌, ap, ◌∙◌, arith}
use Rattle.std.proofs.lemmas.Result.{IfOk-from_err}
use Rattle.pg_outside.proofs.memory.stored.new_file.Goals as goal

pub returns : goal.returns
returns c = record {
  name = c.in_ok-from_str.ensures.ok;
  bytes = c.in_ok-extend_from_slice.ensures.items ∙ ap (λ (l : List ℕ). l ++ c.args.bytes.now) c.in_ok-held.ensures.items;
  room = omega (arith, c.max.ensures, c.in_ok-held.ensures.capacity, c.extend_from_slice.ensures.capacity);
}

pub returns-in_err-held : goal.returns-in_err-held
returns-in_err-held c = record {
  name = IfOk-from_err _ _ c.from_residual.ensures.0;
  bytes = IfOk-from_err _ _ c.from_residual.ensures.0;
  room = IfOk-from_err _ _ c.from_residual.ensures.0;
}

pub returns-in_err-extend_from_slice : goal.returns-in_err-extend_from_slice
returns-in_err-extend_from_slice c = record {
  name = IfOk-from_err _ _ c.from_residual-in_err-extend_from_slice.ensures.0;
  bytes = IfOk-from_err _ _ c.from_residual-in_err-extend_from_slice.ensures.0;
  room = IfOk-from_err _ _ c.from_residual-in_err-extend_from_slice.ensures.0;
}

pub returns-in_err-from_str : goal.returns-in_err-from_str
returns-in_err-from_str c = record {
  name = IfOk-from_err _ _ c.from_residual-in_err-from_str.ensures.0;
  bytes = IfOk-from_err _ _ c.from_residual-in_err-from_str.ensures.0;
  room = IfOk-from_err _ _ c.from_residual-in_err-from_str.ensures.0;
}
