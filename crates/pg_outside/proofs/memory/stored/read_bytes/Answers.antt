use Rattle.std.proofs.Common.{◌≡◌, ◌+◌, ◌++◌, List, ℕ, length, take, refl, ap, ◌∙◌, arith}
use Rattle.pg_outside.proofs.Results.{no_value, not_err}
use Rattle.pg_outside.proofs.ReadErrors.{long_or_failed, memory_or_long, memory_or_failed}
use Rattle.pg_outside.proofs.memory.stored.read_bytes.Goals as goal

pub returns-in_err-extend_from_slice : goal.returns-in_err-extend_from_slice
returns-in_err-extend_from_slice c = record {
  fits = no_value _ c.from_residual.result c.from_residual.ensures.0;
  ok = no_value _ c.from_residual.result c.from_residual.ensures.0;
  cut = λ is. absurd (memory_or_long _ c.from_residual.ensures.1 is);
  failed = λ is. memory_or_failed _ c.from_residual.ensures.1 is;
}

pub returns-then-bytes-limit : goal.returns-then-bytes-limit
returns-then-bytes-limit c =
    let items : c.extend_from_slice.new.self.items ≡ c.args.bytes.now = c.in_ok-extend_from_slice.ensures.items ∙ ap (λ (l : List ℕ). l ++ c.args.bytes.now) c.requires.empty in
    record {
      fits = omega (arith, ap length items, c.if-bytes-limit.true);
      ok = items;
      cut = λ is. absurd (not_err _ _ is);
      failed = λ is. not_err _ _ is;
    }

pub returns-in_err-extend_from_slice-2 : goal.returns-in_err-extend_from_slice-2
returns-in_err-extend_from_slice-2 c = record {
  fits = no_value _ c.from_residual-in_err-extend_from_slice-2.result c.from_residual-in_err-extend_from_slice-2.ensures.0;
  ok = no_value _ c.from_residual-in_err-extend_from_slice-2.result c.from_residual-in_err-extend_from_slice-2.ensures.0;
  cut = λ is. absurd (memory_or_long _ c.from_residual-in_err-extend_from_slice-2.ensures.1 is);
  failed = λ is. memory_or_failed _ c.from_residual-in_err-extend_from_slice-2.ensures.1 is;
}

pub returns : goal.returns
returns c = record {
  fits = tt;
  ok = tt;
  cut = λ _. (c.if-bytes-limit.false, c.in_ok-extend_from_slice-2.ensures.items ∙ ap (λ (l : List ℕ). l ++ take (c.args.limit + 1) c.args.bytes.now) c.requires.empty);
  failed = λ is. long_or_failed _ refl is;
}
