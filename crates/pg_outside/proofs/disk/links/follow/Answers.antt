use Rattle.std.proofs.Common.{◌∙◌, refl, string_bytes, arith}
use Rattle.pg_outside.proofs.Runs.{keeps_both, keeps_self}
use Rattle.pg_outside.proofs.Causes.{rose_since, failed_on, memory_on}
use Rattle.pg_outside.proofs.Links.{not_followed, reached_on, stands_none, stands_some, leads_open, is_deep}
use Rattle.std.proofs.lemmas.Result.{IfOk-from_err}
use Rattle.pg_outside.proofs.disk.links.follow.Goals as goal

pub loop-preserved : goal.loop-preserved
loop-preserved g c =
    let kind = rw (c.as_str.ensures.value, c.in-Link.is) at c.in_ok-look.ensures.kind in
    let text = rw c.as_str-in-Link.ensures.value at c.in_ok-text-in-Link.ensures.text in
    let joined = rw (c.as_str-in-Link-2.ensures.value, c.as_str-in-Link-3.ensures.value) at c.in_ok-real-in-Link.ensures in
    record {
      same = keeps_both _ _ _ (keeps_both _ _ _ c.loop.invariant.same c.look.ensures.same) c.read_link.ensures.same;
      reached = reached_on _ (string_bytes c.loop.real) (string_bytes c.in_ok-text-in-Link.text) _ c.loop.counter _ _ _ _ c.loop.invariant.reached
          c.look.ensures.same kind c.read_link.ensures.same text joined refl;
      failures = c.in_ok-text-in-Link.ensures.ok_failures ∙ c.in_ok-look.ensures.ok_failures ∙ c.loop.invariant.failures;
    }

pub loop-init : goal.loop-init
loop-init g c = record {
  same = keeps_self _;
  reached = not_followed _ _ _ c.in_ok-real.ensures.ok;
  failures = refl;
}

pub returns-in-OpenFile : goal.returns-in-OpenFile
returns-in-OpenFile g c = record {
  same = keeps_both _ _ _ c.loop.invariant.same c.look.ensures.same;
  found = tt;
  cause = let kind = rw (c.as_str.ensures.value, c.in-OpenFile.is) at c.in_ok-look.ensures.kind in (
    c.in_ok-look.ensures.ok_failures ∙ c.loop.invariant.failures,
    leads_open _ _ _ _ _ c.loop.invariant.reached c.look.ensures.same kind,
  );
}

pub returns-in-Missing : goal.returns-in-Missing
returns-in-Missing g c = record {
  same = keeps_both _ _ _ c.loop.invariant.same c.look.ensures.same;
  found = let kind = rw (c.as_str.ensures.value, c.in-Missing.is) at c.in_ok-look.ensures.kind in (
    c.in_ok-look.ensures.ok_failures ∙ c.loop.invariant.failures,
    stands_none _ _ _ _ _ _ _ c.loop.invariant.reached c.look.ensures.same kind c.make_real_name.ensures.name c.make_real_name.ensures.file,
  );
  cause = tt;
}

pub returns-in-File : goal.returns-in-File
returns-in-File g c = record {
  same = keeps_both _ _ _ c.loop.invariant.same c.look.ensures.same;
  found = let kind = rw (c.as_str.ensures.value, c.in-File.is) at c.in_ok-look.ensures.kind in (
    c.in_ok-look.ensures.ok_failures ∙ c.loop.invariant.failures,
    stands_some _ _ _ c.in-File.id _ _ _ _ c.loop.invariant.reached c.look.ensures.same
        kind c.make_real_name-in-File.ensures.name c.make_real_name-in-File.ensures.file,
  );
  cause = tt;
}

pub returns : goal.returns
returns g c = record {
  same = c.loop.invariant.same;
  found = tt;
  cause = (c.loop.invariant.failures, is_deep _ _ _ _ (omega arith) c.loop.invariant.reached);
}

pub returns-in_err-real : goal.returns-in_err-real
returns-in_err-real g c = record {
  same = keeps_self _;
  found = IfOk-from_err _ _ c.from_residual.ensures.0;
  cause = memory_on c.from_residual.result _ _ _ _ _ _ c.from_residual.ensures.1 refl;
}

pub returns-in_err-look : goal.returns-in_err-look
returns-in_err-look g c = record {
  same = keeps_both _ _ _ c.loop.invariant.same c.look.ensures.same;
  found = IfOk-from_err _ _ c.from_residual-in_err-look.ensures.0;
  cause = failed_on c.from_residual-in_err-look.result _ _ _ _ _ _ c.from_residual-in_err-look.ensures.1 (rose_since _ _ _ c.loop.invariant.failures c.in_err-look.ensures.failed);
}

pub returns-in_err-text-in-Link : goal.returns-in_err-text-in-Link
returns-in_err-text-in-Link g c = record {
  same = keeps_both _ _ _ (keeps_both _ _ _ c.loop.invariant.same c.look.ensures.same) c.read_link.ensures.same;
  found = IfOk-from_err _ _ c.from_residual-in_err-text-in-Link.ensures.0;
  cause = failed_on c.from_residual-in_err-text-in-Link.result _ _ _ _ _ _ c.from_residual-in_err-text-in-Link.ensures.1
      (rose_since _ _ _ (c.in_ok-look.ensures.ok_failures ∙ c.loop.invariant.failures) c.in_err-text-in-Link.ensures.failed);
}

pub returns-in_err-real-in-Link : goal.returns-in_err-real-in-Link
returns-in_err-real-in-Link g c = record {
  same = keeps_both _ _ _ (keeps_both _ _ _ c.loop.invariant.same c.look.ensures.same) c.read_link.ensures.same;
  found = IfOk-from_err _ _ c.from_residual-in_err-real-in-Link.ensures.0;
  cause = memory_on c.from_residual-in_err-real-in-Link.result _ _ _ _ _ _ c.from_residual-in_err-real-in-Link.ensures.1
      (c.in_ok-text-in-Link.ensures.ok_failures ∙ c.in_ok-look.ensures.ok_failures ∙ c.loop.invariant.failures);
}
