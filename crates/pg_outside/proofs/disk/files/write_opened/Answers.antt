use Rattle.std.proofs.Common.{◌∙◌, refl, sym, ap}
use Rattle.std.specs.List.{list_any}
use Rattle.std.proofs.lemmas.Bool.{true≢false}
use Rattle.pg_outside.specs.Inside.disk.Writes.{IsIn, is_same_file}
use Rattle.pg_outside.specs.declared.disk.system.FileId.{FileId}
use Rattle.pg_outside.proofs.Causes.{rose_since, failed_on}
use Rattle.pg_outside.proofs.DiskReading.{was_kept}
use Rattle.pg_outside.proofs.Results.{on_err, no_value}
use Rattle.pg_outside.proofs.DiskWriting.{writes_device, write_device_fails, writes_later, writes_nothing, nothing_failed, opened_seen}
use Rattle.pg_outside.proofs.disk.files.write_opened.Goals as goal

pub returns-in_err-seen : goal.returns-in_err-seen
returns-in_err-seen g c = writes_nothing c.from_residual.result _ _ _ _ _ _ _ _ _ c.from_residual.ensures.0 c.from_residual.ensures.1 refl c.stat.ensures.same c.in_err-seen.ensures.failed

pub returns-in_err-write_all : goal.returns-in_err-write_all
returns-in_err-write_all g c = record {
  ok = no_value _ c.from_residual-in_err-write_all.result c.from_residual-in_err-write_all.ensures.0;
  err = on_err c.from_residual-in_err-write_all.result (
    refl,
    write_device_fails _ _ _ _ _ _ _ _ c.requires.opened c.requires.writable c.stat.ensures.same c.in_ok-seen.ensures.seen c.if-not-seen.true c.in_err-write_all.ensures.err.1,
  );
  cause = failed_on c.from_residual-in_err-write_all.result _ _ _ _ _ _ c.from_residual-in_err-write_all.ensures.1 (rose_since _ _ _ c.in_ok-seen.ensures.ok_failures c.in_err-write_all.ensures.err.0);
}

pub returns-then-not-seen : goal.returns-then-not-seen
returns-then-not-seen g c = record {
  ok = (
    c.in_ok-write_all.ensures.ok.0 ∙ c.in_ok-seen.ensures.ok_failures,
    λ id is. is,
    writes_device _ _ _ _ _ _ _ _ c.requires.opened c.requires.writable c.stat.ensures.same c.in_ok-seen.ensures.seen c.if-not-seen.true c.in_ok-write_all.ensures.ok.1,
  );
  err = tt;
  cause = tt;
}

pub returns-then-contains : goal.returns-then-contains
returns-then-contains g c =
    let is_kept : IsIn c.in_ok-seen.seen.id c.args.kept.now.items = sym (c.if-contains.ensures.value ∙ ap (list_any (λ (x : FileId). is_same_file x c.in_ok-seen.seen.id)) c.deref.ensures.value) in
    record {
      ok = tt;
      err = (refl, nothing_failed _ _ _ _ _ c.stat.ensures.same);
      cause = (c.in_ok-seen.ensures.ok_failures, was_kept _ _ _ _ _ _ c.requires.opened c.stat.ensures.same c.in_ok-seen.ensures.seen c.if-not-seen.false is_kept);
    }

pub returns : goal.returns
returns g c = writes_later c.write_regular.result _ _ _ _ _ _ _ _ _ _ _ c.in_ok-seen.ensures.ok_failures refl c.stat.ensures.same c.write_regular.ensures

pub write_regular-requires-clause-old : goal.write_regular-requires-clause-old
write_regular-requires-clause-old g c = opened_seen _ _ _ _ _ c.requires.opened c.requires.writable c.stat.ensures.same c.in_ok-seen.ensures.seen

pub write_regular-requires-clause-free : goal.write_regular-requires-clause-free
write_regular-requires-clause-free g c = λ is_in. true≢false (sym is_in ∙ sym (c.if-contains.ensures.value ∙ ap (list_any (λ (x : FileId). is_same_file x c.in_ok-seen.seen.id)) c.deref.ensures.value))
