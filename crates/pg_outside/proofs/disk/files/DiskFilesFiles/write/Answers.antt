use Rattle.pg_outside.proofs.DiskShown.{written_held, failed_held}
use Rattle.pg_outside.proofs.Causes.{rose_one}
use Rattle.pg_outside.proofs.disk.files.DiskFilesFiles.write.Goals as goal

pub returns-in-Ok : goal.returns-in-Ok
returns-in-Ok g c = record {
  all = record {
    whole = written_held _ _ _ _ _ _ _ (g.met.S.System.plain c.args.self.now.system) (g.met.S.System.plain c.write_file.new.self.system) c.in-Ok.ensures.disk.ok;
    part = tt;
    reads = λ _. c.write_file.ensures.later;
    writes = λ _. c.write_file.ensures.later;
    failed = tt;
    calls = c.write_file.ensures.calls;
  };
  disk = let left = c.in-Ok.ensures.disk in
      record { ok = left.ok; err = tt; kept = left.kept; err_kept = tt; ok_failures = left.ok_failures; one_fault = tt; ok_faults = left.ok_faults };
  reason = tt;
  ok_reason = c.in-Ok.ensures.ok_reason;
}

pub returns-in-Err : goal.returns-in-Err
returns-in-Err g c = record {
  all = record {
    whole = tt;
    part = failed_held _ _ _ _ _ (g.met.S.System.plain c.args.self.now.system) (g.met.S.System.plain c.write_file.new.self.system) c.in-Err.ensures.disk.err;
    reads = λ _. c.write_file.ensures.later;
    writes = λ _. c.write_file.ensures.later;
    failed = rose_one _ _ c.in-Err.ensures.disk.one_fault;
    calls = c.write_file.ensures.calls;
  };
  disk = let left = c.in-Err.ensures.disk in
      record { ok = tt; err = left.err; kept = left.kept; err_kept = left.err_kept; ok_failures = tt; one_fault = left.one_fault; ok_faults = tt };
  reason = rw c.in-Err.ensures.reason;
  ok_reason = tt;
}
