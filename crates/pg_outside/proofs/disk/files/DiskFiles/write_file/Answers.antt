use Rattle.std.proofs.lemmas.Result.{on_err_weaker, on_ok_weaker}
use Rattle.pg_outside.proofs.DiskWriting.{kept_either}
use Rattle.pg_outside.proofs.disk.files.DiskFiles.write_file.Goals as goal

pub returns : goal.returns
returns g c = record {
  disk = record {
    ok = on_ok_weaker c.write_named-result.result (λ run. run.2) c.write_named-result.ensures.ok;
    err = on_err_weaker c.write_named-result.result (λ run. run.1) c.write_named-result.ensures.err;
    kept = kept_either c.write_named-result.result _ _
        (on_ok_weaker c.write_named-result.result (λ run. run.1) c.write_named-result.ensures.ok)
        (on_err_weaker c.write_named-result.result (λ run. run.0) c.write_named-result.ensures.err);
    err_kept = on_err_weaker c.write_named-result.result (λ run. run.0) c.write_named-result.ensures.err;
    ok_failures = on_ok_weaker c.write_named-result.result (λ run. run.0) c.write_named-result.ensures.ok;
    one_fault = c.count_write.ensures.err;
    ok_faults = c.count_write.ensures.ok;
  };
  cause = c.write_named-result.ensures.cause;
  reason = c.count_write.ensures.reason;
  ok_reason = c.count_write.ensures.ok_reason;
  later = c.count_write.ensures.later;
  calls = c.and-self.ensures;
}
