use Rattle.std.proofs.lemmas.Result.{on_ok_weaker}
use Rattle.pg_outside.proofs.Causes.{rose_one}
use Rattle.pg_outside.proofs.DiskShown.{keeps_held, read_held, cut_held}
use Rattle.pg_outside.proofs.disk.files.DiskFilesFiles.read.Goals as goal

pub returns : goal.returns
returns g c = record {
  all = record {
    held = keeps_held _ _ c.read_named-result.ensures.same.0;
    reads = λ _. c.count_read.ensures.later;
    writes = λ _. c.count_read.ensures.later;
    calls = c.and-self.ensures;
    fits = on_ok_weaker c.read_named-result.result (λ all. all.1) c.read_named-result.ensures.all;
    cut = λ long. (c.read_named-result.ensures.front long).0;
    file = on_ok_weaker c.read_named-result.result (λ all. read_held _ _ _ (g.met.S.System.plain c.read_named-result.new.system) all.2) c.read_named-result.ensures.all;
    cut_file = λ long. cut_held _ _ _ _ (g.met.S.System.plain c.read_named-result.new.system) (c.read_named-result.ensures.front long).1;
    failed = λ is. rose_one _ _ (c.count_read.ensures.failed is);
  };
  same = c.read_named-result.ensures.same.0;
  content = on_ok_weaker c.read_named-result.result (λ all. all.2) c.read_named-result.ensures.all;
  content_cut = λ long. (c.read_named-result.ensures.front long).1;
  kept = c.read_named-result.ensures.same.1;
  noted = on_ok_weaker c.read_named-result.result (λ all. all.3) c.read_named-result.ensures.all;
  cut_noted = λ long. (c.read_named-result.ensures.front long).2;
  only = c.read_named-result.ensures.same.2;
  cause = c.read_named-result.ensures.failed;
  ok_failures = on_ok_weaker c.read_named-result.result (λ all. all.0) c.read_named-result.ensures.all;
  other_failures = c.read_named-result.ensures.other_failures;
  one_fault = c.count_read.ensures.failed;
  ok_faults = c.count_read.ensures.ok;
  long_faults = c.count_read.ensures.long;
  memory_faults = c.count_read.ensures.memory;
}
