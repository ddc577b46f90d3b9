use Rattle.std.proofs.Common.{List, String, refl, ap, arith}
use Rattle.std.specs.declared.alloc.Global.{Global}
use Rattle.pg_outside.specs.Inside.memory.MissingNames.{times_in}
use Rattle.pg_outside.proofs.LentFiles.{none_lent, reads_lent, reads_cut, cut_length}
use Rattle.pg_outside.proofs.Results.{no_value}
use Rattle.pg_outside.proofs.ReadErrors.{long_or_failed, memory_or_long, memory_or_failed, failed_or_memory}
use Rattle.pg_outside.proofs.memory.files.read_or_note.Goals as goal

pub returns-in-Some : goal.returns-in-Some
returns-in-Some c = record {
  fits = c.read_bytes.ensures.fits;
  cut = λ long. cut_length _ _ _ (c.read_bytes.ensures.cut long);
  file = reads_lent c.read_bytes.result _ _ _ _ c.bytes_of.ensures c.in-Some.is c.read_bytes.ensures.ok;
  cut_file = λ long. reads_cut _ _ _ _ _ c.bytes_of.ensures c.in-Some.is (c.read_bytes.ensures.cut long);
  failed = λ is. absurd (c.read_bytes.ensures.failed is);
  found = λ _. c.read_bytes.ensures.failed;
  same = λ _. refl;
  memory = λ _. refl;
  others = λ _ _. refl;
  later = λ q. omega arith;
  by_one = λ q. omega arith;
}

pub returns-in_err-note_name-in-None : goal.returns-in_err-note_name-in-None
returns-in_err-note_name-in-None c = record {
  fits = no_value _ c.from_residual.result c.from_residual.ensures.0;
  cut = λ is. absurd (memory_or_long _ c.from_residual.ensures.1 is);
  file = no_value _ c.from_residual.result c.from_residual.ensures.0;
  cut_file = λ is. absurd (memory_or_long _ c.from_residual.ensures.1 is);
  failed = λ is. absurd (memory_or_failed _ c.from_residual.ensures.1 is);
  found = λ _ is. absurd (memory_or_failed _ c.from_residual.ensures.1 is);
  same = λ _. c.in_err-note_name-in-None.ensures.err;
  memory = λ _. c.in_err-note_name-in-None.ensures.err;
  others = λ other _. ap (λ (names : List (String Global)). times_in names other) c.in_err-note_name-in-None.ensures.err;
  later = c.note_name.ensures.later;
  by_one = c.note_name.ensures.by_one;
}

pub returns-in_ok-note_name-in-None : goal.returns-in_ok-note_name-in-None
returns-in_ok-note_name-in-None c = record {
  fits = tt;
  cut = λ is. absurd (long_or_failed _ is refl);
  file = tt;
  cut_file = λ is. absurd (long_or_failed _ is refl);
  failed = λ _. c.in_ok-note_name-in-None.ensures.counted;
  found = λ there. absurd (none_lent _ _ c.bytes_of.ensures c.in-None.is there);
  same = λ there. absurd (none_lent _ _ c.bytes_of.ensures c.in-None.is there);
  memory = λ is. absurd (failed_or_memory _ refl is);
  others = c.in_ok-note_name-in-None.ensures.others;
  later = c.note_name.ensures.later;
  by_one = c.note_name.ensures.by_one;
}
