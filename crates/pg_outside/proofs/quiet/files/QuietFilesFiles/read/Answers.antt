use Rattle.std.proofs.Common.{◌≡◌, refl, ap, ◌∙◌, List, [], length, IsOk, ℕ, arith}
use Rattle.pg_outside.specs.Inside.ToldFiles.{file_at}
use Rattle.pg_outside.specs.Inside.memory.StoredFile.{file_map}
use Rattle.pg_outside.specs.declared.memory.stored.StoredFile.{StoredFile}
use Rattle.pg_outside.proofs.LentFiles.{lent_there, none_lent, reads_lent, reads_cut, cut_length}
use Rattle.pg_outside.proofs.Results.{not_err}
use Rattle.pg_outside.proofs.WhereTold.{keeps_same, is_file, is_file_cut}
use Rattle.pg_outside.proofs.quiet.files.QuietFilesFiles.read.Goals as goal

pub returns-in-Some : goal.returns-in-Some
returns-in-Some c =
    let found = c.bytes_of.ensures ∙ ap (λ (files : List StoredFile). file_at (file_map files) c.args.name.now) c.deref.ensures.value in
    record {
      all = record {
        held = keeps_same _;
        reads = λ name. omega arith;
        writes = λ name. omega arith;
        calls = c.and-self.ensures;
        fits = c.read_bytes.ensures.fits;
        cut = λ long. cut_length _ _ _ (c.read_bytes.ensures.cut long);
        file = is_file c.read_bytes.result c.args.self.now.is_told _ _ _ (reads_lent c.read_bytes.result _ _ _ _ found c.in-Some.is c.read_bytes.ensures.ok);
        cut_file = λ long. is_file_cut c.args.self.now.is_told _ _ _ _ (reads_cut _ _ _ _ _ found c.in-Some.is (c.read_bytes.ensures.cut long));
        failed = λ is. absurd (c.read_bytes.ensures.failed is);
      };
      missing = λ none. absurd {A = IsOk c.read_bytes.result} (lent_there _ _ _ found c.in-Some.is none);
      missing_bytes = λ none. absurd {A = c.read_bytes.new.into.items ≡ []} (lent_there _ _ _ found c.in-Some.is none);
      missing_ends = λ none. absurd (lent_there _ _ _ found c.in-Some.is none);
      quiet = c.read_bytes.ensures.failed;
      found = λ _. refl;
      files = refl;
      rooms = λ name. refl;
    }

pub returns-in-None : goal.returns-in-None
returns-in-None c = record {
  all = record {
    held = tt;
    reads = λ name. omega arith;
    writes = λ name. omega arith;
    calls = c.and-self.ensures;
    fits = omega (arith, ap (λ (l : List ℕ). length l) c.requires.empty);
    cut = λ is. absurd (not_err _ _ is);
    file = tt;
    cut_file = λ is. absurd (not_err _ _ is);
    failed = λ is. absurd (not_err _ _ is);
  };
  missing = λ _. refl;
  missing_bytes = λ _. c.requires.empty;
  missing_ends = λ _. refl;
  quiet = λ is. not_err _ _ is;
  found = λ there. absurd (none_lent _ _ (c.bytes_of.ensures ∙ ap (λ (files : List StoredFile). file_at (file_map files) c.args.name.now) c.deref.ensures.value) c.in-None.is there);
  files = refl;
  rooms = λ name. refl;
}
