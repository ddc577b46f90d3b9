use Rattle.std.proofs.Common.{List, Some, IsSome, sym, ap, subst, ◌∙◌, arith, refl}
use Rattle.pg_outside.specs.Inside.ToldFiles.{file_at}
use Rattle.pg_outside.specs.Inside.memory.StoredFile.{file_map, room_in}
use Rattle.pg_outside.specs.declared.memory.stored.StoredFile.{StoredFile}
use Rattle.pg_outside.proofs.ListedCalls.{not_listed, not_unlisted}
use Rattle.pg_outside.proofs.MemoryCounts.{reads_later, reads_by_one, reads_rose, reads_same}
use Rattle.pg_outside.proofs.ReadErrors.{long_or_failed, failed_or_memory}
use Rattle.pg_outside.proofs.memory.files.MemoryFilesFiles.read.Goals as goal

pub returns-in-Some : goal.returns-in-Some
returns-in-Some c = record {
  all = record {
    held = ap (λ (files : List StoredFile). Some (file_map files)) (sym (ap (λ v. v.items) c.next_plan.ensures.files));
    reads = reads_later c.args.self.now.missing.items c.next_plan.new.self.missing.items c.args.self.now.reads_failed c.next_plan.new.self.reads_failed
        (ap (λ v. v.items) c.next_plan.ensures.missing) c.next_plan.ensures.reads;
    writes = λ _. c.next_plan.ensures.writes;
    calls = c.next_plan.ensures.made ∙ c.and-self.ensures;
    fits = tt;
    cut = λ is. absurd (long_or_failed _ is refl);
    file = tt;
    cut_file = λ is. absurd (long_or_failed _ is refl);
    failed = λ _. reads_rose c.args.self.now.missing.items c.next_plan.new.self.missing.items c.args.self.now.reads_failed c.next_plan.new.self.reads_failed
        (ap (λ v. v.items) c.next_plan.ensures.missing) c.in-Some.ensures.reads_rose c.args.name.now;
  };
  calls = c.next_plan.ensures.calls;
  listed = c.next_plan.ensures.listed;
  rooms = λ name. ap (λ (files : List StoredFile). room_in files name) (ap (λ v. v.items) c.next_plan.ensures.files);
  listed_fails = λ _. refl;
  listed_reads = λ _. reads_rose c.args.self.now.missing.items c.next_plan.new.self.missing.items c.args.self.now.reads_failed c.next_plan.new.self.reads_failed
      (ap (λ v. v.items) c.next_plan.ensures.missing) c.in-Some.ensures.reads_rose;
  listed_writes = λ _ name. omega (arith, c.in-Some.ensures.writes_rose);
  found = λ unlisted. absurd (not_unlisted _ _ _ _ c.next_plan.ensures.plan c.in-Some.is unlisted);
  found_reads = λ unlisted. absurd (not_unlisted _ _ _ _ c.next_plan.ensures.plan c.in-Some.is unlisted);
  missing_reads = λ unlisted. absurd (not_unlisted _ _ _ _ c.next_plan.ensures.plan c.in-Some.is unlisted);
  memory_reads = λ is. absurd (failed_or_memory _ refl is);
  unlisted_writes = λ unlisted. absurd (not_unlisted _ _ _ _ c.next_plan.ensures.plan c.in-Some.is unlisted);
  reads_by_one = reads_by_one c.args.self.now.missing.items c.next_plan.new.self.missing.items c.args.self.now.reads_failed c.next_plan.new.self.reads_failed
      (ap (λ v. v.items) c.next_plan.ensures.missing) c.next_plan.ensures.reads_by_one;
  writes_by_one = λ _. c.next_plan.ensures.writes_by_one;
}

pub returns-in-None : goal.returns-in-None
returns-in-None c = record {
  all = record {
    held = ap (λ (files : List StoredFile). Some (file_map files)) (sym (ap (λ v. v.items) c.next_plan.ensures.files));
    reads = λ name. grind (arith, c.read_or_note.ensures.later name);
    writes = λ _. c.next_plan.ensures.writes;
    calls = c.next_plan.ensures.made ∙ c.and-self.ensures;
    fits = c.read_or_note.ensures.fits;
    cut = c.read_or_note.ensures.cut;
    file = rw c.deref.ensures.value at c.read_or_note.ensures.file;
    cut_file = rw c.deref.ensures.value at c.read_or_note.ensures.cut_file;
    failed = λ is. grind (arith, c.read_or_note.ensures.failed is);
  };
  calls = c.next_plan.ensures.calls;
  listed = c.next_plan.ensures.listed;
  rooms = λ name. ap (λ (files : List StoredFile). room_in files name) (ap (λ v. v.items) c.next_plan.ensures.files);
  listed_fails = λ listed. absurd (not_listed _ _ _ c.next_plan.ensures.plan c.in-None.is listed);
  listed_reads = λ listed. absurd (not_listed _ _ _ c.next_plan.ensures.plan c.in-None.is listed);
  listed_writes = λ listed. absurd (not_listed _ _ _ c.next_plan.ensures.plan c.in-None.is listed);
  found = λ _ there. c.read_or_note.ensures.found
      (subst (λ (files : List StoredFile). IsSome (file_at (file_map files) c.args.name.now)) (sym (c.deref.ensures.value ∙ ap (λ v. v.items) c.next_plan.ensures.files)) there);
  found_reads = λ _ there. reads_same c.args.self.now.missing.items c.read_or_note.new.missing.items c.args.self.now.reads_failed c.next_plan.new.self.reads_failed
      (c.read_or_note.ensures.same
      (subst (λ (files : List StoredFile). IsSome (file_at (file_map files) c.args.name.now)) (sym (c.deref.ensures.value ∙ ap (λ v. v.items) c.next_plan.ensures.files)) there)
      ∙ ap (λ v. v.items) c.next_plan.ensures.missing) c.in-None.ensures.reads_same;
  missing_reads = λ unlisted other apart. grind (arith, c.read_or_note.ensures.others other apart);
  memory_reads = λ is. reads_same c.args.self.now.missing.items c.read_or_note.new.missing.items c.args.self.now.reads_failed c.next_plan.new.self.reads_failed
      (c.read_or_note.ensures.memory is ∙ ap (λ v. v.items) c.next_plan.ensures.missing) c.in-None.ensures.reads_same;
  unlisted_writes = λ _ name. c.in-None.ensures.writes_same;
  reads_by_one = λ name. grind (arith, c.read_or_note.ensures.by_one name);
  writes_by_one = λ _. c.next_plan.ensures.writes_by_one;
}
