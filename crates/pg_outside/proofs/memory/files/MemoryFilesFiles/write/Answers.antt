use Rattle.std.proofs.Common.{◌≡◌, ◌≤◌, ◌⊎◌, List, take, length, min, IsSome, inl, ap, sym, ◌∙◌, subst, arith, rules, refl}
use Rattle.std.specs.FinMap as fin
use Rattle.pg_outside.specs.Content.{HasPart}
use Rattle.pg_outside.specs.Inside.ToldFiles.{file_at}
use Rattle.pg_outside.specs.Inside.NameFaults.{NoneFell}
use Rattle.pg_outside.specs.Inside.memory.StoredFile.{file_map, room_in}
use Rattle.pg_outside.specs.declared.memory.stored.StoredFile.{StoredFile}
use Rattle.pg_outside.proofs.ListedCalls.{not_listed, not_unlisted, not_kept, kept_is}
use Rattle.pg_outside.proofs.MemoryCounts.{reads_later, reads_by_one, reads_same, reads_rose}
use Rattle.pg_outside.proofs.Results.{at_err, at_ok}
use Rattle.pg_outside.proofs.memory.files.MemoryFilesFiles.write.Goals as goal

pub returns-in-Some : goal.returns-in-Some
returns-in-Some c = record {
  all = record {
    whole = tt;
    part = subst (λ (files : List StoredFile). HasPart (file_map files) (file_map c.store_front.new.files.items) c.args.name.now c.args.bytes.now)
        (ap (λ v. v.items) c.next_plan.ensures.files) c.store_front.ensures.part;
    reads = reads_later c.args.self.now.missing.items c.next_plan.new.self.missing.items c.args.self.now.reads_failed c.next_plan.new.self.reads_failed
        (ap (λ v. v.items) c.next_plan.ensures.missing) c.next_plan.ensures.reads;
    writes = λ _. c.next_plan.ensures.writes;
    failed = omega (arith, c.in-Some.ensures.writes_rose);
    calls = c.next_plan.ensures.made ∙ c.and-self.ensures;
  };
  calls = c.next_plan.ensures.calls;
  listed = c.next_plan.ensures.listed;
  rooms = subst (λ (files : List StoredFile). NoneFell (room_in files) (room_in c.store_front.new.files.items)) (ap (λ v. v.items) c.next_plan.ensures.files) c.store_front.ensures.rooms;
  listed_fails = λ _. refl;
  listed_reads = λ _. reads_rose c.args.self.now.missing.items c.next_plan.new.self.missing.items c.args.self.now.reads_failed c.next_plan.new.self.reads_failed
      (ap (λ v. v.items) c.next_plan.ensures.missing) c.in-Some.ensures.reads_rose;
  keeps_none = λ kept. c.store_front.ensures.none (kept_is _ _ _ _ _ c.next_plan.ensures.plan c.in-Some.is kept) ∙ ap file_map (ap (λ v. v.items) c.next_plan.ensures.files);
  keeps = λ keep kept. subst
      (λ (files : List StoredFile). (file_map c.store_front.new.files.items ≡ file_map files)
      ⊎ (file_map c.store_front.new.files.items ≡ fin.insert (file_map files) c.args.name.now (take keep c.args.bytes.now)))
      (ap (λ v. v.items) c.next_plan.ensures.files) (c.store_front.ensures.front keep (kept_is _ _ _ _ _ c.next_plan.ensures.plan c.in-Some.is kept));
  keeps_within = λ keep kept. subst
      (λ (files : List StoredFile). IsSome (file_at (file_map files) c.args.name.now) → min keep (length c.args.bytes.now) ≤ room_in files c.args.name.now
      → file_map c.store_front.new.files.items ≡ fin.insert (file_map files) c.args.name.now (take keep c.args.bytes.now))
      (ap (λ v. v.items) c.next_plan.ensures.files) (c.store_front.ensures.within keep (kept_is _ _ _ _ _ c.next_plan.ensures.plan c.in-Some.is kept));
  within = λ unlisted. absurd (not_unlisted _ _ _ _ c.next_plan.ensures.plan c.in-Some.is unlisted);
  unlisted_files = λ unlisted. absurd (not_unlisted _ _ _ _ c.next_plan.ensures.plan c.in-Some.is unlisted);
  failed_writes = λ _. omega (arith, c.in-Some.ensures.writes_rose);
  ok_writes = tt;
  unlisted_reads = λ unlisted. absurd (not_unlisted _ _ _ _ c.next_plan.ensures.plan c.in-Some.is unlisted);
  reads_by_one = reads_by_one c.args.self.now.missing.items c.next_plan.new.self.missing.items c.args.self.now.reads_failed c.next_plan.new.self.reads_failed
      (ap (λ v. v.items) c.next_plan.ensures.missing) c.next_plan.ensures.reads_by_one;
  writes_by_one = λ _. c.next_plan.ensures.writes_by_one;
}

pub returns-then-is_err : goal.returns-then-is_err
returns-then-is_err c = record {
  all = record {
    whole = tt;
    part = inl (at_err c.store.result (sym c.is_err.ensures.value ∙ c.if-is_err.true) c.store.ensures.err
        ∙ ap file_map (ap (λ v. v.items) c.next_plan.ensures.files));
    reads = reads_later c.args.self.now.missing.items c.next_plan.new.self.missing.items c.args.self.now.reads_failed c.next_plan.new.self.reads_failed
        (ap (λ v. v.items) c.next_plan.ensures.missing) c.next_plan.ensures.reads;
    writes = λ _. omega (arith, c.in-None.ensures.writes_same);
    failed = omega (arith, c.in-None.ensures.writes_same);
    calls = c.next_plan.ensures.made ∙ c.and-self.ensures;
  };
  calls = c.next_plan.ensures.calls;
  listed = c.next_plan.ensures.listed;
  rooms = subst (λ (files : List StoredFile). NoneFell (room_in files) (room_in c.store.new.files.items)) (ap (λ v. v.items) c.next_plan.ensures.files) c.store.ensures.rooms;
  listed_fails = λ listed. absurd (not_listed _ _ _ c.next_plan.ensures.plan c.in-None.is listed);
  listed_reads = λ listed. absurd (not_listed _ _ _ c.next_plan.ensures.plan c.in-None.is listed);
  keeps_none = λ kept. absurd (not_kept _ _ _ _ c.next_plan.ensures.plan c.in-None.is kept);
  keeps = λ keep kept. absurd (not_kept _ _ _ _ c.next_plan.ensures.plan c.in-None.is kept);
  keeps_within = λ keep kept. absurd (not_kept _ _ _ _ c.next_plan.ensures.plan c.in-None.is kept);
  within = search rules;
  unlisted_files = λ _. at_err c.store.result (sym c.is_err.ensures.value ∙ c.if-is_err.true) c.store.ensures.err
      ∙ ap file_map (ap (λ v. v.items) c.next_plan.ensures.files);
  failed_writes = λ _. omega (arith, c.in-None.ensures.writes_same);
  ok_writes = tt;
  unlisted_reads = λ _. reads_same c.args.self.now.missing.items c.next_plan.new.self.missing.items c.args.self.now.reads_failed c.next_plan.new.self.reads_failed
      (ap (λ v. v.items) c.next_plan.ensures.missing) c.in-None.ensures.reads_same;
  reads_by_one = reads_by_one c.args.self.now.missing.items c.next_plan.new.self.missing.items c.args.self.now.reads_failed c.next_plan.new.self.reads_failed
      (ap (λ v. v.items) c.next_plan.ensures.missing) c.next_plan.ensures.reads_by_one;
  writes_by_one = λ _. omega (arith, c.in-None.ensures.writes_same);
}

pub returns-else-is_err : goal.returns-else-is_err
returns-else-is_err c = record {
  all = record {
    whole = subst (λ (files : List StoredFile). file_map c.store.new.files.items ≡ fin.insert (file_map files) c.args.name.now c.args.bytes.now)
        (ap (λ v. v.items) c.next_plan.ensures.files) (at_ok c.store.result (sym c.is_err.ensures.value ∙ c.if-is_err.false) c.store.ensures.ok);
    part = tt;
    reads = reads_later c.args.self.now.missing.items c.next_plan.new.self.missing.items c.args.self.now.reads_failed c.next_plan.new.self.reads_failed
        (ap (λ v. v.items) c.next_plan.ensures.missing) c.next_plan.ensures.reads;
    writes = λ _. c.next_plan.ensures.writes;
    failed = tt;
    calls = c.next_plan.ensures.made ∙ c.and-self.ensures;
  };
  calls = c.next_plan.ensures.calls;
  listed = c.next_plan.ensures.listed;
  rooms = subst (λ (files : List StoredFile). NoneFell (room_in files) (room_in c.store.new.files.items)) (ap (λ v. v.items) c.next_plan.ensures.files) c.store.ensures.rooms;
  listed_fails = λ listed. absurd (not_listed _ _ _ c.next_plan.ensures.plan c.in-None.is listed);
  listed_reads = λ listed. absurd (not_listed _ _ _ c.next_plan.ensures.plan c.in-None.is listed);
  keeps_none = λ kept. absurd (not_kept _ _ _ _ c.next_plan.ensures.plan c.in-None.is kept);
  keeps = λ keep kept. absurd (not_kept _ _ _ _ c.next_plan.ensures.plan c.in-None.is kept);
  keeps_within = λ keep kept. absurd (not_kept _ _ _ _ c.next_plan.ensures.plan c.in-None.is kept);
  within = λ _ _ _. refl;
  unlisted_files = λ _. tt;
  failed_writes = tt;
  ok_writes = λ _. c.in-None.ensures.writes_same;
  unlisted_reads = λ _. reads_same c.args.self.now.missing.items c.next_plan.new.self.missing.items c.args.self.now.reads_failed c.next_plan.new.self.reads_failed
      (ap (λ v. v.items) c.next_plan.ensures.missing) c.in-None.ensures.reads_same;
  reads_by_one = reads_by_one c.args.self.now.missing.items c.next_plan.new.self.missing.items c.args.self.now.reads_failed c.next_plan.new.self.reads_failed
      (ap (λ v. v.items) c.next_plan.ensures.missing) c.next_plan.ensures.reads_by_one;
  writes_by_one = λ _. c.next_plan.ensures.writes_by_one;
}
