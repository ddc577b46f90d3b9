use Rattle.std.proofs.Common.{◌≡◌, ◌∙◌, ◌≤◌, ◌∷◌, [], ◌++◌, ℕ, List, length, get_or, max, string_bytes, refl, sym, ap, subst, arith, rules}
use Rattle.std.specs.Prelude.{vec_capacity}
use Rattle.std.specs.FinMap as fin
use Rattle.std.proofs.lemmas.Grind.{common_steps}
use Rattle.std.proofs.lemmas.List.{get_or_read}
use Rattle.std.proofs.lemmas.Result.{on_err_weaker, on_ok_weaker}
use Rattle.std.proofs.lemmas.Slice.Eq.{bytes_eq-Decides}
use Rattle.pg_outside.specs.Inside.memory.StoredFile.{IsIndexOf, IsMissing, file_map, room_in}
use Rattle.pg_outside.specs.declared.memory.stored.StoredFile.{StoredFile}
use Rattle.pg_outside.proofs.Results.{on_err, no_value}
use Rattle.pg_outside.proofs.memory.stored.store.Goals as goal

pub returns-in-Some : goal.returns-in-Some
returns-in-Some c =
    let files = c.args.files.now.items in
    let name = c.args.name.now in
    let found : IsIndexOf name files c.in-Some.index = subst (λ (l : List StoredFile). IsIndexOf name l c.in-Some.index) c.deref.ensures.value c.in-Some.ensures.found in
    let file : StoredFile = record { name = c.index_mut.result.now.name; bytes = c.replace.new.to } in
    let there : c.index_mut.result.now ≡ get_or files c.in-Some.index file = get_or_read files _ _ found.within c.index_mut.ensures.value file in
    let named = ap (λ (f : StoredFile). string_bytes f.name) there in
    record {
      ok = on_ok_weaker c.replace.result (λ items. found.set_map file named ∙ ap (λ (l : List ℕ). fin.insert (file_map files) name l) items) c.replace.ensures.ok;
      err = on_err_weaker c.replace.result (λ items. grind (arith, common_steps)) c.replace.ensures.err;
      room = on_ok_weaker c.replace.result (λ room. rw (found.set_room file named name, (bytes_eq-Decides name name).1 refl) room) c.replace.ensures.room;
      rooms = λ other. grind (arith, common_steps);
      err_rooms = on_err_weaker c.replace.result (λ room. found.same_rooms file named (room ∙ ap (λ (f : StoredFile). vec_capacity f.bytes) there)) c.replace.ensures.err_room;
      succeeds = λ _ within. c.replace.ensures.succeeds (subst (λ (n : ℕ). max c.args.room (length c.args.bytes.now) ≤ n) (found.room c.index_mut.result.now c.index_mut.ensures.value) within);
    }

pub returns-in_ok-push-in-None : goal.returns-in_ok-push-in-None
returns-in_ok-push-in-None c =
    let files = c.args.files.now.items in
    let name = c.args.name.now in
    let file = c.in_ok-new_file-in-None.field-0 in
    let named = c.in_ok-new_file-in-None.ensures.name in
    let items : c.push.new.self.items ≡ files ++ file ∷ [] = c.in_ok-push-in-None.ensures.items in
    let missing : IsMissing name files = subst (λ (l : List StoredFile). IsMissing name l) c.deref.ensures.value c.in-None.ensures.missing in
    record {
      ok = ap file_map items ∙ missing.push_map file named ∙ ap (λ (l : List ℕ). fin.insert (file_map files) name l) c.in_ok-new_file-in-None.ensures.bytes;
      err = tt;
      room = subst (λ (l : List StoredFile). c.args.room ≤ room_in l name) (sym items)
          (rw (missing.push_room file named name, (bytes_eq-Decides name name).1 refl) c.in_ok-new_file-in-None.ensures.room);
      rooms = λ other. subst (λ (l : List StoredFile). room_in files other ≤ room_in l other) (sym items) (missing.rooms file named other);
      err_rooms = tt;
      succeeds = λ _ _. refl;
    }

pub returns-in_err-new_file-in-None : goal.returns-in_err-new_file-in-None
returns-in_err-new_file-in-None c = record {
  ok = no_value _ c.from_residual.result c.from_residual.ensures.0;
  err = on_err c.from_residual.result refl;
  room = no_value _ c.from_residual.result c.from_residual.ensures.0;
  rooms = λ other. omega arith;
  err_rooms = on_err c.from_residual.result (λ other. refl);
  succeeds = search rules;
}

pub returns-in_err-push-in-None : goal.returns-in_err-push-in-None
returns-in_err-push-in-None c = record {
  ok = no_value _ c.from_residual-in_err-push-in-None.result c.from_residual-in_err-push-in-None.ensures.0;
  err = search rules;
  room = no_value _ c.from_residual-in_err-push-in-None.result c.from_residual-in_err-push-in-None.ensures.0;
  rooms = search rules;
  err_rooms = search rules;
  succeeds = search rules;
}
