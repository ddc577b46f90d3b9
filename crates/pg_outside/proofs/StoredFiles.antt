-- What a list of files holds by name, after a file is set or pushed.
use Rattle.std.proofs.Common.{◌≡◌, ℕ, zero, suc, ◌<◌, ◌≤◌, List, [], ◌∷◌, ◌++◌, Bool, true, false, cond, map, length, get_or, set, Option, Some, None, refl, ◌∙◌, sym, ap, arith}
use Rattle.std.specs.Prelude.{position, IfSome, IfNone, string_bytes, vec_capacity}
use Rattle.std.specs.Str.{bytes_eq}
use Rattle.std.specs.Ordering.{nat_cmp}
use Rattle.std.specs.Cmp.Lexicographic.{slice_cmp}
use Rattle.std.specs.FinMap as fin
use Rattle.std.proofs.lemmas.Cmp.{nat_list_cmp_total}
use Rattle.std.proofs.lemmas.Grind.{common_steps}
use Rattle.std.proofs.lemmas.List.Quantifiers.{position-Some}
use Rattle.std.proofs.lemmas.Map.Text.{is_eq-slice_cmp}
use Rattle.std.proofs.lemmas.Slice.Eq.{bytes_eq-Decides}
use Rattle.pg_outside.specs.Content.{FileMap}
use Rattle.pg_outside.specs.Inside.ToldFiles.{file_at}
use Rattle.pg_outside.specs.Inside.memory.StoredFile.{has_name, name_and_bytes, file_map, of_name, room_in, IsIndexOf, IsMissing}
use Rattle.pg_outside.specs.declared.memory.stored.StoredFile.{StoredFile}

-- the bytes of the first file of this name
abbrev pub look : List StoredFile → List ℕ → Option (List ℕ)
look files name = of_name (λ file. Some file.bytes.items) None files name

found_named : (files : List StoredFile) (name : List ℕ) → fin.find (slice_cmp nat_cmp) name (map name_and_bytes files) ≡ look files name
found_named [] name = refl
found_named (file ∷ files) name = grind (arith, common_steps, bytes_eq-Decides, is_eq-slice_cmp, found_named files name)

pub file_at-file_map : (files : List StoredFile) (name : List ℕ) → file_at (file_map files) name ≡ look files name
file_at-file_map files name = fin.get-from_entries nat_list_cmp_total (map name_and_bytes files) name ∙ found_named files name

module _ {A : Type 0} (view : StoredFile → A) (none : A) where
  -- the first file of a name
  pub of_name-at : (files : List StoredFile) (index : ℕ) (d : StoredFile) (name : List ℕ) → index < length files → has_name name (get_or files index d)
      ≡ true → ((k : ℕ) → k < index → has_name name (get_or files k d) ≡ false) → of_name view none files name ≡ view (get_or files index d)
  of_name-at [] index d name within found before = absurd (omega arith)
  of_name-at (file ∷ files) zero d name within found before = grind (arith, common_steps)
  of_name-at (file ∷ files) (suc index) d name within found before = grind
      (arith, common_steps, before 0 (omega arith), of_name-at files index d name (omega arith) found (λ k below. before (suc k) (omega arith)))

  -- the first file of a name is set anew
  pub of_name-set : (files : List StoredFile) (index : ℕ) (d file : StoredFile) (name q : List ℕ) → index < length files → has_name name (get_or files index d)
      ≡ true → ((k : ℕ) → k < index → has_name name (get_or files k d) ≡ false) → has_name name file ≡ true → of_name view none (set files index file) q
      ≡ cond (bytes_eq q name) (view file) (of_name view none files q)
  of_name-set [] index d file name q within found before same = absurd (omega arith)
  of_name-set (first ∷ files) zero d file name q within found before same = grind (arith, common_steps, bytes_eq-Decides)
  of_name-set (first ∷ files) (suc index) d file name q within found before same =
      grind (arith, common_steps, bytes_eq-Decides, before 0 (omega arith), of_name-set files index d file name q (omega arith) found (λ k below. before (suc k) (omega arith)) same)

  -- no file of a name is there
  pub of_name-none : (files : List StoredFile) (name : List ℕ) → position (has_name name) files ≡ None → of_name view none files name ≡ none
  of_name-none [] name missing = refl
  of_name-none (file ∷ files) name missing = grind (arith, common_steps, of_name-none files name)

  -- a file of a new name is pushed
  pub of_name-push : (files : List StoredFile) (file : StoredFile) (name q : List ℕ) → position (has_name name) files ≡ None → has_name name file ≡ true
      → of_name view none (files ++ file ∷ []) q ≡ cond (bytes_eq q name) (view file) (of_name view none files q)
  of_name-push [] file name q missing same = grind (arith, common_steps, bytes_eq-Decides)
  of_name-push (first ∷ files) file name q missing same = grind (arith, common_steps, bytes_eq-Decides, of_name-push files file name q)

-- two maps of files are the same where the first file of each name is
same_files : (files : List StoredFile) (map : FileMap) → ((q : List ℕ) → look files q ≡ file_at map q) → file_map files ≡ map
same_files files map is = fin.same_map nat_list_cmp_total (fin.slice_cmp-IsAntisymmetric fin.nat_cmp-IsAntisymmetric) _ _ (λ q. file_at-file_map files q ∙ is q)

file_at-insert : (files : List StoredFile) (name bytes q : List ℕ) → file_at (fin.insert (file_map files) name bytes) q ≡ cond (bytes_eq q name) (Some bytes) (look files q)
file_at-insert files name bytes q = fin.get-insert nat_list_cmp_total (file_map files) name bytes q ∙ grind (arith, is_eq-slice_cmp q name, file_at-file_map files q)

cond-same : (b : Bool) (x y : ℕ) → (b ≡ true → x ≡ y) → cond b x y ≡ y
cond-same true x y same = same refl
cond-same false x y same = refl

not_below : (b : Bool) (x y : ℕ) → (b ≡ true → y ≡ 0) → y ≤ cond b x y
not_below true x y none = let zero_there : y ≡ 0 = none refl in omega arith
not_below false x y none = omega arith

index_within : (files : List StoredFile) (name : List ℕ) (index : ℕ) → position (has_name name) files ≡ Some index → index < length files
index_within files name index at = grind (arith, common_steps)

is_index : (files : List StoredFile) (name : List ℕ) (index : ℕ) → position (has_name name) files ≡ Some index → IsIndexOf name files index
is_index files name index at =
    let first : (d : StoredFile) → (index < length files) × (has_name name (get_or files index d) ≡ true) × ((k : ℕ) → k < index → has_name name (get_or files k d) ≡ false) =
    λ d. position-Some (has_name name) files index d at in
    let renamed : (file : StoredFile) → string_bytes file.name ≡ string_bytes (get_or files index file).name → has_name name file ≡ true = λ file same. grind (arith, (first file).1) in
    record {
      within = index_within files name index at;
      there = λ file is. file_at-file_map files name ∙ of_name-at (λ f. Some f.bytes.items) None files index file name (first file).0 (first file).1 (first file).2
          ∙ ap (λ (f : StoredFile). Some f.bytes.items) (sym is);
      room = λ file is. of_name-at (λ f. vec_capacity f.bytes) 0 files index file name (first file).0 (first file).1 (first file).2 ∙ ap (λ (f : StoredFile). vec_capacity f.bytes) (sym is);
      set_map = λ file same. same_files _ _ (λ q. of_name-set (λ f. Some f.bytes.items) None files index file file name q (first file).0 (first file).1 (first file).2 (renamed file same)
          ∙ sym (file_at-insert files name file.bytes.items q));
      set_room = λ file same other. of_name-set (λ f. vec_capacity f.bytes) 0 files index file file name other (first file).0 (first file).1 (first file).2 (renamed file same);
      same_rooms = λ file same room other. of_name-set (λ f. vec_capacity f.bytes) 0 files index file file name other (first file).0 (first file).1 (first file).2 (renamed file same)
          ∙ cond-same (bytes_eq other name) _ _ (λ is. room ∙ sym (of_name-at (λ f. vec_capacity f.bytes) 0 files index file name (first file).0 (first file).1 (first file).2)
          ∙ ap (room_in files) (sym ((bytes_eq-Decides other name).0 is)));
    }

pub found_index : (files : List StoredFile) (name : List ℕ) (result : Option ℕ) → result ≡ position (has_name name) files → IfSome result (IsIndexOf name files)
found_index files name None is = tt
found_index files name (Some index) is = is_index files name index (sym is)

is_missing : (files : List StoredFile) (name : List ℕ) → position (has_name name) files ≡ None → IsMissing name files
is_missing files name at = record {
  missing = file_at-file_map files name ∙ of_name-none _ _ files name at;
  push_map = λ file same. same_files _ _ (λ q. of_name-push (λ f. Some f.bytes.items) None files file name q at ((bytes_eq-Decides _ _).1 same) ∙ sym (file_at-insert files name file.bytes.items q));
  push_room = λ file same other. of_name-push (λ f. vec_capacity f.bytes) 0 files file name other at ((bytes_eq-Decides _ _).1 same);
  rooms = λ file same other. rw (of_name-push (λ f. vec_capacity f.bytes) 0 files file name other at ((bytes_eq-Decides _ _).1 same))
      (not_below (bytes_eq other name) _ _ (λ is. ap (room_in files) ((bytes_eq-Decides other name).0 is) ∙ of_name-none (λ f. vec_capacity f.bytes) 0 files name at));
}

pub missing_index : (files : List StoredFile) (name : List ℕ) (result : Option ℕ) → result ≡ position (has_name name) files → IfNone result (IsMissing name files)
missing_index files name None is = is_missing files name (sym is)
missing_index files name (Some index) is = tt
