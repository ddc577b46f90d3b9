-- What reads and writes by name make of the files that are told.
use Rattle.std.proofs.Common.{◌≡◌, ◌≢◌, ◌⊎◌, inl, inr, ⊎_elim, ℕ, List, [], ◌∷◌, map, Bool, true, false, cond, ◌&&◌, Option, Some, None, IfSome, Decides, refl, sym, ap, subst, ◌∙◌, arith}
use Rattle.std.specs.Option.{option_map}
use Rattle.std.specs.Str.{bytes_eq}
use Rattle.std.specs.Ordering.{nat_cmp}
use Rattle.std.specs.Cmp.Lexicographic.{slice_cmp}
use Rattle.std.specs.FinMap as fin
use Rattle.std.proofs.lemmas.Bool.{false≢true}
use Rattle.std.proofs.lemmas.Cmp.{nat_list_cmp_total}
use Rattle.std.proofs.lemmas.Grind.{common_steps}
use Rattle.std.proofs.lemmas.Map.Text.{is_eq-slice_cmp}
use Rattle.std.proofs.lemmas.Slice.Eq.{bytes_eq-Decides}
use Rattle.pg_outside.specs.Content.{FileMap}
use Rattle.pg_outside.specs.Inside.ToldFiles.{KeepsHeld, file_at, IsFile, IsFileCut, IsTooLong, WasWritten, WasPartWritten}
use Rattle.pg_outside.specs.Inside.disk.Disks.{Node, Disk, DiskHistory, Links, KeepsDisk, HoldsNow, HasNoLinks, KnowsPlain, id_at, node_at, node_of}
use Rattle.pg_outside.specs.Inside.disk.Moments.{RunsCalls, IsWritten, IsSame, HasRest}
use Rattle.pg_outside.specs.Inside.disk.Writes.{IsPlain, IsContent, IsContentCut, AfterWrite, AfterFailure, mode_at}
use Rattle.pg_outside.specs.Inside.disk.WhatDiskShows.{bytes_of, disk_map, has_none, tells_files, held_of}
use Rattle.pg_outside.specs.declared.disk.system.FileId.{FileId}
use Rattle.pg_outside.proofs.WhereTold.{keeps_same}

find_map : (g : FileId → List ℕ) (es : List (List ℕ × FileId)) (q : List ℕ) → fin.find (slice_cmp nat_cmp) q (map (λ e. (e.0, g e.1)) es) ≡ option_map g (fin.find (slice_cmp nat_cmp) q es)
find_map g [] q = refl
find_map g (e ∷ es) q = grind (arith, common_steps, find_map g es q)

get_map : (d : Disk) (q : List ℕ) → fin.get (disk_map d) q ≡ option_map (λ n. bytes_of (d.files n)) (fin.get d.names q)
get_map d q = fin.get-from_entries nat_list_cmp_total (map (λ e. (e.0, bytes_of (d.files e.1))) (fin.entries d.names)) q
    ∙ find_map (λ n. bytes_of (d.files n)) (fin.entries d.names) q
    ∙ ap (λ (o : Option FileId). option_map (λ n. bytes_of (d.files n)) o) (sym (fin.get-entries d.names q))

-- the bytes of a name are those of the file that it leads to
pub held_node : (d : Disk) (q : List ℕ) → HasNoLinks d → fin.get (disk_map d) q ≡ option_map (λ node. node.bytes) (node_at d q)
held_node d q none = get_map d q ∙ ap (λ (r : List ℕ). option_map (λ n. bytes_of (d.files n)) (fin.get d.names r)) (sym (none.real q)) ∙ by_id (id_at d q) refl
  where
    by_node : (o : Option Node) (node : Node) → o ≡ Some node → Some (bytes_of o) ≡ option_map (λ node. node.bytes) o
    by_node o node is = ap (λ (p : Option Node). Some (bytes_of p)) is ∙ sym (ap (λ (p : Option Node). option_map (λ node. node.bytes) p) is)

    by_id : (k : Option FileId) → id_at d q ≡ k → option_map (λ n. bytes_of (d.files n)) k ≡ option_map (λ node. node.bytes) (node_of k d.files)
    by_id None is = refl
    by_id (Some n) is = let t = none.there q n is in by_node (d.files n) t.0 t.1

plain_name : (d : Disk) (q : List ℕ) → HasNoLinks d → IsPlain q d
plain_name d q none = by_id (id_at d q) refl
  where
    by_id : (k : Option FileId) → id_at d q ≡ k → IfSome (node_of k d.files) (λ node. node.is_regular ≡ true)
    by_id None is = tt
    by_id (Some n) is = let t = none.there q n is in subst (λ (o : Option Node). IfSome o (λ node. node.is_regular ≡ true)) (sym t.1) t.2

same_maps : (a b : FileMap) → ((q : List ℕ) → fin.get a q ≡ fin.get b q) → a ≡ b
same_maps a b is = fin.same_map nat_list_cmp_total (fin.slice_cmp-IsAntisymmetric fin.nat_cmp-IsAntisymmetric) a b is

apart_or_one : (p q : List ℕ) → (p ≡ q) ⊎ (p ≢ q)
apart_or_one p q = by_test (bytes_eq p q) (bytes_eq-Decides p q)
  where
    by_test : (r : Bool) → Decides r (p ≡ q) → (p ≡ q) ⊎ (p ≢ q)
    by_test true d = inl (d.0 refl)
    by_test false d = inr (λ e. absurd (false≢true (d.1 e)))

get_insert : (m : FileMap) (name bytes q : List ℕ) → fin.get (fin.insert m name bytes) q ≡ cond (bytes_eq q name) (Some bytes) (fin.get m q)
get_insert m name bytes q = fin.get-insert nat_list_cmp_total m name bytes q ∙ grind (arith, is_eq-slice_cmp q name)

inserted : (m : FileMap) (name bytes q : List ℕ) → q ≡ name → fin.get (fin.insert m name bytes) q ≡ Some bytes
inserted m name bytes q is = get_insert m name bytes q ∙ ap (λ (b : Bool). cond b (Some bytes) (fin.get m q)) ((bytes_eq-Decides q name).1 is)

not_inserted : (m : FileMap) (name bytes q : List ℕ) → q ≢ name → fin.get (fin.insert m name bytes) q ≡ fin.get m q
not_inserted m name bytes q apart = get_insert m name bytes q ∙ by_test (bytes_eq q name) (bytes_eq-Decides q name)
  where
    by_test : (r : Bool) → Decides r (q ≡ name) → cond r (Some bytes) (fin.get m q) ≡ fin.get m q
    by_test true d = absurd (apart (d.0 refl))
    by_test false d = refl

one_real : (d : Disk) (p q : List ℕ) → HasNoLinks d → d.links.real p ≡ d.links.real q → p ≡ q
one_real d p q none one = sym (none.real p) ∙ one ∙ none.real q

written_map : (name bytes : List ℕ) (mode : Option ℕ) (n : FileId) (a b : Disk) → HasNoLinks a → HasNoLinks b → IsWritten name bytes mode n a b → disk_map b ≡ fin.insert (disk_map a) name bytes
written_map name bytes mode n a b no_a no_b w = same_maps (disk_map b) (fin.insert (disk_map a) name bytes)
    (λ q. held_node b q no_b ∙ ⊎_elim
    (λ (is : q ≡ name). ap (λ (r : List ℕ). option_map (λ node. node.bytes) (node_at b r)) is ∙ ap (λ (o : Option Node). option_map (λ node. node.bytes) o) w.whole.there
    ∙ ap (λ (l : List ℕ). Some l) w.whole.bytes ∙ sym (inserted (disk_map a) name bytes q is))
    (λ apart. ap (λ (o : Option Node). option_map (λ node. node.bytes) o) (w.others q (λ one. apart (one_real a q name no_a one))).1 ∙ sym (held_node a q no_a)
    ∙ sym (not_inserted (disk_map a) name bytes q apart))
    (apart_or_one q name))

same_map_of : (a b : Disk) → HasNoLinks a → HasNoLinks b → IsSame a b → disk_map b ≡ disk_map a
same_map_of a b no_a no_b same = same_maps (disk_map b) (disk_map a) (λ q. held_node b q no_b ∙ ap (λ (o : Option Node). option_map (λ node. node.bytes) o) (same.names q).1 ∙ sym (held_node a q no_a))

shown_plain : (b c : Bool) → (b && c) ≡ true → b ≡ true
shown_plain true c e = refl
shown_plain false c e = e

links_plain : (a b : Disk) → b.links ≡ a.links → tells_files b ≡ true → (b.links.is_plain ≡ true) × (a.links.is_plain ≡ true)
links_plain a b links shown =
    let plain = shown_plain b.links.is_plain (has_none b.refused) shown in
    (plain, sym (ap (λ (l : Links). l.is_plain) links) ∙ plain)

shown_same : (a b : Disk) → b.links ≡ a.links → b.refused ≡ a.refused → tells_files b ≡ tells_files a
shown_same a b links refused = ap (λ (l : Links). l.is_plain && has_none b.refused) links ∙ ap (λ (names : List (List ℕ)). a.links.is_plain && has_none names) refused

-- where the later is shown
was_written : (sa sb : Bool) (name bytes : List ℕ) (a b : FileMap) → (sb ≡ true → (sa ≡ true) × (b ≡ fin.insert a name bytes)) → WasWritten (cond sa (Some a) None) (cond sb (Some b) None) name bytes
was_written sa false name bytes a b is = tt
was_written true true name bytes a b is = let i = is refl in i.1
was_written false true name bytes a b is = let i = is refl in absurd (false≢true i.0)

was_part : (sa sb : Bool) (name bytes : List ℕ) (a b : FileMap) → (sb ≡ true → (sa ≡ true) × (b ≡ a)) → WasPartWritten (cond sa (Some a) None) (cond sb (Some b) None) name bytes
was_part sa false name bytes a b is = tt
was_part true true name bytes a b is = let i = is refl in inl i.1
was_part false true name bytes a b is = let i = is refl in absurd (false≢true i.0)

not_shown : (d : Disk) (name : List ℕ) (names : List (List ℕ)) → d.refused ≡ name ∷ names → tells_files d ≡ false
not_shown d name names is = ap (λ (l : List (List ℕ)). d.links.is_plain && has_none l) is ∙ and_false d.links.is_plain
  where
    and_false : (b : Bool) → (b && false) ≡ false
    and_false true = refl
    and_false false = refl

written_shown : (name bytes : List ℕ) (before kept : List FileId) (a b : Disk) → KnowsPlain a → KnowsPlain b → AfterWrite name bytes before kept a b
    → tells_files b ≡ true → (tells_files a ≡ true) × (disk_map b ≡ fin.insert (disk_map a) name bytes)
written_shown name bytes before kept a b ka kb after shown =
    let plain = links_plain a b after.links shown in
    let no_a = ka plain.1 in
    let w = after.plain (plain_name a name no_a) in
    (sym (shown_same a b after.links w.written.refused) ∙ shown, written_map name bytes (mode_at name a) w.id a b no_a (kb plain.0) w.written)

pub written_held : (P : Disk → Disk → Type 0) (name bytes : List ℕ) (before kept : List FileId) (a b : Option DiskHistory) → HoldsNow a KnowsPlain → HoldsNow b KnowsPlain
    → RunsCalls a b P (AfterWrite name bytes before kept) → WasWritten (held_of a) (held_of b) name bytes
written_held P name bytes before kept a None ka kb run = tt
written_held P name bytes before kept None (Some b) ka kb run = absurd run
written_held P name bytes before kept (Some a) (Some b) ka kb run = was_written (tells_files a.now) (tells_files b.now) name bytes (disk_map a.now) (disk_map b.now)
    (written_shown name bytes before kept a.now b.now ka kb run.end)

failed_shown : (name bytes : List ℕ) (a b : Disk) → KnowsPlain a → KnowsPlain b → AfterFailure name bytes a b → tells_files b ≡ true → (tells_files a ≡ true) × (disk_map b ≡ disk_map a)
failed_shown name bytes a b ka kb after shown =
    let plain = links_plain a b after.links shown in
    let no_a = ka plain.1 in
    ⊎_elim
    (λ (same : IsSame a b). (sym (shown_same a b same.links same.refused) ∙ shown, same_map_of a b no_a (kb plain.0) same))
    (λ (rest : HasRest name a b). absurd (false≢true (sym (not_shown b rest.own a.refused rest.refused) ∙ shown)))
    (after.plain (plain_name a name no_a))

pub failed_held : (P : Disk → Disk → Type 0) (name bytes : List ℕ) (a b : Option DiskHistory) → HoldsNow a KnowsPlain → HoldsNow b KnowsPlain → RunsCalls a b P (AfterFailure name bytes)
    → WasPartWritten (held_of a) (held_of b) name bytes
failed_held P name bytes a None ka kb run = tt
failed_held P name bytes None (Some b) ka kb run = absurd run
failed_held P name bytes (Some a) (Some b) ka kb run = was_part (tells_files a.now) (tells_files b.now) name bytes (disk_map a.now) (disk_map b.now) (failed_shown name bytes a.now b.now ka kb run.end)

pub keeps_held : (a b : Option DiskHistory) → KeepsDisk a b → KeepsHeld (held_of a) (held_of b)
keeps_held a None ab = tt
keeps_held a (Some b) ab = subst (λ (t : Option DiskHistory). KeepsHeld (held_of t) (held_of (Some b))) (sym ab) (keeps_same (held_of (Some b)))

file_where : (s : Bool) (m : FileMap) (name bytes : List ℕ) → (s ≡ true → file_at m name ≡ Some bytes) → IsFile (cond s (Some m) None) name bytes
file_where true m name bytes is = is refl
file_where false m name bytes is = tt

pub read_held : (name bytes : List ℕ) (a : Option DiskHistory) → HoldsNow a KnowsPlain → HoldsNow a (IsContent name bytes) → IsFile (held_of a) name bytes
read_held name bytes None ka content = tt
read_held name bytes (Some a) ka content = file_where (tells_files a.now) (disk_map a.now) name bytes (λ shown.
    held_node a.now name (ka (shown_plain a.now.links.is_plain (has_none a.now.refused) shown)) ∙ ap (λ (o : Option Node). option_map (λ node. node.bytes) o) content.there
    ∙ ap (λ (l : List ℕ). Some l) (sym content.all))

cut_where : (s : Bool) (m : FileMap) (name : List ℕ) (limit : ℕ) (front : List ℕ) → (s ≡ true → IsTooLong (file_at m name) limit front) → IsFileCut (cond s (Some m) None) name limit front
cut_where true m name limit front is = is refl
cut_where false m name limit front is = tt

pub cut_held : (name : List ℕ) (limit : ℕ) (front : List ℕ) (a : Option DiskHistory) → HoldsNow a KnowsPlain → HoldsNow a (IsContentCut name limit front) → IsFileCut (held_of a) name limit front
cut_held name limit front None ka content = tt
cut_held name limit front (Some a) ka content = cut_where (tells_files a.now) (disk_map a.now) name limit front (λ shown.
    subst (λ (o : Option (List ℕ)). IsTooLong o limit front)
    (sym (held_node a.now name (ka (shown_plain a.now.links.is_plain (has_none a.now.refused) shown)) ∙ ap (λ (o : Option Node). option_map (λ node. node.bytes) o) content.there))
    (content.longer, content.front))
