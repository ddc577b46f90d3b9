-- What each call of a disk in memory says.
use Rattle.std.proofs.Common.{◌≡◌, ◌≤◌, arith, inl, inr, ℕ, List, ◌∷◌, length, Bool, true, false, Option, Some, None, Vec, String, string_bytes, refl, sym, ap, subst, ◌∙◌}
use Rattle.std.specs.Option.{option_map, is_some}
use Rattle.std.specs.declared.alloc.Global.{Global}
use Rattle.pg_outside.specs.Faults.{Rose}
use Rattle.pg_outside.specs.Inside.disk.Disks as disk
use Rattle.pg_outside.specs.Inside.disk.Disks.{Disk, Node, ChangesDisk, HoldsNow, IsKindOf, IsFollowedBy, IsOpened, IsWritable, IsNameTaken, LeadsToNone, IsStat, ChangesOnlyFile, AppendsFront}
use Rattle.pg_outside.specs.Inside.disk.NewNames.{IsLinkedName}
use Rattle.pg_outside.specs.declared.disk.system.NameKind.TheVariants.{Missing, Link, OpenFile, File}
use Rattle.pg_outside.specs.declared.disk.system.FileId.{FileId}
use Rattle.pg_told_disk.specs.Inside.Changes.{number_in, mode_in, bytes_in, stored_in, node_with, lets_write, id_of, disk_in}
use Rattle.pg_told_disk.specs.Inside.LinkLists.{link_named, is_open_one, real_in, said_or}
use Rattle.pg_told_disk.specs.Inside.Memory.{told_where}
use Rattle.pg_told_disk.specs.Inside.laws.FollowedLinks.{not_link, said_same}
use Rattle.pg_told_disk.specs.declared.change.Change.{Change}
use Rattle.pg_told_disk.specs.declared.change.Change.TheVariants.{Made, GotMode, Wrote, Stored, Renamed, Removed, Refused, Stayed}
use Rattle.pg_told_disk.specs.declared.links.Link as linked
use Rattle.pg_told_disk.specs.Inside.laws.ChangeLaws.{id_in, id_none, id_same, of_node, after_made, after_wrote, after_stayed, after_part, after_removed, after_refused, after_renamed, after_got_mode, after_stored}
use Rattle.pg_told_disk.specs.Inside.laws.Nodes.{named_has}
use Rattle.std.proofs.lemmas.Bool.{false≢true}
use Rattle.pg_told_disk.proofs.Joined.{one_joined}
use Rattle.pg_told_disk.proofs.ToldBy.{steps, told_now}

-- a count that rose since it was the same, and one that did not fall since
pub rose_since : (a b c : ℕ) → b ≡ a → Rose b c → Rose a c
rose_since a b c same rose = subst (λ (n : ℕ). Rose n c) same rose

pub later_both : (a b c : ℕ) → a ≤ b → b ≤ c → a ≤ c
later_both a b c ab bc = omega arith

some_number : (m n : ℕ) → Some m ≡ Some n → m ≡ n
some_number m n e = cc

-- which file a name leads to, or none
leads_in : (links : List linked.Link) (log : List Change) (q : List ℕ) (n : ℕ) → number_in log (real_in links q) ≡ Some n → disk.id_at (disk_in links log) q ≡ Some (id_of n)
leads_in links log q n is = id_in links log q ∙ id_same (number_in log (real_in links q)) (Some n) is

none_in : (links : List linked.Link) (log : List Change) (q : List ℕ) → number_in log (real_in links q) ≡ None → disk.id_at (disk_in links log) q ≡ None
none_in links log q is = id_in links log q ∙ id_none (number_in log (real_in links q)) is

-- the number of a name that is unlinked link
stands : (links : List linked.Link) (log : List Change) (q : List ℕ) (o : Option ℕ) → is_some (link_named links q) ≡ false → number_in log q ≡ o → number_in log (real_in links q) ≡ o
stands links log q o unlinked is = ap (λ (r : List ℕ). number_in log r) (not_link links q unlinked) ∙ is

pub is_linked : (b : Bool) (links : List linked.Link) (log : List Change) (q : List ℕ) → is_some (link_named links q) ≡ true → is_open_one (link_named links q) ≡ false
    → HoldsNow (told_where b links log) (IsKindOf q Link)
is_linked b links log q is closed = told_now b links log (IsKindOf q Link) (is, closed)

-- a link to an open file is one
open_some : (o : Option linked.Link) → is_open_one o ≡ true → is_some o ≡ true
open_some None is = absurd (false≢true is)
open_some (Some link) is = refl

pub is_open_file : (b : Bool) (links : List linked.Link) (log : List Change) (q : List ℕ) → is_open_one (link_named links q) ≡ true
    → HoldsNow (told_where b links log) (IsKindOf q OpenFile)
is_open_file b links log q is = told_now b links log (IsKindOf q OpenFile) (open_some (link_named links q) is, is)

pub is_missing : (b : Bool) (links : List linked.Link) (log : List Change) (q : List ℕ) → is_some (link_named links q) ≡ false → number_in log q ≡ None
    → HoldsNow (told_where b links log) (IsKindOf q Missing)
is_missing b links log q unlinked none = told_now b links log (IsKindOf q Missing) (unlinked, none_in links log q (stands links log q None unlinked none))

pub is_file : (b : Bool) (links : List linked.Link) (log : List Change) (q : List ℕ) (n : ℕ) (id : FileId) → is_some (link_named links q) ≡ false → id
    ≡ id_of n → number_in log q ≡ Some n → HoldsNow (told_where b links log) (IsKindOf q (File id))
is_file b links log q n id unlinked named is = subst (λ (k : FileId). HoldsNow (told_where b links log) (IsKindOf q (File k))) (sym named)
    (told_now b links log (IsKindOf q (File (id_of n))) (unlinked, leads_in links log q n (stands links log q (Some n) unlinked is)))

followed_in : (links : List linked.Link) (log : List Change) (q text : List ℕ) (link : linked.Link) → link_named links q ≡ Some link
    → IsLinkedName q text (string_bytes link.said) → IsFollowedBy q text (disk_in links log)
followed_in links log q text link is says = λ joined is_joined.
    let one = one_joined q text joined (string_bytes link.said) is_joined says in (
      one ∙ sym (ap (λ (o : Option linked.Link). said_or o q) is),
      ap (λ (n : List ℕ). real_in links n) one ∙ said_same links q link is,
    )

pub is_followed : (b : Bool) (links : List linked.Link) (log : List Change) (q text : List ℕ) (link : linked.Link) → link_named links q ≡ Some link
    → IsLinkedName q text (string_bytes link.said) → HoldsNow (told_where b links log) (IsFollowedBy q text)
is_followed b links log q text link is says = told_now b links log (IsFollowedBy q text) (followed_in links log q text link is says)

pub leads_none : (b : Bool) (links : List linked.Link) (log : List Change) (q : List ℕ) → number_in log (real_in links q) ≡ None → HoldsNow (told_where b links log) (LeadsToNone q)
leads_none b links log q none = told_now b links log (LeadsToNone q) (none_in links log q none)

abbrev node_at : List Change → ℕ → ℕ → Node
node_at log n mode = node_with (bytes_in log n) (stored_in log n) mode

there_in : (links : List linked.Link) (log : List Change) (n mode : ℕ) → mode_in log n ≡ Some mode → (disk_in links log).files (id_of n) ≡ Some (node_at log n mode)
there_in links log n mode is = ap (λ (o : Option ℕ). option_map (node_at log n) o) is

pub opened : (b : Bool) (links : List linked.Link) (log : List Change) (q : List ℕ) (n : ℕ) → number_in log (real_in links q) ≡ Some n → HoldsNow (told_where b links log) (IsOpened q (id_of n))
opened b links log q n is =
    let has = named_has log (real_in links q) n is in
    told_now b links log (IsOpened q (id_of n)) (record { leads = leads_in links log q n is; node = node_at log n has.mode; there = there_in links log n has.mode has.there })

writable_in : (links : List linked.Link) (log : List Change) (n mode : ℕ) → mode_in log n ≡ Some mode → lets_write mode ≡ true → IsWritable (id_of n) (disk_in links log)
writable_in links log n mode is lets = λ node there.
    let parts = of_node log n node there in
    ap (λ (k : Node). k.is_writable) parts.2
    ∙ ap (λ (m : ℕ). lets_write m) (some_number parts.0 mode (sym parts.1 ∙ is)) ∙ lets

pub writable : (b : Bool) (links : List linked.Link) (log : List Change) (n mode : ℕ) → mode_in log n ≡ Some mode → lets_write mode ≡ true → HoldsNow (told_where b links log) (IsWritable (id_of n))
writable b links log n mode is lets = told_now b links log (IsWritable (id_of n)) (writable_in links log n mode is lets)

pub taken_by_link : (b : Bool) (links : List linked.Link) (log : List Change) (q : List ℕ) → is_some (link_named links q) ≡ true → HoldsNow (told_where b links log) (IsNameTaken q)
taken_by_link b links log q is = told_now b links log (IsNameTaken q) (inl is)

pub taken : (b : Bool) (links : List linked.Link) (log : List Change) (q : List ℕ) (n : ℕ) → is_some (link_named links q) ≡ false → number_in log q ≡ Some n
    → HoldsNow (told_where b links log) (IsNameTaken q)
taken b links log q n unlinked is = told_now b links log (IsNameTaken q) (inr (id_of n, leads_in links log q n (stands links log q (Some n) unlinked is)))

pub stat : (b : Bool) (links : List linked.Link) (log : List Change) (n mode : ℕ) (id : FileId) → id ≡ id_of n → mode_in log n ≡ Some mode
    → HoldsNow (told_where b links log) (IsStat (id_of n) (record { id = id; is_regular = true; mode = mode }))
stat b links log n mode id named modes = told_now b links log (IsStat (id_of n) (record { id = id; is_regular = true; mode = mode }))
    (record { is = named; node = node_at log n mode; there = there_in links log n mode modes; kind = refl; mode = refl })

pub made_step : (b b2 : Bool) (links links2 : List linked.Link) (log log2 : List Change) (own : String Global) (name : List ℕ) (n : ℕ) → (b2 ≡ true → b ≡ true)
    → links2 ≡ links → (b2 ≡ true → log2 ≡ Made own ∷ log) → string_bytes own ≡ name → n ≡ length log → is_some (link_named links name) ≡ false
    → number_in log name ≡ None → ChangesDisk (told_where b links log) (told_where b2 links2 log2) (disk.MakesFile name (id_of n))
made_step b b2 links links2 log log2 own name n told same is named counted unlinked none =
    subst (λ (q : List ℕ). ChangesDisk (told_where b links log) (told_where b2 links2 log2) (disk.MakesFile q (id_of n))) named
    (subst (λ (k : ℕ). ChangesDisk (told_where b links log) (told_where b2 links2 log2) (disk.MakesFile (string_bytes own) (id_of k))) (sym counted)
    (steps b b2 links links2 log log2 (Made own) (disk.MakesFile (string_bytes own) (id_of (length log))) told same is
    (after_made links log own (ap (λ (q : List ℕ). is_some (link_named links q)) named ∙ unlinked) (ap (λ (q : List ℕ). number_in log q) named ∙ none))))

pub removed_step : (b b2 : Bool) (links links2 : List linked.Link) (log log2 : List Change) (own : String Global) (name : List ℕ) → (b2 ≡ true → b ≡ true)
    → links2 ≡ links → (b2 ≡ true → log2 ≡ Removed own ∷ log) → string_bytes own ≡ name → ChangesDisk (told_where b links log) (told_where b2 links2 log2) (disk.RemovesUnlessLink name)
removed_step b b2 links links2 log log2 own name told same is named =
    subst (λ (q : List ℕ). ChangesDisk (told_where b links log) (told_where b2 links2 log2) (disk.RemovesUnlessLink q)) named
    (steps b b2 links links2 log log2 (Removed own) (disk.RemovesUnlessLink (string_bytes own)) told same is (after_removed links log own))

pub renamed_step : (b b2 : Bool) (links links2 : List linked.Link) (log log2 : List Change) (from to : String Global) (p q : List ℕ) → (b2 ≡ true → b ≡ true)
    → links2 ≡ links → (b2 ≡ true → log2 ≡ Renamed from to ∷ log) → string_bytes from ≡ p → string_bytes to ≡ q
    → ChangesDisk (told_where b links log) (told_where b2 links2 log2) (disk.RenamesUnlessLink p q)
renamed_step b b2 links links2 log log2 from to p q told same is one other =
    subst (λ (r : List ℕ). ChangesDisk (told_where b links log) (told_where b2 links2 log2) (disk.RenamesUnlessLink p r)) other
    (subst (λ (r : List ℕ). ChangesDisk (told_where b links log) (told_where b2 links2 log2) (disk.RenamesUnlessLink r (string_bytes to))) one
    (steps b b2 links links2 log log2 (Renamed from to) (disk.RenamesUnlessLink (string_bytes from) (string_bytes to)) told same is (after_renamed links log from to)))

pub stayed_step : (b b2 : Bool) (links links2 : List linked.Link) (log log2 : List Change) (n : FileId) → (b2 ≡ true → b ≡ true) → links2 ≡ links
    → (b2 ≡ true → log2 ≡ Stayed ∷ log) → ChangesDisk (told_where b links log) (told_where b2 links2 log2) (ChangesOnlyFile n)
stayed_step b b2 links links2 log log2 n told same is = steps b b2 links links2 log log2 Stayed (ChangesOnlyFile n) told same is (after_stayed links log n)

pub wrote_step : (b b2 : Bool) (links links2 : List linked.Link) (log log2 : List Change) (n : ℕ) (held : Vec ℕ Global) (bytes : List ℕ) → (b2 ≡ true → b ≡ true)
    → links2 ≡ links → (b2 ≡ true → log2 ≡ Wrote n held ∷ log) → held.items ≡ bytes → ChangesDisk (told_where b links log) (told_where b2 links2 log2) (disk.AppendsBytes (id_of n) bytes)
wrote_step b b2 links links2 log log2 n held bytes told same is whole =
    subst (λ (l : List ℕ). ChangesDisk (told_where b links log) (told_where b2 links2 log2) (disk.AppendsBytes (id_of n) l)) whole
    (steps b b2 links links2 log log2 (Wrote n held) (disk.AppendsBytes (id_of n) held.items) told same is (after_wrote links log n held))

pub part_step : (b b2 : Bool) (links links2 : List linked.Link) (log log2 : List Change) (n : FileId) (bytes : List ℕ) → (b2 ≡ true → b ≡ true) → links2
    ≡ links → (b2 ≡ true → log2 ≡ Stayed ∷ log) → ChangesDisk (told_where b links log) (told_where b2 links2 log2) (AppendsFront n bytes)
part_step b b2 links links2 log log2 n bytes told same is = steps b b2 links links2 log log2 Stayed (AppendsFront n bytes) told same is (after_part links log n bytes)

pub mode_step : (b b2 : Bool) (links links2 : List linked.Link) (log log2 : List Change) (n mode : ℕ) → (b2 ≡ true → b ≡ true) → links2 ≡ links
    → (b2 ≡ true → log2 ≡ GotMode n mode ∷ log) → ChangesDisk (told_where b links log) (told_where b2 links2 log2) (disk.SetsMode (id_of n) mode)
mode_step b b2 links links2 log log2 n mode told same is = steps b b2 links links2 log log2 (GotMode n mode) (disk.SetsMode (id_of n) mode) told same is (after_got_mode links log n mode)

pub stored_step : (b b2 : Bool) (links links2 : List linked.Link) (log log2 : List Change) (n : ℕ) → (b2 ≡ true → b ≡ true) → links2 ≡ links
    → (b2 ≡ true → log2 ≡ Stored n ∷ log) → ChangesDisk (told_where b links log) (told_where b2 links2 log2) (disk.SyncsFile (id_of n))
stored_step b b2 links links2 log log2 n told same is = steps b b2 links links2 log log2 (Stored n) (disk.SyncsFile (id_of n)) told same is (after_stored links log n)

pub refused_step : (b b2 : Bool) (links links2 : List linked.Link) (log log2 : List Change) (own : String Global) (name : List ℕ) → (b2 ≡ true → b ≡ true)
    → links2 ≡ links → (b2 ≡ true → log2 ≡ Refused own ∷ log) → string_bytes own ≡ name → ChangesDisk (told_where b links log) (told_where b2 links2 log2) (disk.RefusesRemoval name)
refused_step b b2 links links2 log log2 own name told same is named =
    subst (λ (q : List ℕ). ChangesDisk (told_where b links log) (told_where b2 links2 log2) (disk.RefusesRemoval q)) named
    (steps b b2 links links2 log log2 (Refused own) (disk.RefusesRemoval (string_bytes own)) told same is (after_refused links log own))
