-- Each change does to the disk what the call that it stands for says.
use Rattle.std.proofs.Common.{◌≡◌, ◌≢◌, ⊎_elim, ℕ, suc, ◌+◌, ◌<◌, List, [], ◌∷◌, ◌++◌, length, Bool, true, false, cond, nat_eq, Option, Some, None, String, Vec, string_bytes, refl, sym, ap, ◌∙◌, arith, eq-eqb, append-nil}
use Rattle.std.specs.Option.{option_map, is_some}
use Rattle.std.specs.Str.{bytes_eq}
use Rattle.std.specs.FinMap as fin
use Rattle.std.specs.declared.alloc.Global.{Global}
use Rattle.std.proofs.lemmas.Cmp.{nat_list_cmp_total}
use Rattle.std.proofs.lemmas.Bool.Decides.{eqb_tells}
use Rattle.std.proofs.lemmas.Map.Text.{is_eq-slice_cmp}
use Rattle.pg_outside.specs.Inside.disk.Disks as disk
use Rattle.pg_outside.specs.Inside.disk.Disks.{Node, Disk, NameMap, SetsFile}
use Rattle.pg_outside.specs.declared.disk.system.FileId.{FileId}
use Rattle.pg_told_disk.specs.Inside.laws.Cases.{eq_yes, eq_no, number_no, cond_yes, cond_no, none_some, some_same, of_cond}
use Rattle.pg_told_disk.specs.Inside.Changes.{number_in, names_in, mode_in, bytes_in, stored_in, node_in, node_with, file_in, id_of, with_name, disk_in}
use Rattle.pg_told_disk.specs.Inside.laws.FollowedLinks.{not_link}
use Rattle.pg_told_disk.specs.Inside.LinkLists.{link_named, real_in}
use Rattle.pg_told_disk.specs.declared.change.Change.{Change}
use Rattle.pg_told_disk.specs.declared.change.Change.TheVariants.{Made, Shared, GotMode, Wrote, Stored, Renamed, Removed, Refused, Stayed}
use Rattle.pg_told_disk.specs.declared.links.Link.{Link}

-- a name under which a file was put leads to it; any other leads to what it did before
get_put : (m : NameMap) (k q : List ℕ) (v : FileId)
    → fin.get (fin.insert m k v) q ≡ cond (bytes_eq q k) (Some v) (fin.get m q)
get_put m k q v = fin.get-insert nat_list_cmp_total m k v q ∙ grind (arith, is_eq-slice_cmp q k)

-- a name that was taken away leads to nothing; any other leads to what it did before
get_cut : (m : NameMap) (k q : List ℕ) → fin.get (fin.remove m k) q
    ≡ cond (bytes_eq q k) None (fin.get m q)
get_cut m k q = fin.get-remove nat_list_cmp_total m k q ∙ grind (arith, is_eq-slice_cmp q k)

-- a name that was given a file or none leads to that; any other leads to what it did before
get_given : (o : Option ℕ) (m : NameMap) (to q : List ℕ)
    → fin.get (with_name o m to) q ≡ cond (bytes_eq q to) (option_map id_of o) (fin.get m q)
get_given None m to q = get_cut m to q
get_given (Some n) m to q = get_put m to q (id_of n)

-- to choose between two numbers is to choose between their files
map_cond : (b : Bool) (x y : Option ℕ) → cond b (option_map id_of x) (option_map id_of y)
    ≡ option_map id_of (cond b x y)
map_cond true x y = refl
map_cond false x y = refl

-- an option that holds a file is not empty
none_id : (id : FileId) → None ≡ Some id → ⊥
none_id id e = cc

-- two files are equal where the options that hold them are
some_id : (one other : FileId) → Some one ≡ Some other → one ≡ other
some_id one other e = cc

-- the number of a file that a name leads to
pub of_ids : (o : Option ℕ) (id : FileId) → option_map id_of o ≡ Some id
    → (n : ℕ) × (o ≡ Some n) × (id ≡ id_of n)
of_ids None id e = absurd (none_id id e)
of_ids (Some n) id e = (n, refl, sym (some_id (id_of n) id e))

-- a number that leads to the file of n is n
pub of_id : (o : Option ℕ) (n : ℕ) → option_map id_of o ≡ Some (id_of n) → o ≡ Some n
of_id o n e =
    let f = of_ids o (id_of n) e in
    f.1 ∙ ap (λ (id : FileId). Some id.inode) (sym f.2)

-- the map of the names says what the changes say
pub get_names : (log : List Change) (q : List ℕ)
    → fin.get (names_in log) q ≡ option_map id_of (number_in log q)
get_names [] q = fin.get-empty _ q
get_names (Made own ∷ older) q = get_put (names_in older)
    (string_bytes own) q (id_of (length older)) ∙ ap
    (λ (o : Option FileId). cond (bytes_eq q (string_bytes own)) (Some (id_of (length older))) o)
    (get_names older q)
    ∙ map_cond (bytes_eq q (string_bytes own)) (Some (length older)) (number_in older q)
get_names (Renamed from to ∷ older) q =
    get_given (number_in older (string_bytes from))
    (fin.remove (names_in older) (string_bytes from)) (string_bytes to) q
    ∙ ap (λ (o : Option FileId). cond (bytes_eq q (string_bytes to))
    (option_map id_of (number_in older (string_bytes from))) o)
    (get_cut (names_in older) (string_bytes from) q
    ∙ ap (λ (o : Option FileId). cond (bytes_eq q (string_bytes from)) None o)
    (get_names older q) ∙ map_cond (bytes_eq q (string_bytes from)) None (number_in older q))
    ∙ map_cond (bytes_eq q (string_bytes to)) (number_in older (string_bytes from))
    (cond (bytes_eq q (string_bytes from)) None (number_in older q))
get_names (Shared own old ∷ older) q =
    get_given (number_in older (string_bytes old)) (names_in older) (string_bytes own) q
    ∙ ap (λ (o : Option FileId). cond (bytes_eq q (string_bytes own))
    (option_map id_of (number_in older (string_bytes old))) o) (get_names older q)
    ∙ map_cond (bytes_eq q (string_bytes own)) (number_in older (string_bytes old))
    (number_in older q)
get_names (Removed own ∷ older) q = get_cut (names_in older) (string_bytes own) q
    ∙ ap (λ (o : Option FileId). cond (bytes_eq q (string_bytes own)) None o) (get_names older q)
    ∙ map_cond (bytes_eq q (string_bytes own)) None (number_in older q)
get_names (_ ∷ older) q = get_names older q

-- a chosen number is at most k, where it is k or was at most k before
below_of_some : (b : Bool) (k n : ℕ) (o : Option ℕ)
    → cond b (Some k) o ≡ Some n → (o ≡ Some n → n < k + 1) → n < k + 1
below_of_some true k n o is older = let same : k ≡ n = some_same k n is in omega arith
below_of_some false k n o is older = older is

-- what is below k is below k + 1
below_next : (n k : ℕ) → n < k → n < k + 1
below_next n k lt = omega arith

-- what is below k is below suc k
below_suc : (n k : ℕ) → n < k → n < suc k
below_suc n k lt = omega arith

-- what is below k + 1 is below suc k
next_below_suc : (n k : ℕ) → n < k + 1 → n < suc k
next_below_suc n k lt = omega arith

-- a name leads to a file that was made
pub number_below : (log : List Change) (q : List ℕ) (n : ℕ)
    → number_in log q ≡ Some n → n < length log
number_below [] q n is = absurd (none_some n is)
number_below (Made own ∷ older) q n is =
    next_below_suc _ _ (below_of_some (bytes_eq q (string_bytes own))
    (length older) n (number_in older q) is (λ e. below_next n (length older)
    (number_below older q n e)))
number_below (Renamed from to ∷ older) q n is =
    of_cond (bytes_eq q (string_bytes to)) n (number_in older (string_bytes from))
    (cond (bytes_eq q (string_bytes from)) None (number_in older q)) (n < suc (length older)) is
    (λ e. below_suc _ _ (number_below older (string_bytes from) n e))
    (λ e. of_cond (bytes_eq q (string_bytes from)) n None
    (number_in older q) (n < suc (length older)) e
    (λ none. absurd (none_some n none)) (λ e2. below_suc _ _ (number_below older q n e2)))
number_below (Shared own old ∷ older) q n is =
    of_cond (bytes_eq q (string_bytes own)) n (number_in older (string_bytes old))
    (number_in older q) (n < suc (length older)) is
    (λ e. below_suc _ _ (number_below older (string_bytes old) n e))
    (λ e. below_suc _ _ (number_below older q n e))
number_below (Removed own ∷ older) q n is =
    of_cond (bytes_eq q (string_bytes own)) n None
    (number_in older q) (n < suc (length older)) is
    (λ none. absurd (none_some n none)) (λ e. below_suc n (length older) (number_below older q n e))
number_below (_ ∷ older) q n is = below_suc n (length older) (number_below older q n is)

-- no number is below itself
not_below : (n : ℕ) → n < n → ⊥
not_below n lt = omega arith

-- a file on device 1 with this number is the file of this number
id_of_parts : (id : FileId) (n : ℕ) → id.device ≡ 1 → id.inode ≡ n → id ≡ id_of n
id_of_parts id n device inode = ap (λ (d : ℕ). at d id.inode) device ∙ ap (λ (i : ℕ). at 1 i) inode
  where
    at : ℕ → ℕ → FileId
    at d i = record { device = d; inode = i }

-- where the files of other numbers are the same, so are other files
other_file : (log log2 : List Change) (n : ℕ) → ((m : ℕ) → m ≢ n → node_in log2 m ≡ node_in log m)
    → (other : FileId) → other ≢ id_of n → file_in log2 other ≡ file_in log other
other_file log log2 n same other apart =
    ⊎_elim
    (λ here. ap (λ (b : Bool). cond b (node_in log2 other.inode) None) here.0
    ∙ same other.inode (λ e. apart (id_of_parts other n here.1 e))
    ∙ sym (ap (λ (b : Bool). cond b (node_in log other.inode) None) here.0))
    (λ there. ap (λ (b : Bool). cond b (node_in log2 other.inode) None) there.0
    ∙ sym (ap (λ (b : Bool). cond b (node_in log other.inode) None) there.0))
    (eqb_tells other.device 1)

-- which file a name leads to
pub id_in : (links : List Link) (log : List Change) (q : List ℕ)
    → disk.id_at (disk_in links log) q ≡ option_map id_of (number_in log (real_in links q))
id_in links log q = get_names log (real_in links q)

-- which file a name leads to that stands for this one
id_real : (links : List Link) (log : List Change) (q r : List ℕ) → real_in links q ≡ r
    → disk.id_at (disk_in links log) q ≡ option_map id_of (number_in log r)
id_real links log q r is = id_in links log q
    ∙ ap (λ (p : List ℕ). option_map id_of (number_in log p)) is

-- where there is no number there is no file
pub id_none : (o : Option ℕ) → o ≡ None → option_map id_of o ≡ None
id_none o is = ap (λ (p : Option ℕ). option_map id_of p) is

-- equal numbers have equal files
pub id_same : (o p : Option ℕ) → o ≡ p → option_map id_of o ≡ option_map id_of p
id_same o p is = ap (λ (p : Option ℕ). option_map id_of p) is

-- a name that does not stand for this one, stands for another
stands_apart : (links : List Link) (q own : List ℕ) → real_in links own ≡ own
    → (real_in links q ≡ real_in links own → ⊥) → bytes_eq (real_in links q) own ≡ false
stands_apart links q own direct apart =
    eq_no (real_in links q) own (λ e. apart (e ∙ sym direct))

-- the file of this number, where its parts are these
node_parts : (log : List Change) (n mode : ℕ) (stored : Bool) (bytes : List ℕ)
    → bytes_in log n ≡ bytes → stored_in log n ≡ stored → mode_in log n ≡ Some mode
    → node_in log n ≡ Some (node_with bytes stored mode)
node_parts log n mode stored bytes held has modes =
    ap (λ (l : List ℕ). option_map (node_with l (stored_in log n)) (mode_in log n)) held
    ∙ ap (λ (s : Bool). option_map (node_with bytes s) (mode_in log n)) has
    ∙ ap (λ (o : Option ℕ). option_map (node_with bytes stored) o) modes

-- a file that is there has permissions, and is made of its parts
pub of_node : (log : List Change) (n : ℕ) (node : Node) → node_in log n ≡ Some node
    → (mode : ℕ) × (mode_in log n ≡ Some mode)
    × (node ≡ node_with (bytes_in log n) (stored_in log n) mode)
of_node log n node is = by_mode (mode_in log n) refl is
  where
    none_node : None ≡ Some node → ⊥
    none_node e = cc

    some_node : (other : Node) → Some other ≡ Some node → node ≡ other
    some_node other e = cc

    by_mode : (o : Option ℕ) → mode_in log n ≡ o
        → option_map (node_with (bytes_in log n) (stored_in log n)) o ≡ Some node
        → (mode : ℕ) × (mode_in log n ≡ Some mode)
        × (node ≡ node_with (bytes_in log n) (stored_in log n) mode)
    by_mode None has e = absurd (none_node e)
    by_mode (Some mode) has e = (mode, has, some_node _ e)

-- the change Made makes a new file, which is empty, where the name is no link and leads to no file
pub after_made : (links : List Link) (log : List Change) (own : String Global)
    → is_some (link_named links (string_bytes own)) ≡ false
    → number_in log (string_bytes own) ≡ None
    → disk.MakesFile (string_bytes own) (id_of (length log)) (disk_in links log)
    (disk_in links (Made own ∷ log))
after_made links log own unlinked none = record {
  node = node_with [] false 420;
  is_regular = refl;
  empty = refl;
  mode = refl;
  direct = unlinked;
  beside = record {
    links = refl;
    unnamed = id_real links log (string_bytes own) (string_bytes own) stands
        ∙ ap (λ (o : Option ℕ). option_map id_of o) none;
    fresh = λ name e. not_below (length log)
        (number_below log (real_in links name) (length log)
        (of_id (number_in log (real_in links name)) (length log) (sym (id_in links log name) ∙ e)));
    named = id_real links (Made own ∷ log) (string_bytes own) (string_bytes own) stands
        ∙ ap (λ (o : Option ℕ). option_map id_of o)
        (cond_yes _ _ _ (eq_yes (string_bytes own) (string_bytes own) refl));
    names = λ name apart. id_in links (Made own ∷ log) name
        ∙ ap (λ (o : Option ℕ). option_map id_of o)
        (cond_no _ _ _ (stands_apart links name (string_bytes own) stands apart))
        ∙ sym (id_in links log name);
    file = node_parts (Made own ∷ log) (length log) 420 false []
        (cond_yes _ _ _ here) (cond_yes _ _ _ here) (cond_yes _ _ _ here);
    others = λ other apart. other_file log (Made own ∷ log) (length log)
        (λ m differs. other_node m differs) other apart;
    refused = refl;
  };
}
  where
    stands : real_in links (string_bytes own) ≡ string_bytes own
    stands = not_link links (string_bytes own) unlinked

    here : nat_eq (length log) (length log) ≡ true
    here = eq-eqb (length log) (length log) refl

    other_node : (m : ℕ) → m ≢ length log → node_in (Made own ∷ log) m ≡ node_in log m
    other_node m differs =
        ap (λ (b : Bool). option_map (node_with
        (cond b [] (bytes_in log m)) (cond b false (stored_in log m)))
        (cond b (Some 420) (mode_in log m))) (number_no m (length log) differs)

-- where only the file of one number changed, it was set and all else is as before
one_file_set : (log log2 : List Change) (n : ℕ) (node after : Node) (links : List Link)
    → (disk_in links log2).links ≡ (disk_in links log).links
    → names_in log2 ≡ names_in log
    → (disk_in links log2).refused ≡ (disk_in links log).refused
    → node_in log2 n ≡ Some after
    → ((m : ℕ) → m ≢ n → node_in log2 m ≡ node_in log m)
    → SetsFile (id_of n) after (disk_in links log) (disk_in links log2)
one_file_set log log2 n node after links same names refused file others = record {
  links = same;
  names = names;
  refused = refused;
  file = file;
  others = λ other apart. other_file log log2 n others other apart;
}

-- the change GotMode gives the file these permissions
pub after_got_mode : (links : List Link) (log : List Change) (n mode : ℕ)
    → disk.SetsMode (id_of n) mode (disk_in links log) (disk_in links (GotMode n mode ∷ log))
after_got_mode links log n mode = λ node is.
    let parts = of_node log n node is in (
      node_with (bytes_in log n) (stored_in log n) mode,
      one_file_set log (GotMode n mode ∷ log) n node _ links refl refl refl
          (node_parts (GotMode n mode ∷ log) n mode _ _ refl refl
          (cond_yes _ _ _ (eq-eqb n n refl)))
          (λ m differs. ap (λ (b : Bool). option_map (node_with (bytes_in log m)
          (stored_in log m)) (cond b (Some mode) (mode_in log m))) (number_no m n differs)),
      sym (ap (λ (k : Node). k.is_regular) parts.2),
      sym (ap (λ (k : Node). k.bytes) parts.2),
      refl,
    )

-- the change Stored lets the device have the file
pub after_stored : (links : List Link) (log : List Change) (n : ℕ)
    → disk.SyncsFile (id_of n) (disk_in links log) (disk_in links (Stored n ∷ log))
after_stored links log n = λ node is.
    let parts = of_node log n node is in
    one_file_set log (Stored n ∷ log) n node (record node { is_stored = true }) links refl refl refl
    (node_parts (Stored n ∷ log) n parts.0 _ _ refl
    (cond_yes _ _ _ (eq-eqb n n refl)) parts.1
    ∙ sym (ap (λ (k : Node). Some (record k { is_stored = true })) parts.2))
    (λ m differs. ap (λ (b : Bool). option_map (node_with (bytes_in log m)
    (cond b true (stored_in log m))) (mode_in log m)) (number_no m n differs))

-- the change Wrote puts these bytes behind those of the file
pub after_wrote : (links : List Link) (log : List Change) (n : ℕ) (bytes : Vec ℕ Global)
    → disk.AppendsBytes (id_of n) bytes.items
    (disk_in links log) (disk_in links (Wrote n bytes ∷ log))
after_wrote links log n bytes = λ node is.
    let parts = of_node log n node is in (
      node_with (bytes_in log n ++ bytes.items) false parts.0,
      one_file_set log (Wrote n bytes ∷ log) n node _ links refl refl refl
          (node_parts (Wrote n bytes ∷ log) n parts.0 _ _
          (cond_yes _ _ _ (eq-eqb n n refl)) (cond_yes _ _ _ (eq-eqb n n refl)) parts.1)
          (λ m differs. ap (λ (b : Bool). option_map (node_with
          (cond b (bytes_in log m ++ bytes.items) (bytes_in log m))
          (cond b false (stored_in log m))) (mode_in log m)) (number_no m n differs)),
      sym (ap (λ (k : Node). k.is_regular) parts.2),
      sym (ap (λ (k : Node). k.mode) parts.2),
      sym (ap (λ (k : Node). k.bytes ++ bytes.items) parts.2),
    )

-- the change Stayed alters nothing, and so nothing but this file
pub after_stayed : (links : List Link) (log : List Change) (id : FileId)
    → disk.ChangesOnlyFile id (disk_in links log) (disk_in links (Stayed ∷ log))
after_stayed links log id = λ node is. (
  node,
  record {
    links = refl;
    names = refl;
    refused = refl;
    file = is;
    others = λ other apart. refl;
  },
)

-- the change Stayed writes a first part of these bytes, with none of them
pub after_part : (links : List Link) (log : List Change) (id : FileId) (bytes : List ℕ)
    → disk.AppendsFront id bytes (disk_in links log) (disk_in links (Stayed ∷ log))
after_part links log id bytes = (
  0,
  λ node is. (
    node,
    record { links = refl; names = refl; refused = refl; file = is; others = λ other apart. refl },
    refl,
    refl,
    sym (append-nil node.bytes),
  ),
)

-- the change Refused adds the name to those that the system refused to remove
pub after_refused : (links : List Link) (log : List Change) (own : String Global)
    → disk.RefusesRemoval (string_bytes own) (disk_in links log) (disk_in links (Refused own ∷ log))
after_refused links log own = record {
  links = refl;
  names = refl;
  files = λ other. refl;
  refused = refl;
}

-- the change Removed takes the name away, where it is no link
pub after_removed : (links : List Link) (log : List Change) (own : String Global)
    → disk.RemovesUnlessLink (string_bytes own)
    (disk_in links log) (disk_in links (Removed own ∷ log))
after_removed links log own = λ unlinked.
    let stands = not_link links (string_bytes own) unlinked in record {
      links = refl;
      gone = id_real links (Removed own ∷ log) (string_bytes own) (string_bytes own) stands
          ∙ id_none _ (cond_yes _ _ _ (eq_yes (string_bytes own) (string_bytes own) refl));
      names = λ name apart. id_in links (Removed own ∷ log) name
          ∙ id_same _ _ (cond_no _ _ _ (stands_apart links name (string_bytes own) stands apart))
          ∙ sym (id_in links log name);
      files = λ other. refl;
      refused = refl;
    }

-- the change Renamed gives the file of the one name the other, where no name is a link
pub after_renamed : (links : List Link) (log : List Change) (from to : String Global)
    → disk.RenamesUnlessLink (string_bytes from) (string_bytes to)
    (disk_in links log) (disk_in links (Renamed from to ∷ log))
after_renamed links log from to = λ one other.
    let stands_from = not_link links (string_bytes from) one in
    let stands_to = not_link links (string_bytes to) other in record {
      links = refl;
      moved = id_real links (Renamed from to ∷ log) (string_bytes to) (string_bytes to) stands_to
          ∙ id_same _ _ (cond_yes _ _ _ (eq_yes (string_bytes to) (string_bytes to) refl))
          ∙ sym (id_real links log (string_bytes from) (string_bytes from) stands_from);
      gone = λ apart.
          id_real links (Renamed from to ∷ log) (string_bytes from) (string_bytes from) stands_from
          ∙ id_none _ (cond_no _ _ _ (eq_no (string_bytes from) (string_bytes to)
          (λ e. apart (stands_from ∙ e ∙ sym stands_to)))
          ∙ cond_yes _ _ _ (eq_yes (string_bytes from) (string_bytes from) refl));
      names = λ name not_from not_to. id_in links (Renamed from to ∷ log) name
          ∙ id_same _ _ (cond_no _ _ _ (stands_apart links name (string_bytes to) stands_to not_to)
          ∙ cond_no _ _ _ (stands_apart links name (string_bytes from) stands_from not_from))
          ∙ sym (id_in links log name);
      files = λ other. refl;
      refused = refl;
    }
