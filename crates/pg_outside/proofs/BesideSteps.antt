-- What a new file beside another, that takes its name or is removed, makes of a disk.
use Rattle.std.proofs.Common.{◌≡◌, ◌≢◌, ◌⊎◌, inl, inr, ⊎_elim, ℕ, List, ◌∷◌, ◌++◌, Bool, true, false, Option, Some, None, Decides, refl, sym, ap, ◌∙◌}
use Rattle.std.specs.Option.{unwrap_or}
use Rattle.std.specs.FinMap as fin
use Rattle.std.specs.Str.{bytes_eq}
use Rattle.std.proofs.lemmas.Bool.{false≢true}
use Rattle.std.proofs.lemmas.Slice.Eq.{bytes_eq-Decides}
use Rattle.pg_outside.specs.Inside.disk.Disks.{Node, Disk, Links, NameMap, SetsFile, AddsFile, MakesFile, ChangesOnlyFile}
use Rattle.pg_outside.specs.Inside.disk.Disks.{RenamesFile, RemovesName, RefusesRemoval, AreOne, KnowsNewNames, id_at, node_at, node_of}
use Rattle.pg_outside.specs.Inside.disk.Moments.{FillsFile, IsWhole, IsBeside, IsSameAt, AtMoment, IsWritten, IsSame, HasRest}
use Rattle.pg_outside.specs.Inside.disk.NewNames.{IsNewName}
use Rattle.pg_outside.specs.declared.disk.system.FileId.{FileId}

same_or_not : (a b : List ℕ) → (a ≡ b) ⊎ (a ≢ b)
same_or_not a b = by_test (bytes_eq a b) (bytes_eq-Decides a b)
  where
    by_test : (r : Bool) → Decides r (a ≡ b) → (a ≡ b) ⊎ (a ≢ b)
    by_test true d = inl (d.0 refl)
    by_test false d = inr (λ e. absurd (false≢true (d.1 e)))

node_of_same : (k : Option FileId) (f g : FileId → Option Node) → ((m : FileId) → f m ≡ g m) → node_of k f ≡ node_of k g
node_of_same None f g same = refl
node_of_same (Some m) f g same = same m

-- two names that stand for one lead to one file
pub one_node : (a : Disk) (p q : List ℕ) → AreOne a p q → node_at a p ≡ node_at a q
one_node a p q one = ap (λ (r : List ℕ). node_of (fin.get a.names r) a.files) one

-- the same names and links
same_id : (a b : Disk) (q : List ℕ) → b.links ≡ a.links → b.names ≡ a.names → id_at b q ≡ id_at a q
same_id a b q links names = ap (λ (l : Links). fin.get b.names (l.real q)) links ∙ ap (λ (n : NameMap). fin.get n (a.links.real q)) names

pub one_still : (a b : Disk) (p q : List ℕ) → b.links ≡ a.links → AreOne a p q → AreOne b p q
one_still a b p q links one = ap (λ (l : Links). l.real p) links ∙ one ∙ sym (ap (λ (l : Links). l.real q) links)

-- the new file again
beside_again : (own : List ℕ) (n : FileId) (x y : Node) (a b c : Disk) → AddsFile own n x a b → SetsFile n y b c → AddsFile own n y a c
beside_again own n x y a b c ab bc = record {
  links = bc.links ∙ ab.links;
  unnamed = ab.unnamed;
  fresh = ab.fresh;
  named = same_id b c own bc.links bc.names ∙ ab.named;
  names = λ name apart. same_id b c name bc.links bc.names ∙ ab.names name apart;
  file = bc.file;
  others = λ other apart. bc.others other apart ∙ ab.others other apart;
  refused = bc.refused ∙ ab.refused;
}

-- every other name leads to what it led to
beside_same : (own : List ℕ) (n : FileId) (x : Node) (a b : Disk) → AddsFile own n x a b → (name : List ℕ) → ¬ AreOne a name own → IsSameAt a b name
beside_same own n x a b ab name apart = (ab.names name apart, ap (λ (k : Option FileId). node_of k b.files) (ab.names name apart) ∙ by_id (id_at a name) refl)
  where
    by_id : (k : Option FileId) → id_at a name ≡ k → node_of k b.files ≡ node_of k a.files
    by_id None is = refl
    by_id (Some m) is = ab.others m (λ same. ab.fresh name (is ∙ ap (λ (j : FileId). Some j) same))

unnamed_none : (a : Disk) (own : List ℕ) → id_at a own ≡ None → node_at a own ≡ None
unnamed_none a own is = ap (λ (k : Option FileId). node_of k a.files) is

-- the new file's name does not stand for the name whose place it is to take
pub is_beside : (own name : List ℕ) (a : Disk) → IsNewName own name → own ≢ name → KnowsNewNames a → a.links.is_link name ≡ false → a.links.is_link own
    ≡ false → id_at a own ≡ None → IsBeside own name a
is_beside own name a is_new apart known direct own_direct unnamed = record {
  real = name;
  direct = direct;
  one = refl;
  is_new = is_new;
  apart = λ one. apart (known own name is_new direct own_direct one);
  unnamed = unnamed;
}

at_beside : (own name bytes : List ℕ) (mode : Option ℕ) (n : FileId) (x : Node) (a b : Disk) → IsBeside own name a → AddsFile own n x a b → AtMoment name bytes mode a b
at_beside own name bytes mode n x a b beside ab = record {
  links = ab.links;
  own = own;
  beside = beside;
  names = λ other apart. inl (beside_same own n x a b ab other apart);
}

-- while the new file is filled
pub record HasBeside (own : List ℕ) (n : FileId) (first now : Disk) : Type 0 where
  pub node : Node
  pub direct : first.links.is_link own ≡ false
  pub beside : AddsFile own n node first now

pub made_then_disturbed : (own : List ℕ) (n : FileId) (a b c : Disk) → MakesFile own n a b → ChangesOnlyFile n b c → HasBeside own n a c
made_then_disturbed own n a b c ab bc =
    let step = bc ab.node ab.beside.file in
    record { node = step.0; direct = ab.direct; beside = beside_again own n ab.node step.0 a b c ab.beside step.1 }

pub at_made : (own name bytes : List ℕ) (mode : Option ℕ) (n : FileId) (a b : Disk) → IsBeside own name a → MakesFile own n a b → AtMoment name bytes mode a b
at_made own name bytes mode n a b beside ab = at_beside own name bytes mode n ab.node a b beside ab.beside

pub at_disturbed : (own name bytes : List ℕ) (mode : Option ℕ) (n : FileId) (a b c : Disk) → IsBeside own name a → MakesFile own n a b → ChangesOnlyFile n b c → AtMoment name bytes mode a c
at_disturbed own name bytes mode n a b c beside ab bc =
    let now = made_then_disturbed own n a b c ab bc in
    at_beside own name bytes mode n now.node a c beside now.beside

-- a new file that was filled, and has not taken the name
pub record IsReady (own bytes : List ℕ) (mode : Option ℕ) (n : FileId) (a b : Disk) : Type 0 where
  pub node : Node
  pub direct : a.links.is_link own ≡ false
  pub beside : AddsFile own n node a b
  pub is_regular : node.is_regular ≡ true
  pub has_bytes : node.bytes ≡ bytes
  pub is_stored : node.is_stored ≡ true
  pub has_mode : node.mode ≡ unwrap_or mode a.links.new_mode

pub made_then_filled : (own bytes : List ℕ) (mode : Option ℕ) (n : FileId) (a b c : Disk) → MakesFile own n a b → FillsFile n mode bytes b c → IsReady own bytes mode n a c
made_then_filled own bytes mode n a b c ab bc =
    let filled = bc ab.node ab.beside.file in
    record {
      node = filled.0;
      direct = ab.direct;
      beside = beside_again own n ab.node filled.0 a b c ab.beside filled.1;
      is_regular = filled.2 ∙ ab.is_regular;
      has_bytes = filled.3 ∙ ap (λ (l : List ℕ). l ++ bytes) ab.empty;
      is_stored = filled.4;
      has_mode = filled.5 ∙ ap (λ (m : ℕ). unwrap_or mode m) ab.mode;
    }

is_whole : (own name bytes : List ℕ) (mode : Option ℕ) (n : FileId) (a b c : Disk) → IsReady own bytes mode n a b → RenamesFile own name b c → IsWhole bytes mode c name
is_whole own name bytes mode n a b c ab bc = record {
  node = ab.node;
  there = ap (λ (k : Option FileId). node_of k c.files) (bc.moved ∙ ab.beside.named) ∙ bc.files n ∙ ab.beside.file;
  is_regular = ab.is_regular;
  bytes = ab.has_bytes;
  is_stored = ab.is_stored;
  mode = ab.has_mode ∙ ap (λ (l : Links). unwrap_or mode l.new_mode) (sym (bc.links ∙ ab.beside.links));
}

one_back : (a b : Disk) (p q : List ℕ) → b.links ≡ a.links → AreOne b p q → AreOne a p q
one_back a b p q links one = one_still b a p q (sym links) one

one_id : (a : Disk) (p q : List ℕ) → AreOne a p q → id_at a p ≡ id_at a q
one_id a p q one = ap (λ (r : List ℕ). fin.get a.names r) one

-- a name that stands for one that led to no file, and leads to none
none_same : (a c : Disk) (other own : List ℕ) → c.links ≡ a.links → AreOne a other own → id_at a own ≡ None → id_at c own ≡ None → IsSameAt a c other
none_same a c other own links one before after =
    let still = one_still a c other own links one in (
      one_id c other own still ∙ after ∙ sym before ∙ sym (one_id a other own one),
      one_node c other own still ∙ unnamed_none c own after ∙ sym (unnamed_none a own before) ∙ sym (one_node a other own one),
    )

-- the same once more
same_on : (a b c : Disk) (other : List ℕ) → id_at c other ≡ id_at b other → ((m : FileId) → c.files m ≡ b.files m) → IsSameAt a b other → IsSameAt a c other
same_on a b c other id files ab = (
  id ∙ ab.0,
  ap (λ (k : Option FileId). node_of k c.files) id ∙ node_of_same (id_at b other) c.files b.files files ∙ ab.1,
)

moved_same : (own name bytes : List ℕ) (mode : Option ℕ) (n : FileId) (a b c : Disk) → IsReady own bytes mode n a b → RenamesFile own name b c → (other : List ℕ)
    → ¬ AreOne a other name → IsSameAt a c other
moved_same own name bytes mode n a b c ab bc other apart =
    ⊎_elim
    (λ (one : AreOne a other own). none_same a c other own (bc.links ∙ ab.beside.links) one ab.beside.unnamed (bc.gone (λ same. apart (one ∙ one_back a b own name ab.beside.links same))))
    (λ not_own. same_on a b c other (bc.names other (λ one. not_own (one_back a b other own ab.beside.links one)) (λ one. apart (one_back a b other name ab.beside.links one))) bc.files
    (beside_same own n ab.node a b ab.beside other not_own))
    (same_or_not (a.links.real other) (a.links.real own))

pub is_written : (own name bytes : List ℕ) (mode : Option ℕ) (n : FileId) (a b c : Disk) → IsReady own bytes mode n a b → RenamesFile own name b c → IsWritten name bytes mode n a c
is_written own name bytes mode n a b c ab bc = record {
  links = bc.links ∙ ab.beside.links;
  refused = bc.refused ∙ ab.beside.refused;
  leads = bc.moved ∙ ab.beside.named;
  whole = is_whole own name bytes mode n a b c ab bc;
  others = moved_same own name bytes mode n a b c ab bc;
}

pub whole_of_one : (bytes : List ℕ) (mode : Option ℕ) (a : Disk) (p q : List ℕ) → AreOne a p q → IsWhole bytes mode a q → IsWhole bytes mode a p
whole_of_one bytes mode a p q one w = record {
  node = w.node;
  there = one_node a p q one ∙ w.there;
  is_regular = w.is_regular;
  bytes = w.bytes;
  is_stored = w.is_stored;
  mode = w.mode;
}

pub at_placed : (own name bytes : List ℕ) (mode : Option ℕ) (n : FileId) (a b c : Disk) → IsBeside own name a → IsReady own bytes mode n a b → RenamesFile own name b c → AtMoment name bytes mode a c
at_placed own name bytes mode n a b c beside ab bc = record {
  links = bc.links ∙ ab.beside.links;
  own = own;
  beside = beside;
  names = λ other other_apart. ⊎_elim
      (λ (one : AreOne a other name). inr (one, whole_of_one bytes mode c other name (one_still a c other name (bc.links ∙ ab.beside.links) one) (is_whole own name bytes mode n a b c ab bc)))
      (λ apart. inl (moved_same own name bytes mode n a b c ab bc other apart))
      (same_or_not (a.links.real other) (a.links.real name));
}

-- the new file was removed
pub removed_same : (own : List ℕ) (n : FileId) (x : Node) (a b c : Disk) → AddsFile own n x a b → RemovesName own b c → IsSame a c
removed_same own n x a b c ab bc = record {
  links = bc.links ∙ ab.links;
  refused = bc.refused ∙ ab.refused;
  names = λ other. ⊎_elim
      (λ (one : AreOne a other own). none_same a c other own (bc.links ∙ ab.links) one ab.unnamed bc.gone)
      (λ apart. same_on a b c other (bc.names other (λ one. apart (one_back a b other own ab.links one))) bc.files (beside_same own n x a b ab other apart))
      (same_or_not (a.links.real other) (a.links.real own));
}

pub at_same : (own name bytes : List ℕ) (mode : Option ℕ) (a c : Disk) → IsBeside own name a → IsSame a c → AtMoment name bytes mode a c
at_same own name bytes mode a c beside same = record {
  links = same.links;
  own = own;
  beside = beside;
  names = λ other apart. inl (same.names other);
}

-- the system refused to remove it
pub refused_rest : (own name : List ℕ) (n : FileId) (x : Node) (a b c : Disk) → IsBeside own name a → AddsFile own n x a b → RefusesRemoval own b c → HasRest name a c
refused_rest own name n x a b c beside ab bc = record {
  links = bc.links ∙ ab.links;
  own = own;
  beside = beside;
  others = λ other apart. same_on a b c other (same_id b c other bc.links bc.names) bc.files (beside_same own n x a b ab other apart);
  refused = bc.refused ∙ ap (λ (l : List (List ℕ)). own ∷ l) ab.refused;
}

pub at_rest : (name bytes : List ℕ) (mode : Option ℕ) (a c : Disk) → HasRest name a c → AtMoment name bytes mode a c
at_rest name bytes mode a c rest = record {
  links = rest.links;
  own = rest.own;
  beside = rest.beside;
  names = λ other apart. inl (rest.others other apart);
}
