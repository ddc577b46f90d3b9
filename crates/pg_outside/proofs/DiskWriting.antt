-- What a write by name does to a disk, from what the calls say of the name that it leads to.
use Rattle.std.proofs.Common.{◌≡◌, inl, inr, ⊎_elim, ℕ, ◌+◌, ◌<◌, List, [], ◌∷◌, ◌++◌, true, false, Option, Some, None, IfSome, Result, Ok, Err, OnOk, OnErr, IsErr, refl, sym, ap, subst, ◌∙◌, arith}
use Rattle.std.specs.FinMap as fin
use Rattle.std.specs.Result.{IsErrAnd}
use Rattle.std.proofs.lemmas.Grind.{common_steps}
use Rattle.std.proofs.lemmas.Result.{on_err_weaker, on_ok_weaker}
use Rattle.pg_outside.specs.Inside.disk.Causes.{IsCauseOf}
use Rattle.pg_outside.specs.Inside.disk.Disks.{Node, Disk, DiskHistory, AreOne, KeepsDisk, HoldsNow, LeadsTo, LeadsToNone}
use Rattle.pg_outside.specs.Inside.disk.Disks.{IsOpened, IsWritable, IsStat, AppendsBytes, AppendsFront, id_at, node_at, node_of}
use Rattle.pg_outside.specs.Inside.disk.Writes.{IsIn, KeepsAll, IsPlain, IsDevice, IsProtected, MayWrite, AtWrite, AfterWrite, AfterFailure, IsSeen}
use Rattle.pg_outside.specs.Inside.disk.Writes.{IsOld, IsSeenMode, AreAllTaken, LeadsThroughOpen, IsDeep, IsFull, IsWrite, WasKept, StandsFor, mode_of, mode_at}
use Rattle.pg_outside.specs.Inside.disk.Moments.{RunsCalls, WhereDirect, AtMoment, IsBeside, IsWritten, IsAsBefore, IsSame, HasRest}
use Rattle.pg_outside.specs.declared.disk.error.WriteError.{WriteError}
use Rattle.pg_outside.specs.declared.disk.system.FileId.{FileId}
use Rattle.pg_outside.specs.declared.disk.system.FileStatus.{FileStatus}
use Rattle.pg_outside.proofs.Causes.{passed_on}
use Rattle.pg_outside.proofs.Results.{on_err, no_value}
use Rattle.pg_outside.proofs.Runs.{known_start, keeps_then, keeps_now, now_both, now_weaker, no_step}
use Rattle.pg_outside.proofs.BesideSteps.{one_node, one_still, whole_of_one}
use Rattle.pg_outside.proofs.FileSteps.{wrote_nothing}

id_one : (d : Disk) (p q : List ℕ) → AreOne d p q → id_at d p ≡ id_at d q
id_one d p q one = ap (λ (r : List ℕ). fin.get d.names r) one

leads_one : (n : FileId) (d : Disk) (p q : List ℕ) → AreOne d p q → LeadsTo p n d → LeadsTo q n d
leads_one n d p q one leads = sym (id_one d p q one) ∙ leads

plain_one : (d : Disk) (p q : List ℕ) → AreOne d p q → IsPlain p d → IsPlain q d
plain_one d p q one plain = subst (λ (o : Option Node). IfSome o (λ node. node.is_regular ≡ true)) (one_node d p q one) plain

beside_one : (own p q : List ℕ) (first : Disk) → AreOne first p q → IsBeside own p first → IsBeside own q first
beside_one own p q first one is = record {
  real = is.real;
  direct = is.direct;
  one = is.one ∙ one;
  is_new = is.is_new;
  apart = λ same. is.apart (same ∙ sym one);
  unnamed = is.unnamed;
}

moment_one : (p q bytes : List ℕ) (m : Option ℕ) (first disk : Disk) → AreOne first p q → AtMoment p bytes m first disk → AtMoment q bytes m first disk
moment_one p q bytes m first disk one at = record {
  links = at.links;
  own = at.own;
  beside = beside_one at.own p q first one at.beside;
  names = λ other apart. ⊎_elim (λ same. inl same) (λ new. inr (new.0 ∙ one, new.1)) (at.names other apart);
}

written_one : (p q bytes : List ℕ) (m : Option ℕ) (n : FileId) (first last : Disk) → AreOne first p q → IsWritten p bytes m n first last → IsWritten q bytes m n first last
written_one p q bytes m n first last one w = record {
  links = w.links;
  refused = w.refused;
  leads = leads_one n last p q (one_still first last p q w.links one) w.leads;
  whole = whole_of_one bytes m last q p (sym (one_still first last p q w.links one)) w.whole;
  others = λ other apart. w.others other (λ same. apart (same ∙ one));
}

protected_one : (kept : List FileId) (n : FileId) (d : Disk) (p q : List ℕ) → AreOne d p q → IsProtected p kept n d → IsProtected q kept n d
protected_one kept n d p q one is = record { leads = leads_one n d p q one is.leads; plain = plain_one d p q one is.plain; is_kept = is.is_kept }

device_one : (n : FileId) (d : Disk) (p q : List ℕ) → AreOne d p q → IsDevice p n d → IsDevice q n d
device_one n d p q one is = record { leads = leads_one n d p q one is.leads; node = is.node; there = is.there; kind = is.kind }

mode_one : (d : Disk) (p q : List ℕ) → AreOne d p q → mode_at p d ≡ mode_at q d
mode_one d p q one = ap mode_of (one_node d p q one)

may_one : (kept : List FileId) (d : Disk) (p q : List ℕ) → AreOne d p q → (LeadsThroughOpen q d → ⊥) → MayWrite p kept d → MayWrite q kept d
may_one kept d p q one by_name may = record {
  writable = subst (λ (o : Option Node). IfSome o (λ node. node.is_writable ≡ true)) (one_node d p q one) may.writable;
  free = λ n is. may.free n (protected_one kept n d q p (sym one) is);
  by_name = λ plain through. by_name through;
}

-- by another name for the same
pub at_one : (p q bytes : List ℕ) (kept : List FileId) (first disk : Disk) → AreOne first p q → (LeadsThroughOpen q first → ⊥)
    → AtWrite p bytes kept first disk → AtWrite q bytes kept first disk
at_one p q bytes kept first disk one by_name at = record {
  allowed = may_one kept first p q one by_name at.allowed;
  plain = λ plain. subst (λ (m : Option ℕ). AtMoment q bytes m first disk) (mode_one first p q one)
      (moment_one p q bytes (mode_at p first) first disk one (at.plain (plain_one first q p (sym one) plain)));
  device = λ n is. at.device n (device_one n first q p (sym one) is);
}

pub after_one : (p q bytes : List ℕ) (before kept : List FileId) (first last : Disk) → AreOne first p q → (LeadsThroughOpen q first → ⊥)
    → AfterWrite p bytes before kept first last → AfterWrite q bytes before kept first last
after_one p q bytes before kept first last one by_name after = record {
  links = after.links;
  allowed = may_one before first p q one by_name after.allowed;
  plain = λ plain.
      let w = after.plain (plain_one first q p (sym one) plain) in
      record {
        id = w.id;
        grown = w.grown;
        written = subst (λ (m : Option ℕ). IsWritten q bytes m w.id first last) (mode_one first p q one) (written_one p q bytes (mode_at p first) w.id first last one w.written);
      };
  device = λ n is. after.device n (device_one n first q p (sym one) is);
}

as_before_one : (p q : List ℕ) (first last : Disk) → AreOne first p q → IsAsBefore p first last → IsAsBefore q first last
as_before_one p q first last one as_before = ⊎_elim (λ (same : IsSame first last). inl same)
    (λ (rest : HasRest p first last). inr (record { links = rest.links; own = rest.own; beside = beside_one rest.own p q first one rest.beside; others = rest.others; refused = rest.refused }))
    as_before

pub failure_one : (p q bytes : List ℕ) (first last : Disk) → AreOne first p q → AfterFailure p bytes first last → AfterFailure q bytes first last
failure_one p q bytes first last one after = record {
  links = after.links;
  plain = λ plain. as_before_one p q first last one (after.plain (plain_one first q p (sym one) plain));
  device = λ n is. after.device n (device_one n first q p (sym one) is);
}

some_same : (m n : FileId) → Some m ≡ Some n → m ≡ n
some_same m n e = cc

none_some : (n : FileId) → None ≡ Some n → ⊥
none_some n e = cc

true_false : true ≡ false → ⊥
true_false e = cc

-- the name leads to no file, or to a regular one that may be written
pub record MayReplace (name : List ℕ) (kept : List FileId) (mode : Option ℕ) (d : Disk) : Type 0 where
  pub mode_is : mode_at name d ≡ mode
  pub plain : IsPlain name d
  pub writable : IfSome (node_at d name) (λ node. node.is_writable ≡ true)
  pub free : (n : FileId) → LeadsTo name n d → IsIn n kept → ⊥

device_plain : (name : List ℕ) (n : FileId) (d : Disk) → IsDevice name n d → IsPlain name d → ⊥
device_plain name n d is plain =
    let regular : is.node.is_regular ≡ true = subst (λ (o : Option Node). IfSome o (λ node. node.is_regular ≡ true)) (ap (λ (k : Option FileId). node_of k d.files) is.leads ∙ is.there) plain in
    true_false (sym regular ∙ is.kind)

pub may_none : (name : List ℕ) (kept : List FileId) (d : Disk) → LeadsToNone name d → MayReplace name kept None d
may_none name kept d none =
    let no_node : node_at d name ≡ None = ap (λ (k : Option FileId). node_of k d.files) none in
    record {
      mode_is = ap mode_of no_node;
      plain = subst (λ (o : Option Node). IfSome o (λ node. node.is_regular ≡ true)) (sym no_node) tt;
      writable = subst (λ (o : Option Node). IfSome o (λ node. node.is_writable ≡ true)) (sym no_node) tt;
      free = λ n leads is. none_some n (sym none ∙ leads);
    }

seen_node : (name : List ℕ) (seen : FileStatus) (d : Disk) (s : IsSeen name seen d) → node_at d name ≡ Some s.node
seen_node name seen d s = ap (λ (k : Option FileId). node_of k d.files) s.leads ∙ s.there

seen_writable : (name : List ℕ) (seen : FileStatus) (d : Disk) (s : IsSeen name seen d) → IfSome (node_at d name) (λ node. node.is_writable ≡ true)
seen_writable name seen d s = subst (λ (o : Option Node). IfSome o (λ node. node.is_writable ≡ true)) (sym (seen_node name seen d s)) s.writable

some_below : (n : ℕ) → 0 < n + 1
some_below n = omega arith

-- a name that is no link leads through none
direct_name : (name : List ℕ) (d : Disk) → d.links.is_link name ≡ false → LeadsThroughOpen name d → ⊥
direct_name name d direct through = true_false (sym (through.links 0 (some_below through.count)) ∙ direct)

may_write : (name : List ℕ) (kept : List FileId) (mode : Option ℕ) (d : Disk) → d.links.is_link name ≡ false → MayReplace name kept mode d → MayWrite name kept d
may_write name kept mode d direct may = record {
  writable = may.writable;
  free = λ n is. may.free n is.leads is.is_kept;
  by_name = λ plain through. direct_name name d direct through;
}

pub may_seen : (name : List ℕ) (kept : List FileId) (seen : FileStatus) (d : Disk) → IsSeen name seen d → seen.is_regular ≡ true → (IsIn seen.id kept → ⊥) → MayReplace name kept (Some seen.mode) d
may_seen name kept seen d s regular apart = record {
  mode_is = ap mode_of (seen_node name seen d s) ∙ ap (λ (m : ℕ). Some m) s.mode;
  plain = subst (λ (o : Option Node). IfSome o (λ node. node.is_regular ≡ true)) (sym (seen_node name seen d s)) (s.kind ∙ regular);
  writable = seen_writable name seen d s;
  free = λ n leads is. apart (subst (λ (k : FileId). IsIn k kept) (some_same n seen.id (sym leads ∙ s.leads)) is);
}

pub at_may : (name bytes : List ℕ) (kept : List FileId) (mode : Option ℕ) (d disk : Disk) → d.links.is_link name ≡ false → MayReplace name kept mode d
    → AtMoment name bytes mode d disk → AtWrite name bytes kept d disk
at_may name bytes kept mode d disk direct may at = record {
  allowed = may_write name kept mode d direct may;
  plain = λ plain. subst (λ (m : Option ℕ). AtMoment name bytes m d disk) (sym may.mode_is) at;
  device = λ n is. absurd (device_plain name n d is may.plain);
}

pub after_may : (name bytes : List ℕ) (before kept : List FileId) (mode : Option ℕ) (n : FileId) (d last : Disk) → d.links.is_link name ≡ false → MayReplace name before mode d → kept
    ≡ before ++ n ∷ [] → IsWritten name bytes mode n d last → AfterWrite name bytes before kept d last
after_may name bytes before kept mode n d last direct may grown written = record {
  links = written.links;
  allowed = may_write name before mode d direct may;
  plain = λ plain. record { id = n; grown = grown; written = subst (λ (m : Option ℕ). IsWritten name bytes m n d last) (sym may.mode_is) written };
  device = λ m is. absurd (device_plain name m d is may.plain);
}

pub failed_may : (name bytes : List ℕ) (kept : List FileId) (mode : Option ℕ) (d last : Disk) → MayReplace name kept mode d → IsAsBefore name d last → AfterFailure name bytes d last
failed_may name bytes kept mode d last may as_before = record {
  links = ⊎_elim (λ (same : IsSame d last). same.links) (λ (rest : HasRest name d last). rest.links) as_before;
  plain = λ plain. as_before;
  device = λ m is. absurd (device_plain name m d is may.plain);
}

-- the name leads to no regular file
seen_device : (name : List ℕ) (seen : FileStatus) (d : Disk) → IsSeen name seen d → seen.is_regular ≡ false → IsPlain name d → ⊥
seen_device name seen d s device plain =
    true_false (sym (subst (λ (o : Option Node). IfSome o (λ node. node.is_regular ≡ true)) (seen_node name seen d s) plain) ∙ s.kind ∙ device)

-- the name stands for one that is no link, of which this is known
pub record Leads (real name : List ℕ) (kept : List FileId) (mode : Option ℕ) (d : Disk) : Type 0 where
  pub direct : d.links.is_link real ≡ false
  pub one : AreOne d real name
  pub by_name : LeadsThroughOpen name d → ⊥
  pub may : MayReplace real kept mode d

seen_one : (p q : List ℕ) (seen : FileStatus) (d : Disk) → AreOne d p q → IsSeen p seen d → IsSeen q seen d
seen_one p q seen d one s = record { leads = leads_one seen.id d p q one s.leads; node = s.node; there = s.there; kind = s.kind; mode = s.mode; writable = s.writable }

may_old : (real name : List ℕ) (kept : List FileId) (found : Option FileId) (old : Option FileStatus) (mode : Option ℕ) (d : Disk) → IsOld name old d
    → StandsFor real found name d → IsSeenMode found old mode → IfSome old (λ seen. seen.is_regular ≡ true) → IfSome old (λ seen. IsIn seen.id kept → ⊥) → MayReplace real kept mode d
may_old real name kept None None mode d is s place regular free = subst (λ (m : Option ℕ). MayReplace real kept m d) (sym place) (may_none real kept d s.leads)
may_old real name kept (Some id) (Some seen) mode d is s place regular free = subst (λ (m : Option ℕ). MayReplace real kept m d) (sym place.1)
    (may_seen real kept seen d (seen_one name real seen d (sym s.one) is) regular free)
may_old real name kept None (Some seen) mode d is s place regular free = absurd place
may_old real name kept (Some id) None mode d is s place regular free = absurd place

pub leads_old : (real name : List ℕ) (kept : List FileId) (found : Option FileId) (old : Option FileStatus) (mode : Option ℕ) (a b : Option DiskHistory)
    → HoldsNow a (IsOld name old) → KeepsDisk a b → HoldsNow b (StandsFor real found name) → IsSeenMode found old mode → IfSome old (λ seen. seen.is_regular ≡ true)
    → IfSome old (λ seen. IsIn seen.id kept → ⊥) → HoldsNow b (Leads real name kept mode)
leads_old real name kept found old mode a b is ab stands place regular free =
    now_weaker _ _ b (now_both _ _ b (keeps_now _ a b is ab) stands) (λ d s. record {
      direct = s.1.direct;
      one = s.1.one;
      by_name = s.1.by_name;
      may = may_old real name kept found old mode d s.0 s.1 place regular free;
    })

-- where the disk is told, what was found is what was seen
found_old : (real name : List ℕ) (found : Option FileId) (old : Option FileStatus) (d : Disk) → IsOld name old d → StandsFor real found name d → ((mode : Option ℕ) → IsSeenMode found old mode → ⊥) → ⊥
found_old real name None None d is s none = none None refl
found_old real name (Some id) (Some seen) d is s none = none (Some seen.mode) (some_same id seen.id (sym s.leads ∙ id_one d real name s.one ∙ is.leads), refl)
found_old real name None (Some seen) d is s none = none_some seen.id (sym s.leads ∙ id_one d real name s.one ∙ is.leads)
found_old real name (Some id) None d is s none = none_some id (sym is ∙ sym (id_one d real name s.one) ∙ s.leads)

pub no_other : (real name : List ℕ) (found : Option FileId) (old : Option FileStatus) (F : Disk → Type 0) (a b : Option DiskHistory) → HoldsNow a (IsOld name old)
    → KeepsDisk a b → HoldsNow b (StandsFor real found name) → ((mode : Option ℕ) → IsSeenMode found old mode → ⊥) → HoldsNow b F
no_other real name found old F a b is ab stands none =
    now_weaker _ _ b (now_both _ _ b (keeps_now _ a b is ab) stands) (λ d s. absurd (found_old real name found old d s.0 s.1 none))

-- each name beside what the name leads to is taken
pub is_full : (real name : List ℕ) (found : Option FileId) (b c : Option DiskHistory) → HoldsNow b (StandsFor real found name) → KeepsDisk b c
    → HoldsNow c (AreAllTaken real) → HoldsNow c (IsFull name)
is_full real name found b c stands bc taken =
    now_weaker _ _ c (now_both _ _ c (keeps_now _ b c stands bc) taken) (λ d s. record { real = real; direct = s.0.direct; one = s.0.one; all = s.1 })

-- a new file takes the place of what the name leads to
replaces_one : (real name bytes : List ℕ) (kept after : List FileId) (mode : Option ℕ) (n : FileId) (a b c : Option DiskHistory) → KeepsDisk a b
    → HoldsNow b (Leads real name kept mode) → after ≡ kept ++ n ∷ []
    → RunsCalls b c (WhereDirect real (AtMoment real bytes mode)) (WhereDirect real (IsWritten real bytes mode n)) → RunsCalls a c (AtWrite name bytes kept) (AfterWrite name bytes kept after)
replaces_one real name bytes kept after mode n a b c ab leads grown bc =
    keeps_then _ _ a b c ab (known_start _ _ _ _ (Leads real name kept mode) b c leads bc
    (λ x y f p. at_one real name bytes kept x y f.one f.by_name (at_may real bytes kept mode x y f.direct f.may (p f.direct)))
    (λ x y f p. after_one real name bytes kept after x y f.one f.by_name (after_may real bytes kept after mode n x y f.direct f.may grown (p f.direct))))

keeps_one_more : (kept : List FileId) (n id : FileId) → IsIn id kept → IsIn id (kept ++ n ∷ [])
keeps_one_more kept n id is = grind (arith, common_steps)

pub replaces_found : {T E : Type 0} (result : Result T E) (real name bytes : List ℕ) (kept after : List FileId) (mode : Option ℕ) (a b c : Option DiskHistory) (before between later : ℕ)
    → between ≡ before → KeepsDisk a b → HoldsNow b (Leads real name kept mode)
    → OnOk result ((later ≡ between) × (n : FileId) × (after ≡ kept ++ n ∷ []) × RunsCalls b c (WhereDirect real (AtMoment real bytes mode)) (WhereDirect real (IsWritten real bytes mode n)))
    → OnOk result ((later ≡ before) × KeepsAll kept after × RunsCalls a c (AtWrite name bytes kept) (AfterWrite name bytes kept after))
replaces_found (Ok value) real name bytes kept after mode a b c before between later same ab leads run = (
  run.0 ∙ same,
  λ id is. subst (λ (l : List FileId). IsIn id l) (sym run.2) (keeps_one_more kept run.1 id is),
  replaces_one real name bytes kept after mode run.1 a b c ab leads run.2 run.3,
)
replaces_found (Err error) real name bytes kept after mode a b c before between later same ab leads run = tt

-- the files that were kept in mind still are, whether the write is done or not
pub kept_either : {T E : Type 0} (result : Result T E) (kept after : List FileId) → OnOk result (KeepsAll kept after) → OnErr result (after ≡ kept) → KeepsAll kept after
kept_either (Ok value) kept after ok err = ok
kept_either (Err error) kept after ok err = λ id is. subst (λ (l : List FileId). IsIn id l) (sym err) is

replace_found_fails : (real name bytes : List ℕ) (kept : List FileId) (mode : Option ℕ) (a b c : Option DiskHistory) → KeepsDisk a b → HoldsNow b (Leads real name kept mode)
    → RunsCalls b c (WhereDirect real (AtMoment real bytes mode)) (WhereDirect real (IsAsBefore real)) → RunsCalls a c (AtWrite name bytes kept) (AfterFailure name bytes)
replace_found_fails real name bytes kept mode a b c ab leads bc =
    keeps_then _ _ a b c ab (known_start _ _ _ _ (Leads real name kept mode) b c leads bc
    (λ x y f p. at_one real name bytes kept x y f.one f.by_name (at_may real bytes kept mode x y f.direct f.may (p f.direct)))
    (λ x y f p. failure_one real name bytes x y f.one (failed_may real bytes kept mode x y f.may (p f.direct))))

pub replaces_fails : {T E : Type 0} (result : Result T E) (real name bytes : List ℕ) (kept after : List FileId) (mode : Option ℕ) (a b c : Option DiskHistory)
    → KeepsDisk a b → HoldsNow b (Leads real name kept mode)
    → OnErr result ((after ≡ kept) × RunsCalls b c (WhereDirect real (AtMoment real bytes mode)) (WhereDirect real (IsAsBefore real)))
    → OnErr result ((after ≡ kept) × RunsCalls a c (AtWrite name bytes kept) (AfterFailure name bytes))
replaces_fails (Ok value) real name bytes kept after mode a b c ab leads run = tt
replaces_fails (Err error) real name bytes kept after mode a b c ab leads run = (run.0, replace_found_fails real name bytes kept mode a b c ab leads run.1)

-- what was opened is what the system says of it
pub opened_seen : (name : List ℕ) (id : FileId) (seen : FileStatus) (a b : Option DiskHistory) → HoldsNow a (IsOpened name id) → HoldsNow a (IsWritable id)
    → KeepsDisk a b → HoldsNow b (IsStat id seen) → HoldsNow b (IsSeen name seen)
opened_seen name id seen a b opened writable ab stat =
    now_weaker _ _ b (now_both _ _ b (keeps_now _ a b (now_both _ _ a opened writable) ab) stat) (λ d s. record {
      leads = s.0.0.leads ∙ ap (λ (k : FileId). Some k) (sym s.1.is);
      node = s.1.node;
      there = subst (λ (k : FileId). d.files k ≡ Some s.1.node) (sym s.1.is) s.1.there;
      kind = s.1.kind;
      mode = s.1.mode;
      writable = s.0.1 s.1.node s.1.there;
    })

-- a device is written in place
same_device : (R : FileId → Disk → Disk → Type 0) (name : List ℕ) (n m : FileId) (x y : Disk) → LeadsTo name n x → LeadsTo name m x → R n x y → R m x y
same_device R name n m x y leads other p = subst (λ (k : FileId). R k x y) (some_same n m (sym leads ∙ other)) p

may_device : (name : List ℕ) (kept : List FileId) (seen : FileStatus) (x : Disk) → seen.is_regular ≡ false → IsSeen name seen x → MayWrite name kept x
may_device name kept seen x device s = record {
  writable = seen_writable name seen x s;
  free = λ n is. seen_device name seen x s device is.plain;
  by_name = λ plain. absurd (seen_device name seen x s device plain);
}

at_device : (name bytes : List ℕ) (kept : List FileId) (seen : FileStatus) (x y : Disk) → seen.is_regular ≡ false → AppendsFront seen.id bytes x y → IsSeen name seen x → AtWrite name bytes kept x y
at_device name bytes kept seen x y device p s = record {
  allowed = may_device name kept seen x device s;
  plain = λ plain. absurd (seen_device name seen x s device plain);
  device = λ n is. same_device (λ k. AppendsFront k bytes) name seen.id n x y s.leads is.leads p;
}

failed_device : (name bytes : List ℕ) (seen : FileStatus) (x y : Disk) → seen.is_regular ≡ false → AppendsFront seen.id bytes x y → IsSeen name seen x → AfterFailure name bytes x y
failed_device name bytes seen x y device p s = record {
  links = let w = p.1 s.node s.there in w.1.links;
  plain = λ plain. absurd (seen_device name seen x s device plain);
  device = λ n is. same_device (λ k. AppendsFront k bytes) name seen.id n x y s.leads is.leads p;
}

after_device : (name bytes : List ℕ) (kept : List FileId) (seen : FileStatus) (x y : Disk) → seen.is_regular ≡ false → AppendsBytes seen.id bytes x y
    → IsSeen name seen x → AfterWrite name bytes kept kept x y
after_device name bytes kept seen x y device p s = record {
  links = let w = p s.node s.there in w.1.links;
  allowed = may_device name kept seen x device s;
  plain = λ plain. absurd (seen_device name seen x s device plain);
  device = λ n is. (same_device (λ k. AppendsBytes k bytes) name seen.id n x y s.leads is.leads p, refl);
}

pub writes_device : (name bytes : List ℕ) (kept : List FileId) (seen : FileStatus) (n : FileId) (a b c : Option DiskHistory) → HoldsNow a (IsOpened name n) → HoldsNow a (IsWritable n)
    → KeepsDisk a b → HoldsNow b (IsStat n seen) → seen.is_regular ≡ false
    → RunsCalls b c (AppendsFront n bytes) (AppendsBytes n bytes) → RunsCalls a c (AtWrite name bytes kept) (AfterWrite name bytes kept kept)
writes_device name bytes kept seen n a b c opened writable ab stat device bc =
    keeps_then _ _ a b c ab (known_start _ _ _ _ (λ d. IsSeen name seen d × IsStat n seen d) b c (now_both _ _ b (opened_seen name n seen a b opened writable ab stat) stat) bc
    (λ x y f p. at_device name bytes kept seen x y device (subst (λ (k : FileId). AppendsFront k bytes x y) (sym f.1.is) p) f.0)
    (λ x y f p. after_device name bytes kept seen x y device (subst (λ (k : FileId). AppendsBytes k bytes x y) (sym f.1.is) p) f.0))

pub write_device_fails : (name bytes : List ℕ) (kept : List FileId) (seen : FileStatus) (n : FileId) (a b c : Option DiskHistory) → HoldsNow a (IsOpened name n)
    → HoldsNow a (IsWritable n) → KeepsDisk a b → HoldsNow b (IsStat n seen) → seen.is_regular ≡ false
    → RunsCalls b c (AppendsFront n bytes) (AppendsFront n bytes) → RunsCalls a c (AtWrite name bytes kept) (AfterFailure name bytes)
write_device_fails name bytes kept seen n a b c opened writable ab stat device bc =
    keeps_then _ _ a b c ab (known_start _ _ _ _ (λ d. IsSeen name seen d × IsStat n seen d) b c (now_both _ _ b (opened_seen name n seen a b opened writable ab stat) stat) bc
    (λ x y f p. at_device name bytes kept seen x y device (subst (λ (k : FileId). AppendsFront k bytes x y) (sym f.1.is) p) f.0)
    (λ x y f p. failed_device name bytes seen x y device (subst (λ (k : FileId). AppendsFront k bytes x y) (sym f.1.is) p) f.0))

-- nothing was done
pub nothing_failed : (name bytes : List ℕ) (kept : List FileId) (a b : Option DiskHistory) → KeepsDisk a b → RunsCalls a b (AtWrite name bytes kept) (AfterFailure name bytes)
nothing_failed name bytes kept a b ab =
    no_step _ _ a b ab (λ x. record { links = refl; plain = λ plain. inl (record { links = refl; refused = refl; names = λ other. (refl, refl) }); device = λ n is. (0, wrote_nothing n x) })

-- a write that is passed on, after calls that changed nothing
pub writes_later : {T : Type 0} (result : Result T WriteError) (first between last : ℕ) (before same kept : List FileId) (a b c : Option DiskHistory) (name bytes : List ℕ)
    → between ≡ first → same ≡ before → KeepsDisk a b
    → IsWrite result between last same kept b c name bytes → IsWrite result first last before kept a c name bytes
writes_later result first between last before same kept a b c name bytes failures keeps ab write =
    let known : IsWrite result first last before kept b c name bytes = subst (λ (n : ℕ). IsWrite result n last before kept b c name bytes) failures
    (subst (λ (k : List FileId). IsWrite result between last k kept b c name bytes) keeps write) in
    record {
      ok = on_ok_weaker result (λ run. (run.0, run.1, keeps_then _ _ _ _ _ ab run.2)) known.ok;
      err = on_err_weaker result (λ run. (run.0, keeps_then _ _ _ _ _ ab run.1)) known.err;
      cause = known.cause;
    }

-- a write that fails before anything is changed
pub writes_nothing : {T : Type 0} (result : Result T WriteError) (e : WriteError) (first last : ℕ) (before kept : List FileId) (a b : Option DiskHistory) (name bytes : List ℕ)
    → IsErr result → IsErrAnd result (λ d. d ≡ e) → kept ≡ before → KeepsDisk a b
    → IsCauseOf first last (HoldsNow b (WasKept name before)) (HoldsNow b (LeadsThroughOpen name)) (HoldsNow b (IsDeep name)) (HoldsNow b (IsFull name)) e
    → IsWrite result first last before kept a b name bytes
writes_nothing result e first last before kept a b name bytes is_err is same ab because = record {
  ok = no_value _ result is_err;
  err = on_err result (same, nothing_failed _ _ _ _ _ ab);
  cause = passed_on result e _ _ _ _ _ _ is because;
}
