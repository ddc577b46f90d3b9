-- The calls of a replacement, one after another.
use Rattle.std.proofs.Common.{◌≡◌, ◌≢◌, inl, inr, ⊎_elim, ℕ, List, false, Option, Result, Ok, Err, OnOk, OnErr, refl, sym, ap, subst, ◌∙◌}
use Rattle.pg_outside.specs.Inside.disk.Disks.{Disk, Links, DiskHistory, KeepsDisk, ChangesDisk, MakesFile, ChangesOnlyFile}
use Rattle.pg_outside.specs.Inside.disk.Disks.{RenamesUnlessLink, RemovesUnlessLink, RefusesRemoval, HoldsNow, IsStat, KnowsNewNames}
use Rattle.pg_outside.specs.Inside.disk.NewNames.{IsNewName}
use Rattle.pg_outside.specs.declared.disk.system.FileStatus.{FileStatus}
use Rattle.pg_outside.specs.Inside.disk.Moments.{RunsCalls, FillsFile, PlacesFile, PlacesFileAs, AtPlacing, WhereDirect, AtMoment, IsWritten, IsBeside, IsSame, HasRest, IsAsBefore}
use Rattle.pg_outside.proofs.Runs.{runs_on, one_step, no_step, known_start, known_end, then_keeps}
use Rattle.pg_outside.proofs.BesideSteps.{HasBeside, is_beside, at_made, at_disturbed, at_placed, is_written, made_then_disturbed, made_then_filled, removed_same, refused_rest, at_same, at_rest}
use Rattle.pg_outside.specs.declared.disk.system.FileId.{FileId}

-- a name that is no link is none after
still_direct : (a b : Disk) (q : List ℕ) → b.links ≡ a.links → a.links.is_link q ≡ false → b.links.is_link q ≡ false
still_direct a b q links direct = ap (λ (l : Links). l.is_link q) links ∙ direct

-- the file is filled and takes the name
pub places : (own given name bytes : List ℕ) (mode : Option ℕ) (n m : FileId) (seen : FileStatus) (a b c d : Option DiskHistory) → RunsCalls a b (ChangesOnlyFile n) (FillsFile n mode bytes)
    → m ≡ n → KeepsDisk b c → HoldsNow c (IsStat m seen) → given ≡ own → ChangesDisk c d (RenamesUnlessLink given name)
    → RunsCalls a d (AtPlacing own name n mode bytes) (PlacesFileAs own name n mode bytes seen.id)
places own given name bytes mode n m seen a b c d ab same bc stat is cd =
    runs_on _ _ _ _ _ _ a c d (known_end _ _ _ a c (then_keeps _ _ a b c ab bc) stat)
    (one_step (RenamesUnlessLink own name) c d (subst (λ (l : List ℕ). ChangesDisk c d (RenamesUnlessLink l name)) is cd))
    (λ x y p. inl p)
    (λ x y z q p. inr (y, q.0, p))
    (λ x y z q p. ((y, q.0, p), q.1.is ∙ same))

-- where it is known what new names stand for
abbrev Knowing : (Disk → Disk → Type 0) → Disk → Disk → Type 0
Knowing R x y = KnowsNewNames x → R x y

where_known : (P Q : Disk → Disk → Type 0) (a c : Option DiskHistory) → HoldsNow a KnowsNewNames → RunsCalls a c (Knowing P) (Knowing Q) → RunsCalls a c P Q
where_known P Q a c known run = known_start (Knowing P) (Knowing Q) P Q KnowsNewNames a c known run (λ x y f p. p f) (λ x y f p. p f)

-- a new file's name is its own
pub record IsOwn (own name : List ℕ) : Type 0 where
  pub is_new : IsNewName own name
  pub apart : own ≢ name

made_beside : (own name : List ℕ) (n : FileId) (x y : Disk) → IsOwn own name → MakesFile own n x y → KnowsNewNames x → x.links.is_link name ≡ false → IsBeside own name x
made_beside own name n x y is made known direct = is_beside own name x is.is_new is.apart known direct made.direct made.beside.unnamed

rest_beside : (own name : List ℕ) (n : FileId) (x y : Disk) → IsOwn own name → HasBeside own n x y → KnowsNewNames x → x.links.is_link name ≡ false → IsBeside own name x
rest_beside own name n x y is rest known direct = is_beside own name x is.is_new is.apart known direct rest.direct rest.beside.unnamed

-- the new file takes the place
pub replaces : (own name bytes : List ℕ) (mode : Option ℕ) (n found : FileId) (a b c : Option DiskHistory) → IsOwn own name → HoldsNow a KnowsNewNames
    → ChangesDisk a b (MakesFile own n) → RunsCalls b c (AtPlacing own name n mode bytes) (PlacesFileAs own name n mode bytes found)
    → RunsCalls a c (WhereDirect name (AtMoment name bytes mode)) (WhereDirect name (IsWritten name bytes mode found))
replaces own name bytes mode n found a b c is known ab bc = where_known _ _ a c known
    (runs_on _ _ _ _ (Knowing (WhereDirect name (AtMoment name bytes mode))) (Knowing (WhereDirect name (IsWritten name bytes mode found))) a b c (one_step (MakesFile own n) a b ab) bc
    (λ x y p k direct. at_made own name bytes mode n x y (made_beside own name n x y is p k direct) p)
    (λ x y z q p k direct. ⊎_elim (λ d. at_disturbed own name bytes mode n x y z (made_beside own name n x y is q k direct) q d) (λ pl. at_once x y z q pl k direct) p)
    (λ x y z q p k direct. subst (λ (k : FileId). IsWritten name bytes mode k x z) (sym p.1) (at_last x y z q p.0 direct)))
  where
    at_once : (x y z : Disk) → MakesFile own n x y → PlacesFile own name n mode bytes y z → KnowsNewNames x → x.links.is_link name ≡ false → AtMoment name bytes mode x z
    at_once x y z q p k direct =
        let ready = made_then_filled own bytes mode n x y p.0 q p.1 in
        at_placed own name bytes mode n x p.0 z (made_beside own name n x y is q k direct) ready
        (p.2 (still_direct x p.0 own ready.beside.links ready.direct) (still_direct x p.0 name ready.beside.links direct))

    at_last : (x y z : Disk) → MakesFile own n x y → PlacesFile own name n mode bytes y z → x.links.is_link name ≡ false → IsWritten name bytes mode n x z
    at_last x y z q p direct =
        let ready = made_then_filled own bytes mode n x y p.0 q p.1 in
        is_written own name bytes mode n x p.0 z ready (p.2 (still_direct x p.0 own ready.beside.links ready.direct) (still_direct x p.0 name ready.beside.links direct))

-- the new file is given up
gives_up : (own name bytes : List ℕ) (mode : Option ℕ) (n : FileId) (a b c : Option DiskHistory) → IsOwn own name → ChangesDisk a b (MakesFile own n)
    → RunsCalls b c (ChangesOnlyFile n) (ChangesOnlyFile n) → RunsCalls a c (Knowing (WhereDirect name (AtMoment name bytes mode))) (HasBeside own n)
gives_up own name bytes mode n a b c is ab bc =
    runs_on _ _ _ _ _ _ a b c (one_step (MakesFile own n) a b ab) bc
    (λ x y p k direct. at_made own name bytes mode n x y (made_beside own name n x y is p k direct) p)
    (λ x y z q p k direct. at_disturbed own name bytes mode n x y z (made_beside own name n x y is q k direct) q p)
    (λ x y z q p. made_then_disturbed own n x y z q p)

removes : (own name bytes : List ℕ) (mode : Option ℕ) (n : FileId) (a b c d : Option DiskHistory) → IsOwn own name → HoldsNow a KnowsNewNames → ChangesDisk a b (MakesFile own n)
    → RunsCalls b c (ChangesOnlyFile n) (ChangesOnlyFile n) → ChangesDisk c d (RemovesUnlessLink own) → RunsCalls a d (WhereDirect name (AtMoment name bytes mode)) (WhereDirect name (IsAsBefore name))
removes own name bytes mode n a b c d is known ab bc cd = where_known _ _ a d known
    (runs_on _ _ _ _ (Knowing (WhereDirect name (AtMoment name bytes mode))) (Knowing (WhereDirect name (IsAsBefore name))) a c d
    (gives_up own name bytes mode n a b c is ab bc) (one_step (RemovesUnlessLink own) c d cd)
    (λ x y p. p)
    (λ x y z q p k direct. at_same own name bytes mode x z (rest_beside own name n x y is q k direct) (is_same x y z q p))
    (λ x y z q p k direct. inl (is_same x y z q p)))
  where
    is_same : (x y z : Disk) → HasBeside own n x y → RemovesUnlessLink own y z → IsSame x z
    is_same x y z q p = removed_same own n q.node x y z q.beside (p (still_direct x y own q.beside.links q.direct))

refuses : (own name bytes : List ℕ) (mode : Option ℕ) (n : FileId) (a b c d : Option DiskHistory) → IsOwn own name → HoldsNow a KnowsNewNames → ChangesDisk a b (MakesFile own n)
    → RunsCalls b c (ChangesOnlyFile n) (ChangesOnlyFile n) → ChangesDisk c d (RefusesRemoval own) → RunsCalls a d (WhereDirect name (AtMoment name bytes mode)) (WhereDirect name (IsAsBefore name))
refuses own name bytes mode n a b c d is known ab bc cd = where_known _ _ a d known
    (runs_on _ _ _ _ (Knowing (WhereDirect name (AtMoment name bytes mode))) (Knowing (WhereDirect name (IsAsBefore name))) a c d
    (gives_up own name bytes mode n a b c is ab bc) (one_step (RefusesRemoval own) c d cd)
    (λ x y p. p)
    (λ x y z q p k direct. at_rest name bytes mode x z (has_rest x y z q p k direct))
    (λ x y z q p k direct. inr (has_rest x y z q p k direct)))
  where
    has_rest : (x y z : Disk) → HasBeside own n x y → RefusesRemoval own y z → KnowsNewNames x → x.links.is_link name ≡ false → HasRest name x z
    has_rest x y z q p k direct = refused_rest own name n q.node x y z (rest_beside own name n x y is q k direct) q.beside p

pub gave_up : {T E : Type 0} → (result : Result T E) (own given name bytes : List ℕ) (mode : Option ℕ) (n : FileId) (a b c d : Option DiskHistory) → IsOwn own name
    → HoldsNow a KnowsNewNames → ChangesDisk a b (MakesFile own n) → RunsCalls b c (ChangesOnlyFile n) (ChangesOnlyFile n) → given ≡ own → OnOk result (ChangesDisk c d (RemovesUnlessLink given))
    → OnErr result (ChangesDisk c d (RefusesRemoval given)) → RunsCalls a d (WhereDirect name (AtMoment name bytes mode)) (WhereDirect name (IsAsBefore name))
gave_up (Ok value) own given name bytes mode n a b c d is known ab bc same ok err = removes own name bytes mode n a b c d is known ab bc
    (subst (λ (l : List ℕ). ChangesDisk c d (RemovesUnlessLink l)) same ok)
gave_up (Err error) own given name bytes mode n a b c d is known ab bc same ok err = refuses own name bytes mode n a b c d is known ab bc
    (subst (λ (l : List ℕ). ChangesDisk c d (RefusesRemoval l)) same err)

pub nothing_done : (name bytes : List ℕ) (mode : Option ℕ) (a b : Option DiskHistory) → KeepsDisk a b → RunsCalls a b (WhereDirect name (AtMoment name bytes mode)) (WhereDirect name (IsAsBefore name))
nothing_done name bytes mode a b ab = no_step _ _ a b ab (λ x direct. inl (record { links = refl; refused = refl; names = λ other. (refl, refl) }))
