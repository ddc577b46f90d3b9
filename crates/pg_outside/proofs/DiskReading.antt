-- What a read by name says of a disk, from what the calls say of the file that was opened.
use Rattle.std.proofs.Common.{◌≡◌, ◌⊎◌, inl, inr, ⊎_elim, ℕ, List, [], ◌∷◌, ◌++◌, true, Option, Some, IfSome, sym, ap, subst, ◌∙◌}
use Rattle.pg_outside.specs.Inside.disk.Disks.{Node, Disk, DiskHistory, KeepsDisk, HoldsNow, LeadsTo, IsOpened, IsStat, node_at, node_of}
use Rattle.pg_outside.specs.Inside.disk.Reads.{IsAllOf, IsFrontOf}
use Rattle.pg_outside.specs.Inside.disk.Writes.{IsIn, IsPlain, IsContent, IsContentCut, IsNoted, KeepsOnly, WasKept}
use Rattle.pg_outside.specs.declared.disk.system.FileId.{FileId}
use Rattle.pg_outside.specs.declared.disk.system.FileStatus.{FileStatus}
use Rattle.pg_outside.proofs.Runs.{keeps_now, now_both, now_weaker}

same_id : (m n : FileId) → Some m ≡ Some n → m ≡ n
same_id m n e = cc

node_there : (name : List ℕ) (id : FileId) (node : Node) (d : Disk) → LeadsTo name id d → d.files id ≡ Some node → node_at d name ≡ Some node
node_there name id node d leads there = ap (λ (k : Option FileId). node_of k d.files) leads ∙ there

pub reads_content : (name bytes : List ℕ) (id : FileId) (a b : Option DiskHistory) → HoldsNow a (IsOpened name id) → KeepsDisk a b → HoldsNow b (IsAllOf id bytes) → HoldsNow b (IsContent name bytes)
reads_content name bytes id a b opened ab all =
    now_weaker _ _ b (now_both _ _ b (keeps_now _ a b opened ab) all)
    (λ d s. record { node = s.0.node; there = node_there name id s.0.node d s.0.leads s.0.there; all = s.1 s.0.node s.0.there })

pub reads_front : (name bytes : List ℕ) (limit : ℕ) (id : FileId) (a b : Option DiskHistory) → HoldsNow a (IsOpened name id) → KeepsDisk a b
    → HoldsNow b (IsFrontOf id limit bytes) → HoldsNow b (IsContentCut name limit bytes)
reads_front name bytes limit id a b opened ab front =
    now_weaker _ _ b (now_both _ _ b (keeps_now _ a b opened ab) front)
    (λ d s. let f = s.1 s.0.node s.0.there in record { node = s.0.node; there = node_there name id s.0.node d s.0.leads s.0.there; longer = f.0; front = f.1 })

-- what was opened, and what the system says of it
stat_of : (name : List ℕ) (id : FileId) (seen : FileStatus) (a b : Option DiskHistory) → HoldsNow a (IsOpened name id) → KeepsDisk a b → HoldsNow b (IsStat id seen)
    → HoldsNow b (λ d. IsOpened name id d × IsStat id seen d)
stat_of name id seen a b opened ab stat = now_both _ _ b (keeps_now _ a b opened ab) stat

-- a regular file that was opened is kept in mind
pub is_noted : (name : List ℕ) (id : FileId) (seen : FileStatus) (kept : List FileId) (a b c : Option DiskHistory) → HoldsNow a (IsOpened name id) → KeepsDisk a b
    → HoldsNow b (IsStat id seen) → (seen.is_regular ≡ true → IsIn seen.id kept) → KeepsDisk b c → HoldsNow c (IsNoted name kept)
is_noted name id seen kept a b c opened ab stat noted bc =
    now_weaker _ _ c (keeps_now _ b c (stat_of name id seen a b opened ab stat) bc) (λ d s n leads plain. noted_at d n s.0 s.1 leads plain)
  where
    noted_at : (d : Disk) (n : FileId) → IsOpened name id d → IsStat id seen d → LeadsTo name n d → IsPlain name d → IsIn n kept
    noted_at d n opened stat leads plain =
        let regular = subst (λ (o : Option Node). IfSome o (λ node. node.is_regular ≡ true)) (node_there name id stat.node d opened.leads stat.there) plain in
        subst (λ (k : FileId). IsIn k kept) (stat.is ∙ same_id id n (sym opened.leads ∙ leads)) (noted (sym stat.kind ∙ regular))

leads_seen : (name : List ℕ) (id : FileId) (seen : FileStatus) (d : Disk) → IsOpened name id d → IsStat id seen d → LeadsTo name seen.id d
leads_seen name id seen d opened stat = opened.leads ∙ ap (λ (k : FileId). Some k) (sym stat.is)

pub keeps_only : (name : List ℕ) (id : FileId) (seen : FileStatus) (before kept : List FileId) (a b c : Option DiskHistory) → HoldsNow a (IsOpened name id) → KeepsDisk a b
    → HoldsNow b (IsStat id seen) → (kept ≡ before) ⊎ (kept ≡ before ++ seen.id ∷ []) → KeepsDisk b c → HoldsNow c (KeepsOnly name before kept)
keeps_only name id seen before kept a b c opened ab stat only bc =
    now_weaker _ _ c (keeps_now _ b c (stat_of name id seen a b opened ab stat) bc)
    (λ d s. ⊎_elim (λ (same : kept ≡ before). inl same) (λ (grown : kept ≡ before ++ seen.id ∷ []). inr (seen.id, grown, leads_seen name id seen d s.0 s.1)) only)

-- a regular file that was opened was kept in mind before
pub was_kept : (name : List ℕ) (id : FileId) (seen : FileStatus) (kept : List FileId) (a b : Option DiskHistory) → HoldsNow a (IsOpened name id) → KeepsDisk a b
    → HoldsNow b (IsStat id seen) → seen.is_regular ≡ true → IsIn seen.id kept → HoldsNow b (WasKept name kept)
was_kept name id seen kept a b opened ab stat regular is =
    now_weaker _ _ b (stat_of name id seen a b opened ab stat) (λ d s. (
      seen.id,
      record {
        leads = leads_seen name id seen d s.0 s.1;
        plain = subst (λ (o : Option Node). IfSome o (λ node. node.is_regular ≡ true)) (sym (node_there name id s.1.node d s.0.leads s.1.there)) (s.1.kind ∙ regular);
        is_kept = is;
      },
    ))
