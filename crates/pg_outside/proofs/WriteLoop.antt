-- What a loop of writes has done so far.
use Rattle.std.proofs.Common.{◌≡◌, ◌==◌, ℕ, ◌+◌, List, take, drop, length, true, Option, refl, sym, subst, ◌∙◌, arith}
use Rattle.std.proofs.Math.Seq.{take-add}
use Rattle.std.proofs.lemmas.Grind.{common_steps}
use Rattle.pg_outside.specs.Inside.disk.Disks.{Disk, DiskHistory, ChangesDisk, AppendsBytes, AppendsFront, ChangesOnlyFile, SyncsFile}
use Rattle.pg_outside.specs.Inside.disk.Moments.{RunsCalls, HasMode, FillsFile}
use Rattle.pg_outside.proofs.Runs.{runs_on, one_step, no_step, keeps_self, runs_weaker}
use Rattle.pg_outside.proofs.FileSteps.{disturbed_on, wrote_disturbed, part_disturbed, wrote_nothing, wrote_on, mode_disturbed, stored_disturbed, filled_on}
use Rattle.pg_outside.specs.declared.disk.system.FileId.{FileId}

-- the bytes that were written so far, and those that are left
pub record HasWritten (before now : Option DiskHistory) (file same : FileId) (bytes rest : List ℕ) : Type 0 where
  pub same_file : same ≡ file
  pub done : ℕ
  pub left : rest ≡ drop done bytes
  pub runs : RunsCalls before now (AppendsFront file bytes) (AppendsBytes file (take done bytes))

-- before the first write
pub written_none : (told : Option DiskHistory) (file : FileId) (bytes : List ℕ) → HasWritten told told file file bytes bytes
written_none told file bytes = record { same_file = refl; done = 0; left = refl; runs = no_step _ _ told told (keeps_self told) (λ d. wrote_nothing file d) }

-- the next bytes behind those that were written
wrote_next : (n : FileId) (bytes : List ℕ) (done count : ℕ) (a b c : Disk) → AppendsBytes n (take done bytes) a b
    → AppendsBytes n (take count (drop done bytes)) b c → AppendsBytes n (take (done + count) bytes) a c
wrote_next n bytes done count a b c ab bc =
    subst (λ (l : List ℕ). AppendsBytes n l a c) (sym (take-add done count bytes)) (wrote_on n (take done bytes) (take count (drop done bytes)) a b c ab bc)

-- a call that writes behind what was written
pub writes_on : (n : FileId) (bytes : List ℕ) (done count : ℕ) (a b c : Option DiskHistory) → RunsCalls a b (AppendsFront n bytes) (AppendsBytes n (take done bytes))
    → ChangesDisk b c (AppendsBytes n (take count (drop done bytes))) → RunsCalls a c (AppendsFront n bytes) (AppendsBytes n (take (done + count) bytes))
writes_on n bytes done count a b c ab bc =
    runs_on _ _ _ _ _ _ a b c ab (one_step (AppendsBytes n (take count (drop done bytes))) b c bc)
    (λ x y p. p)
    (λ x y z q p. (done + count, wrote_next n bytes done count x y z q p))
    (λ x y z q p. wrote_next n bytes done count x y z q p)

-- a call that fails after what was written
pub fails_on : (n : FileId) (bytes : List ℕ) (done : ℕ) (a b c : Option DiskHistory) → RunsCalls a b (AppendsFront n bytes) (AppendsBytes n (take done bytes))
    → ChangesDisk b c (AppendsFront n (drop done bytes)) → RunsCalls a c (AppendsFront n bytes) (AppendsFront n bytes)
fails_on n bytes done a b c ab bc =
    runs_on _ _ _ _ _ _ a b c ab (one_step (AppendsFront n (drop done bytes)) b c bc)
    (λ x y p. p)
    (λ x y z q p. (done + p.0, wrote_next n bytes done p.0 x y z q p.1))
    (λ x y z q p. (done + p.0, wrote_next n bytes done p.0 x y z q p.1))

pub written_step : (before now after : Option DiskHistory) (file same next : FileId) (bytes rest left : List ℕ) (count : ℕ) → HasWritten before now file same bytes rest
    → next ≡ same → ChangesDisk now after (AppendsBytes same (take count rest)) → left ≡ drop count rest → HasWritten before after file next bytes left
written_step before now after file same next bytes rest left count so_far is steps rests = record {
  same_file = is ∙ so_far.same_file;
  done = so_far.done + count;
  left = let l = so_far.left in grind (arith, common_steps);
  runs = writes_on file bytes so_far.done count before now after so_far.runs
      (subst (λ (l : List ℕ). ChangesDisk now after (AppendsBytes file (take count l))) so_far.left
      (subst (λ (n : FileId). ChangesDisk now after (AppendsBytes n (take count rest))) so_far.same_file steps));
}

pub written_then_failed : (before now after : Option DiskHistory) (file same : FileId) (bytes rest : List ℕ) → HasWritten before now file same bytes rest
    → ChangesDisk now after (AppendsFront same rest) → RunsCalls before after (AppendsFront file bytes) (AppendsFront file bytes)
written_then_failed before now after file same bytes rest so_far steps =
    fails_on file bytes so_far.done before now after so_far.runs
    (subst (λ (l : List ℕ). ChangesDisk now after (AppendsFront file l)) so_far.left
    (subst (λ (n : FileId). ChangesDisk now after (AppendsFront n rest)) so_far.same_file steps))

pub written_part : (before now : Option DiskHistory) (file same : FileId) (bytes rest : List ℕ) → HasWritten before now file same bytes rest
    → RunsCalls before now (AppendsFront file bytes) (AppendsFront file bytes)
written_part before now file same bytes rest so_far =
    runs_weaker _ _ _ _ before now so_far.runs (λ x y p. p) (λ x y q. (so_far.done, q))

all_taken : (done : ℕ) (bytes rest : List ℕ) → rest ≡ drop done bytes → (length rest == 0) ≡ true → take done bytes ≡ bytes
all_taken done bytes rest left none = grind (arith, common_steps)

pub written_whole : (before now : Option DiskHistory) (file same : FileId) (bytes rest : List ℕ) → HasWritten before now file same bytes rest → (length rest == 0) ≡ true
    → RunsCalls before now (AppendsFront file bytes) (AppendsBytes file bytes)
written_whole before now file same bytes rest so_far none =
    subst (λ (l : List ℕ). RunsCalls before now (AppendsFront file bytes) (AppendsBytes file l)) (all_taken so_far.done bytes rest so_far.left none) so_far.runs

-- the bytes behind the permissions
pub mode_then_bytes : (n m : FileId) (mode : Option ℕ) (bytes : List ℕ) (a b c : Option DiskHistory) → RunsCalls a b (ChangesOnlyFile n) (HasMode n mode) → m ≡ n
    → RunsCalls b c (AppendsFront m bytes) (AppendsBytes m bytes) → RunsCalls a c (ChangesOnlyFile n) (λ x z. (y : Disk) × HasMode n mode x y × AppendsBytes n bytes y z)
mode_then_bytes n m mode bytes a b c ab is bc =
    runs_on _ _ _ _ _ _ a b c ab (subst (λ (k : FileId). RunsCalls b c (AppendsFront k bytes) (AppendsBytes k bytes)) is bc)
    (λ x y p. p)
    (λ x y z q p. disturbed_on n x y z (mode_disturbed n mode x y q) (part_disturbed n bytes y z p))
    (λ x y z q w. (y, q, w))

-- a call fails behind the permissions
pub mode_then_failed : (n m : FileId) (mode : Option ℕ) (bytes : List ℕ) (a b c : Option DiskHistory) → RunsCalls a b (ChangesOnlyFile n) (HasMode n mode) → m ≡ n
    → RunsCalls b c (AppendsFront m bytes) (AppendsFront m bytes) → RunsCalls a c (ChangesOnlyFile n) (ChangesOnlyFile n)
mode_then_failed n m mode bytes a b c ab is bc =
    runs_on _ _ _ _ _ _ a b c ab (subst (λ (k : FileId). RunsCalls b c (AppendsFront k bytes) (AppendsFront k bytes)) is bc)
    (λ x y p. p)
    (λ x y z q p. disturbed_on n x y z (mode_disturbed n mode x y q) (part_disturbed n bytes y z p))
    (λ x y z q p. disturbed_on n x y z (mode_disturbed n mode x y q) (part_disturbed n bytes y z p))

-- permissions, bytes, and the device has them
pub fills : (n m k : FileId) (mode : Option ℕ) (bytes : List ℕ) (a b c d : Option DiskHistory) → RunsCalls a b (ChangesOnlyFile n) (HasMode n mode) → m ≡ n
    → RunsCalls b c (AppendsFront m bytes) (AppendsBytes m bytes) → k ≡ m → ChangesDisk c d (SyncsFile k) → RunsCalls a d (ChangesOnlyFile n) (FillsFile n mode bytes)
fills n m k mode bytes a b c d ab is bc same cd =
    runs_on _ _ _ _ _ _ a c d (mode_then_bytes n m mode bytes a b c ab is bc) (one_step (SyncsFile n) c d (subst (λ (j : FileId). ChangesDisk c d (SyncsFile j)) (same ∙ is) cd))
    (λ x y p. p)
    (λ x y z q p. disturbed_on n x y z (disturbed_on n x q.0 y (mode_disturbed n mode x q.0 q.1) (wrote_disturbed n bytes q.0 y q.2)) (stored_disturbed n y z p))
    (λ x y z q p. filled_on n mode bytes x q.0 y z q.1 q.2 p)

pub fill_fails : (n m k : FileId) (mode : Option ℕ) (bytes : List ℕ) (a b c d : Option DiskHistory) → RunsCalls a b (ChangesOnlyFile n) (HasMode n mode) → m ≡ n
    → RunsCalls b c (AppendsFront m bytes) (AppendsBytes m bytes) → k ≡ m → ChangesDisk c d (ChangesOnlyFile k) → RunsCalls a d (ChangesOnlyFile n) (ChangesOnlyFile n)
fill_fails n m k mode bytes a b c d ab is bc same cd =
    runs_on _ _ _ _ _ _ a c d (mode_then_bytes n m mode bytes a b c ab is bc) (one_step (ChangesOnlyFile n) c d (subst (λ (j : FileId). ChangesDisk c d (ChangesOnlyFile j)) (same ∙ is) cd))
    (λ x y p. p)
    (λ x y z q p. disturbed_on n x y z (disturbed_on n x q.0 y (mode_disturbed n mode x q.0 q.1) (wrote_disturbed n bytes q.0 y q.2)) p)
    (λ x y z q p. disturbed_on n x y z (disturbed_on n x q.0 y (mode_disturbed n mode x q.0 q.1) (wrote_disturbed n bytes q.0 y q.2)) p)
