-- What writes to one file make of a disk.
use Rattle.std.proofs.Common.{◌≡◌, ℕ, List, [], ◌++◌, take, true, Option, Some, None, refl, sym, ap, ◌∙◌, append_assoc, append-nil}
use Rattle.pg_outside.specs.Inside.disk.Disks.{Node, Disk, SetsFile, AppendsBytes, AppendsFront, ChangesOnlyFile, SyncsFile, SetsMode}
use Rattle.pg_outside.specs.Inside.disk.Moments.{HasMode, FillsFile}
use Rattle.pg_outside.specs.declared.disk.system.FileId.{FileId}

pub set_again : (n : FileId) (x y : Node) (a b c : Disk) → SetsFile n x a b → SetsFile n y b c → SetsFile n y a c
set_again n x y a b c ab bc = record {
  links = bc.links ∙ ab.links;
  names = bc.names ∙ ab.names;
  refused = bc.refused ∙ ab.refused;
  file = bc.file;
  others = λ other apart. bc.others other apart ∙ ab.others other apart;
}

pub disturbed_on : (n : FileId) (a b c : Disk) → ChangesOnlyFile n a b → ChangesOnlyFile n b c → ChangesOnlyFile n a c
disturbed_on n a b c ab bc = λ node is.
    let first = ab node is in
    let then = bc first.0 first.1.file in
    (then.0, set_again n first.0 then.0 a b c first.1 then.1)

pub wrote_disturbed : (n : FileId) (bytes : List ℕ) (a b : Disk) → AppendsBytes n bytes a b → ChangesOnlyFile n a b
wrote_disturbed n bytes a b ab = λ node is. let w = ab node is in (w.0, w.1)

pub part_disturbed : (n : FileId) (bytes : List ℕ) (a b : Disk) → AppendsFront n bytes a b → ChangesOnlyFile n a b
part_disturbed n bytes a b ab = wrote_disturbed n (take ab.0 bytes) a b ab.1

pub wrote_nothing : (n : FileId) (a : Disk) → AppendsBytes n [] a a
wrote_nothing n a = λ node is. (node, record { links = refl; names = refl; refused = refl; file = is; others = λ other apart. refl }, refl, refl, append_none node.bytes)
  where
    append_none : (xs : List ℕ) → xs ≡ xs ++ []
    append_none xs = sym (append-nil xs)

pub wrote_on : (n : FileId) (xs ys : List ℕ) (a b c : Disk) → AppendsBytes n xs a b → AppendsBytes n ys b c → AppendsBytes n (xs ++ ys) a c
wrote_on n xs ys a b c ab bc = λ node is.
    let first = ab node is in
    let then = bc first.0 first.1.file in (
      then.0,
      set_again n first.0 then.0 a b c first.1 then.1,
      then.2 ∙ first.2,
      then.3 ∙ first.3,
      then.4 ∙ ap (λ (l : List ℕ). l ++ ys) first.4 ∙ append_assoc node.bytes xs ys,
    )

pub got_mode : (n : FileId) (m : ℕ) (a b : Disk) → SetsMode n m a b → HasMode n (Some m) a b
got_mode n m a b ab = λ node is. ab node is

pub no_mode : (n : FileId) (a : Disk) → HasMode n None a a
no_mode n a = λ node is. (node, record { links = refl; names = refl; refused = refl; file = is; others = λ other apart. refl }, refl, refl, refl)

pub got_mode_disturbed : (n : FileId) (m : ℕ) (a b : Disk) → SetsMode n m a b → ChangesOnlyFile n a b
got_mode_disturbed n m a b ab = λ node is. let w = ab node is in (w.0, w.1)

pub mode_disturbed : (n : FileId) (mode : Option ℕ) (a b : Disk) → HasMode n mode a b → ChangesOnlyFile n a b
mode_disturbed n mode a b ab = λ node is. let w = ab node is in (w.0, w.1)

pub stored_disturbed : (n : FileId) (a b : Disk) → SyncsFile n a b → ChangesOnlyFile n a b
stored_disturbed n a b ab = λ node is. (record node { is_stored = true }, ab node is)

pub filled_disturbed : (n : FileId) (mode : Option ℕ) (bytes : List ℕ) (a b : Disk) → FillsFile n mode bytes a b → ChangesOnlyFile n a b
filled_disturbed n mode bytes a b ab = λ node is. let w = ab node is in (w.0, w.1)

pub filled_on : (n : FileId) (mode : Option ℕ) (bytes : List ℕ) (a b c d : Disk) → HasMode n mode a b → AppendsBytes n bytes b c → SyncsFile n c d → FillsFile n mode bytes a d
filled_on n mode bytes a b c d ab bc cd = λ node is.
    let first = ab node is in
    let then = bc first.0 first.1.file in
    let last = cd then.0 then.1.file in (
      record then.0 { is_stored = true },
      set_again n then.0 (record then.0 { is_stored = true }) a c d (set_again n first.0 then.0 a b c first.1 then.1) last,
      then.2 ∙ first.2,
      then.4 ∙ ap (λ (l : List ℕ). l ++ bytes) first.3,
      refl,
      then.3 ∙ first.4,
    )
