-- What a disk in memory tells after a change, and after a call that makes none.
use Rattle.std.proofs.Common.{◌≡◌, List, ◌∷◌, Bool, true, false, Some, refl, sym, subst}
use Rattle.std.proofs.lemmas.Bool.{false≢true}
use Rattle.pg_outside.specs.Inside.disk.Disks.{Disk, KeepsDisk, ChangesDisk, HoldsNow}
use Rattle.pg_told_disk.specs.Inside.Changes.{disk_in, told_in}
use Rattle.pg_told_disk.specs.Inside.Memory.{told_where}
use Rattle.pg_told_disk.specs.declared.change.Change.{Change}
use Rattle.pg_told_disk.specs.declared.links.Link.{Link}

pub steps : (b b2 : Bool) (links links2 : List Link) (log log2 : List Change) (change : Change) (R : Disk → Disk → Type 0) → (b2 ≡ true → b ≡ true)
    → links2 ≡ links → (b2 ≡ true → log2 ≡ change ∷ log) → R (disk_in links log) (disk_in links (change ∷ log)) → ChangesDisk (told_where b links log) (told_where b2 links2 log2) R
steps b false links links2 log log2 change R told same is r = tt
steps false true links links2 log log2 change R told same is r = absurd (false≢true (told refl))
steps true true links links2 log log2 change R told same is r =
    subst (λ (l : List Link). ChangesDisk (Some (told_in links log)) (Some (told_in l log2)) R) (sym same)
    (subst (λ (l : List Change). ChangesDisk (Some (told_in links log)) (Some (told_in links l)) R) (sym (is refl)) (refl, r))

pub keeps : (b : Bool) (links : List Link) (log : List Change) → KeepsDisk (told_where b links log) (told_where b links log)
keeps true links log = refl
keeps false links log = tt

pub told_now : (b : Bool) (links : List Link) (log : List Change) (F : Disk → Type 0) → F (disk_in links log) → HoldsNow (told_where b links log) F
told_now true links log F f = f
told_now false links log F f = tt
