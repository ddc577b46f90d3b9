-- What trying one name after the other has come to.
use Rattle.std.proofs.Common.{◌≡◌, ◌⊎◌, inl, inr, ⊎_elim, ◌+◌, ◌<◌, ◌≤◌, ℕ, List, ◌∷◌, ◌++◌, Option, Some, None, sym, subst, arith}
use Rattle.std.specs.Fmt.{decimal}
use Rattle.std.proofs.lemmas.Bool.{cases_lt}
use Rattle.std.proofs.lemmas.Grind.{common_steps}
use Rattle.pg_outside.specs.Inside.disk.Disks.{Disk, DiskHistory, KeepsDisk, HoldsNow, IsNameTaken}
use Rattle.pg_outside.specs.Inside.disk.Writes.{AreAllTaken}
use Rattle.pg_outside.specs.Inside.disk.NewNames.{IsFolderOf, new_name}
use Rattle.pg_outside.proofs.Runs.{keeps_self, keeps_now, now_weaker, now_always}

-- the name as the code puts it together
pub is_named : (own folder : List ℕ) (counted : ℕ) → own ≡ folder ++ (112 ∷ 97 ∷ 116 ∷ 103 ∷ 101 ∷ 110 ∷ 45 ∷ 110 ∷ 101 ∷ 119 ∷ 45 ∷ decimal counted) → own ≡ new_name folder counted
is_named own folder counted is = grind (arith, common_steps, is)

-- the name is taken, or is the one whose place is to be taken
abbrev pub IsTried : List ℕ → List ℕ → ℕ → Disk → Type 0
IsTried folder name counted disk = IsNameTaken (new_name folder counted) disk ⊎ (name ≡ new_name folder counted)

-- each name so far was tried
pub record HasTried (told : Option DiskHistory) (folder name : List ℕ) (tried : ℕ) : Type 0 where
  pub each : (counted : ℕ) → counted < tried → HoldsNow told (IsTried folder name counted)

pub none_tried : (told : Option DiskHistory) (folder name : List ℕ) → HasTried told folder name 0
none_tried told folder name = record { each = λ counted below. absurd (omega arith) }

pub below_or_last : (m n : ℕ) → m < n + 1 → (m < n) ⊎ (m ≡ n)
below_or_last m n below = ⊎_elim (λ (lt : m < n). inl lt) (λ (le : n ≤ m). inr (omega arith)) (cases_lt m n)

one_more : (a b : Option DiskHistory) (folder name : List ℕ) (tried next : ℕ) → KeepsDisk a b → next ≡ tried + 1 → HasTried a folder name tried
    → HoldsNow b (IsTried folder name tried) → HasTried b folder name next
one_more a b folder name tried next ab is so_far last = record {
  each = λ counted below. ⊎_elim
      (λ (before : counted < tried). keeps_now _ a b (so_far.each counted before) ab)
      (λ same. subst (λ (k : ℕ). HoldsNow b (IsTried folder name k)) (sym same) last)
      (below_or_last counted tried (subst (λ (k : ℕ). counted < k) is below));
}

pub skipped : (a : Option DiskHistory) (folder name : List ℕ) (tried next : ℕ) → next ≡ tried + 1 → HasTried a folder name tried → new_name folder tried ≡ name → HasTried a folder name next
skipped a folder name tried next is so_far same = one_more a a folder name tried next (keeps_self a) is so_far (now_always (IsTried folder name tried) a (λ d. inr (sym same)))

pub taken : (a b : Option DiskHistory) (own folder name : List ℕ) (tried next : ℕ) → KeepsDisk a b → next ≡ tried + 1 → own ≡ new_name folder tried
    → HasTried a folder name tried → HoldsNow b (IsNameTaken own) → HasTried b folder name next
taken a b own folder name tried next ab is named so_far is_taken = one_more a b folder name tried next ab is so_far
    (now_weaker _ _ b (subst (λ (n : List ℕ). HoldsNow b (IsNameTaken n)) named is_taken) (λ d t. inl t))

below_all : (m n : ℕ) → m < 1000 → 1000 ≤ n → m < n
below_all m n below all = omega arith

pub all_taken : (told : Option DiskHistory) (folder name : List ℕ) (tried : ℕ) → IsFolderOf folder name → 1000 ≤ tried → HasTried told folder name tried → HoldsNow told (AreAllTaken name)
all_taken None folder name tried is all so_far = tt
all_taken (Some t) folder name tried is all so_far = record { folder = folder; is_folder = is; taken = λ counted below. so_far.each counted (below_all counted tried below all) }
