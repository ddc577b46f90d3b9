-- The read faults of files in memory, where no name is noted more.
use Rattle.std.proofs.Common.{◌≡◌, ◌≢◌, ℕ, ◌+◌, ◌≤◌, List, [], ◌∷◌, ◌++◌, String, string_bytes, ap, arith}
use Rattle.std.proofs.lemmas.Grind.{common_steps}
use Rattle.std.proofs.lemmas.Slice.Eq.{bytes_eq-Decides}
use Rattle.std.specs.declared.alloc.Global.{Global}
use Rattle.pg_outside.specs.Faults.{next_count}
use Rattle.pg_outside.specs.Inside.memory.MissingNames.{times_in}

module _ (before now : List (String Global)) (failed faults : ℕ) (same : now ≡ before) where
  pub reads_later : failed ≤ faults → (name : List ℕ) → failed + times_in before name ≤ faults + times_in now name
  reads_later later name = let times = ap (λ (names : List (String Global)). times_in names name) same in omega arith

  pub reads_by_one : faults ≤ failed + 1 → (name : List ℕ) → faults + times_in now name ≤ failed + times_in before name + 1
  reads_by_one by_one name = let times = ap (λ (names : List (String Global)). times_in names name) same in omega arith

  pub reads_same : faults ≡ failed → (name : List ℕ) → faults + times_in now name ≡ failed + times_in before name
  reads_same as_before name = let times = ap (λ (names : List (String Global)). times_in names name) same in omega arith

  pub reads_rose : faults ≡ next_count failed → (name : List ℕ) → next_count (failed + times_in before name) ≤ faults + times_in now name
  reads_rose rose name = let times = ap (λ (names : List (String Global)). times_in names name) same in omega arith

-- one name more is noted
module _ (before after : List (String Global)) (held : String Global) (is : after ≡ before ++ held ∷ []) where
  pub noted : (name : List ℕ) → string_bytes held ≡ name → times_in after name ≡ times_in before name + 1
  noted name same = grind (arith, common_steps, bytes_eq-Decides)

  pub noted_others : (name : List ℕ) → string_bytes held ≡ name → (other : List ℕ) → other ≢ name → times_in after other ≡ times_in before other
  noted_others name same other apart = grind (arith, common_steps, bytes_eq-Decides)

  pub noted_later : (other : List ℕ) → times_in before other ≤ times_in after other
  noted_later other = grind (arith, common_steps)

  pub noted_by_one : (other : List ℕ) → times_in after other ≤ times_in before other + 1
  noted_by_one other = grind (arith, common_steps)
