-- The least window above another is counted.
use Rattle.std.proofs.Common.{◌≡◌, ℕ, Bool, true, false, cond, List, [], ◌∷◌, is_some, Option, Some, None, refl, ap, ◌∙◌}
use Rattle.std.specs.Ordering.{is_lt, is_eq, eq_by_cmp}
use Rattle.std.specs.Cmp.Lexicographic.{nat_list_cmp_total}
use Rattle.std.specs.Cmp.{tied_itself}
use Rattle.std.specs.FinMap.Entries.{find}
use Rattle.pg_types.specs.Inside.counting.Counts.{Counts, windows_above, is_counted}
use Rattle.pg_driver.proofs.Puts.{cmp}

abbrev Entry : Type 0
Entry = List ℕ × (ℕ × ℕ)

found_first : (e x : Entry) (xs : Counts) → x ≡ e → is_counted (x ∷ xs) e.0 ≡ true
found_first e x xs same =
    let tie : eq_by_cmp cmp e.0 x.0 ≡ true = ap (λ (y : Entry). eq_by_cmp cmp e.0 y.0) same ∙ ap is_eq (tied_itself nat_list_cmp_total e.0) in
    ap (λ b. is_some (cond b (Some x.1) (find cmp e.0 xs))) tie

found_later : (b : Bool) (v : ℕ × ℕ) (o : Option (ℕ × ℕ)) → is_some o ≡ true → is_some (cond b (Some v) o) ≡ true
found_later true v o is = refl
found_later false v o is = is

-- the least window above another is counted
pub counted_above : (u : List ℕ) (counts : Counts) (e : Entry) (rest : Counts) → windows_above u counts ≡ e ∷ rest → is_counted counts e.0 ≡ true
counted_above u [] e rest is = cc
counted_above u (x ∷ xs) e rest is =
    elim (is_lt (cmp u x.0)) as (λ (b : Bool). cond b (x ∷ windows_above u xs) (windows_above u xs) ≡ e ∷ rest → is_counted (x ∷ xs) e.0 ≡ true) [
      | true ↦ λ same. let first : x ≡ e = cc in found_first e x xs first
      | false ↦ λ same. found_later (eq_by_cmp cmp e.0 x.0) x.1 (find cmp e.0 xs) (counted_above u xs e rest same)
    ] is
