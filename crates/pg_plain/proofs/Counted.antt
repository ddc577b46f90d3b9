-- A weight added to a window, and the walk over the windows.
use Rattle.std.proofs.Common.{◌≡◌, ℕ, Bool, true, false, cond, ◌&&◌, T, List, [], ◌∷◌, length, Option, Some, None, is_some, nat_eq, nat_cmp, sym, refl, ap, ◌∙◌}
use Rattle.std.proofs.lemmas.Bool.{eqb-true}
use Rattle.std.specs.declared.cmp.Ordering.TheVariants.{Equal}
use Rattle.std.specs.declared.ops.Bound.TheVariants.{Excluded, Unbounded}
use Rattle.std.specs.BTreeMap.{insert_entry}
use Rattle.std.specs.BTreeMap.Range.{entries_between}
use Rattle.std.specs.Cmp.Lexicographic.{slice_cmp, nat_list_cmp_total}
use Rattle.std.specs.FinMap.{nat_cmp-IsAntisymmetric, slice_cmp-IsAntisymmetric}
use Rattle.std.specs.FinMap.Entries.{put, find, is_sorted}
use Rattle.std.specs.List.{list_all}
use Rattle.std.specs.Ordering.{is_lt}
use Rattle.pg_types.specs.Inside.counting.Counts.{Counts, sums_of, with_weight, with_count, is_counted, windows_above}
use Rattle.pg_types.proofs.EntryLists.{insert-put, all_put, find_good, above_next}

same_window : (a b : List ℕ) → slice_cmp nat_cmp a b ≡ Equal → a ≡ b
same_window a b same = slice_cmp-IsAntisymmetric nat_cmp-IsAntisymmetric a b same

-- a window is counted
pub added : (C E : Counts) (u : List ℕ) (good : Bool) (weight : ℕ) (sums : ℕ × ℕ) → sums ≡ with_weight (sums_of C u) good weight → E ≡ insert_entry (slice_cmp nat_cmp) C u sums → E ≡ with_count C u good weight
added C E u good weight sums more entered = entered ∙ insert-put (slice_cmp nat_cmp) u sums C ∙ ap (λ x. put (slice_cmp nat_cmp) u x C) more

-- windows that pass a test stay so
pub windows_put : (test : List ℕ → Bool) (C : Counts) (u : List ℕ) (n : ℕ × ℕ) → test u ≡ true → list_all (λ e. test e.0) C ≡ true → list_all (λ e. test e.0) (put (slice_cmp nat_cmp) u n C) ≡ true
windows_put test C u n new all = all_put (slice_cmp nat_cmp) (λ (e : List ℕ × (ℕ × ℕ)). test e.0) same_window u n C new all

-- and a window that is counted does
pub counted_good : (test : List ℕ → Bool) (C : Counts) (u : List ℕ) → is_counted C u ≡ true → list_all (λ e. test e.0) C ≡ true → test u ≡ true
counted_good test C u there all = by_find (find (slice_cmp nat_cmp) u C) refl there
  where
    by_find : (o : Option (ℕ × ℕ)) → find (slice_cmp nat_cmp) u C ≡ o → is_some o ≡ true → test u ≡ true
    by_find None is there = cc
    by_find (Some sums) is there = find_good (slice_cmp nat_cmp) (λ (e : List ℕ × (ℕ × ℕ)). test e.0) same_window u sums C is all

-- a window that is counted has that length
pub counted_len : (C : Counts) (u : List ℕ) (len : ℕ) → is_counted C u ≡ true → list_all (λ e. nat_eq (length e.0) len) C ≡ true → length u ≡ len
counted_len C u len there all = eqb-true (length u) len (counted_good (λ (v : List ℕ). nat_eq (length v) len) C u there all)

pub between_above : (u : List ℕ) (C : Counts) → entries_between (slice_cmp nat_cmp) (Excluded u) Unbounded C ≡ windows_above u C
between_above u [] = refl
between_above u (e ∷ es) =
    ap (λ r. cond (is_lt (slice_cmp nat_cmp u e.0) && true) (e ∷ r) r) (between_above u es)
    ∙ ap (λ b. cond b (e ∷ windows_above u es) (windows_above u es)) (and_true (is_lt (slice_cmp nat_cmp u e.0)))
  where
    and_true : (b : Bool) → (b && true) ≡ b
    and_true true = refl
    and_true false = refl

-- the least window above u
pub next_above : (C rest r : Counts) (u v : List ℕ) (e : List ℕ × (ℕ × ℕ)) → T (is_sorted (slice_cmp nat_cmp) C) → r ≡ entries_between (slice_cmp nat_cmp) (Excluded u) Unbounded C
    → r ≡ e ∷ rest → v ≡ e.0 → windows_above u C ≡ (v, e.1) ∷ windows_above v C
next_above C rest r u v e sorted between cut is =
    let here : windows_above u C ≡ e ∷ rest = sym (between ∙ between_above u C) ∙ cut in
    let behind : windows_above e.0 C ≡ rest = above_next (slice_cmp nat_cmp) nat_list_cmp_total u C rest e sorted here in
    here ∙ ap (λ x. e ∷ x) (sym behind) ∙ ap (λ x. (x, e.1) ∷ windows_above x C) (sym is)
