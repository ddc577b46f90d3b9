-- Whether signs may stand at a base: what one of them tells.
use Rattle.std.proofs.Common.{◌≡◌, ◌≢◌, ℕ, ◌+◌, ◌<◌, Bool, true, false, not, ◌&&◌, nat_eq, ◌∙◌, ap, List, take, length, get_or}
use Rattle.std.specs.List.{list_all}
use Rattle.std.proofs.lemmas.Bool.{and_right, ne_eqb}
use Rattle.std.proofs.lemmas.List.Folds.{list_all_more, list_all_at}
use Rattle.pg_cells.specs.Inside.store.CellRows.{Row, sign_at, base_at}
use Rattle.pg_cells.specs.Inside.store.Fit.{fits_row}

-- one more element that passes
pub all_more : (test : ℕ → Bool) (xs : List ℕ) (i x : ℕ) → i < length xs → get_or xs i 0 ≡ x → test x ≡ true → list_all test (take i xs) ≡ true → list_all test (take (i + 1) xs) ≡ true
all_more test xs i x lt at passes before = list_all_more test xs i 0 lt ∙ (λ t. before t && (ap test at ∙ passes) t)

-- one element that fails
pub all_fails : (test : ℕ → Bool) (xs : List ℕ) (i x : ℕ) → i < length xs → get_or xs i 0 ≡ x → test x ≡ false → list_all test xs ≡ false
all_fails test xs i x lt at fails = list_all_at test xs i 0 lt (ap test at ∙ fails)

-- where the cell of one of the signs is taken, they do not fit
pub taken_misfit : {V : Type 0} (r : Row V) (signs : List ℕ) (k sign : ℕ) → k < length signs → get_or signs k 0 ≡ sign → (b : ℕ) → sign_at r (b + sign) ≢ 0 → fits_row r signs b ≡ false
taken_misfit r signs k sign lt at b taken = and_right (not (base_at r b)) (list_all (λ s. nat_eq (sign_at r (b + s)) 0) signs)
    (all_fails (λ s. nat_eq (sign_at r (b + s)) 0) signs k sign lt at (ne_eqb (sign_at r (b + sign)) 0 taken))
