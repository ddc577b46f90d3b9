-- What a write of one cell changes, of a row whose parts are of one length.
use Rattle.std.proofs.Common.{◌≡◌, ◌≢◌, ℕ, ◌<◌, Bool, false, List, [], ◌∷◌, length, get_or, set, slice_get, Some, suc, zero, refl, sym, ◌∙◌, ap, arith, cond, nat_eq}
use Rattle.std.proofs.lemmas.List.{length-set, length-map, get_or-set_same, get_or-set_other, get_or_default}
use Rattle.pg_cells.specs.declared.store.cell.Cell.{Cell}
use Rattle.pg_cells.specs.declared.store.cell.TheConstants.{CELLS_END}
use Rattle.pg_cells.specs.declared.store.member.Member.{Member}
use Rattle.pg_cells.specs.Inside.store.CellRows.{sign_seen, base_seen, link_seen, row_of, unlink_at, child_seen, member_seen, sign_at, child_at, IsFree, with_taken, with_free, with_child, with_value, with_base}
use Rattle.pg_cells.specs.Inside.store.Store.{IsRow}
use Rattle.pg_cells.specs.Inside.store.Writes.{Takes, Frees, SetsChild, SetsRowValue, SetsBase}
use Rattle.pg_cells.proofs.RowCells.{free_within, taken_within}
use Rattle.pg_cells.proofs.StoreSteps.{how_many_set}

set_here : {A : Type 0} (xs : List A) (i : ℕ) (y : A) → i < length xs → slice_get (set xs i y) i ≡ Some y
set_here [] i y lt = absurd (omega arith)
set_here (x ∷ xs) zero y lt = refl
set_here (x ∷ xs) (suc i) y lt = set_here xs i y (omega arith)

-- another element stays
pub set_there : {A : Type 0} (xs : List A) (i j : ℕ) (y : A) → j ≢ i → slice_get (set xs i y) j ≡ slice_get xs j
set_there [] i j y n = refl
set_there (x ∷ xs) zero zero y n = absurd (n refl)
set_there (x ∷ xs) zero (suc j) y n = refl
set_there (x ∷ xs) (suc i) zero y n = refl
set_there (x ∷ xs) (suc i) (suc j) y n = set_there xs i j y (λ e. n (ap suc e))

bared_there : {V : Type 0} (ms : List (Member V)) (i j : ℕ) → j ≢ i → slice_get (unlink_at ms i) j ≡ slice_get ms j
bared_there [] i j n = refl
bared_there (m ∷ ms) zero zero n = absurd (n refl)
bared_there (m ∷ ms) zero (suc j) n = refl
bared_there (m ∷ ms) (suc i) zero n = refl
bared_there (m ∷ ms) (suc i) (suc j) n = bared_there ms i j (λ e. n (ap suc e))

-- a free cell has no child
row_bare : {V : Type 0} (cells : List (Cell V)) (i : ℕ) → sign_at (row_of cells) i ≡ 0 → child_at (row_of cells) i ≡ 0
row_bare [] i e = refl
row_bare (c ∷ cs) zero e = ap (λ s. cond (nat_eq s 0) 0 (link_seen c)) e
row_bare (c ∷ cs) (suc i) e = row_bare cs i e

module _ {V : Type 0} (cells : List (Cell V)) where
  children_even : length (row_of cells).children ≡ length (row_of cells).signs
  children_even = length-map cells child_seen ∙ sym (length-map cells sign_seen)

  values_even : length (row_of cells).values ≡ length (row_of cells).signs
  values_even = length-map cells member_seen ∙ sym (length-map cells sign_seen)

  bases_even : length (row_of cells).bases ≡ length (row_of cells).signs
  bases_even = length-map cells base_seen ∙ sym (length-map cells sign_seen)

  -- the row of a store's cells
  pub is_row : length cells < CELLS_END → IsRow (row_of cells)
  is_row small = record {
    small = omega (arith, length-map cells sign_seen);
    values = values_even;
    bases = bases_even;
    bare = row_bare cells;
  }

module _ {V : Type 0} (cells : List (Cell V)) (i : ℕ) where
  pub row_takes : (sign : ℕ) (value : Member V) (child : ℕ) → IsFree (row_of cells) i → sign ≢ 0 → Takes (row_of cells) (with_taken (row_of cells) i sign value child) i sign value child
  row_takes sign value child free up =
      let lt : i < length (row_of cells).signs = free_within (row_of cells) i free in
      let was : get_or (row_of cells).signs i 0 ≡ 0 = get_or_default (row_of cells).signs i 0 1 lt ∙ free in
      record {
        elsewhere = record {
          signs = λ j n. get_or-set_other (row_of cells).signs i j sign 0 n;
          children = λ j n. get_or-set_other (row_of cells).children i j child 0 n;
          values = λ j n. set_there (row_of cells).values i j value n;
          bases = λ b. refl;
          size = length-set (row_of cells).signs i sign;
        };
        sign_is = get_or-set_same (row_of cells).signs i sign 0 lt;
        child_is = get_or-set_same (row_of cells).children i child 0 (omega (arith, children_even cells));
        value_is = set_here (row_of cells).values i value (omega (arith, values_even cells));
        count = omega (arith, how_many_set (row_of cells).signs i sign lt);
      }

  pub row_frees : sign_at (row_of cells) i ≢ 0 → Frees (row_of cells) (with_free (row_of cells) i) i
  row_frees up =
      let lt : i < length (row_of cells).signs = taken_within (row_of cells) i up in
      record {
        elsewhere = record {
          signs = λ j n. get_or-set_other (row_of cells).signs i j 0 0 n;
          children = λ j n. get_or-set_other (row_of cells).children i j 0 0 n;
          values = λ j n. bared_there (row_of cells).values i j n;
          bases = λ b. refl;
          size = length-set (row_of cells).signs i 0;
        };
        sign_is = get_or-set_same (row_of cells).signs i 0 0 lt;
        child_is = get_or-set_same (row_of cells).children i 0 0 (omega (arith, children_even cells));
        count = omega (arith, how_many_set (row_of cells).signs i 0 lt);
      }

  pub row_child : (child : ℕ) → sign_at (row_of cells) i ≢ 0 → SetsChild (row_of cells) (with_child (row_of cells) i child) i child
  row_child child up =
      let lt : i < length (row_of cells).signs = taken_within (row_of cells) i up in
      record {
        elsewhere = record {
          signs = λ j n. refl;
          children = λ j n. get_or-set_other (row_of cells).children i j child 0 n;
          values = λ j n. refl;
          bases = λ b. refl;
          size = refl;
        };
        sign_is = refl;
        child_is = get_or-set_same (row_of cells).children i child 0 (omega (arith, children_even cells));
        value_is = refl;
        count = refl;
      }

  pub row_value : (value : Member V) → sign_at (row_of cells) i ≢ 0 → SetsRowValue (row_of cells) (with_value (row_of cells) i value) i value
  row_value value up =
      let lt : i < length (row_of cells).signs = taken_within (row_of cells) i up in
      record {
        elsewhere = record {
          signs = λ j n. refl;
          children = λ j n. refl;
          values = λ j n. set_there (row_of cells).values i j value n;
          bases = λ b. refl;
          size = refl;
        };
        sign_is = refl;
        child_is = refl;
        value_is = set_here (row_of cells).values i value (omega (arith, values_even cells));
        count = refl;
      }

  pub row_base : (flag : Bool) → i < length (row_of cells).signs → SetsBase (row_of cells) (with_base (row_of cells) i flag) i flag
  row_base flag lt = record {
    signs = λ j. refl;
    children = λ j. refl;
    values = λ j. refl;
    base_is = get_or-set_same (row_of cells).bases i flag false (omega (arith, bases_even cells));
    bases = λ b n. get_or-set_other (row_of cells).bases i b flag false n;
    size = refl;
    count = refl;
  }
