-- The sets of the taken cells and of the bases, as the row of cells changes.
use Rattle.std.proofs.Common.{◌≡◌, ◌≢◌, ℕ, ◌+◌, ◌≤◌, Bool, true, false, cond, not, nat_eq, ◌&&◌, ◌||◌, List, length, inl, inr, refl, sym, ◌∙◌, ap, arith}
use Rattle.std.specs.List.{list_all}
use Rattle.std.proofs.lemmas.Bool.{cases_eq, ne_eqb, eq-eqb}
use Rattle.pg_cells.specs.declared.store.bit_set.BitSet.{BitSet}
use Rattle.pg_cells.specs.Inside.store.CellRows.{Row, sign_at, base_at}
use Rattle.pg_cells.specs.Inside.store.Fit.{fits_row}
use Rattle.pg_cells.specs.Inside.store.BitSets.{has_index, room_of}
use Rattle.pg_cells.specs.Inside.store.SetFit.{AreRowSets, fits_sets}
use Rattle.pg_cells.specs.Inside.store.Store.{Extends}
use Rattle.pg_cells.specs.Inside.store.Writes.{KeepsOtherIndices, Takes, Frees, SetsBase, SetsChild, SetsRowValue}

not_not : (b : Bool) → not (not b) ≡ b
not_not true = refl
not_not false = refl

module _ {V : Type 0} (r : Row V) (cells bases : BitSet) (held : AreRowSets r cells bases) where
  -- by the sets the same signs fit as by the row
  pub fits_same : (signs : List ℕ) (b : ℕ) → fits_sets cells bases signs b ≡ fits_row r signs b
  fits_same signs b = λ i. not (held.bases b i) && list_all (λ s. free (b + s) i) signs
    where
      free : (k : ℕ) → not (has_index cells k) ≡ nat_eq (sign_at r k) 0
      free k = ap not (held.cells k) ∙ not_not (nat_eq (sign_at r k) 0)

  -- the sets stay where signs and bases stay
  pub sets_kept : (r' : Row V) → length r'.signs ≡ length r.signs → ((i : ℕ) → sign_at r' i ≡ sign_at r i) → ((i : ℕ) → base_at r' i ≡ base_at r i) → AreRowSets r' cells bases
  sets_kept r' size signs flags = record {
    cell_room = let room = held.cell_room in omega arith;
    base_room = let room = held.base_room in omega arith;
    cells = λ i. held.cells i ∙ ap (λ s. not (nat_eq s 0)) (sym (signs i));
    bases = λ i. held.bases i ∙ sym (flags i);
  }

  -- the sign of each cell stays where that of one does
  same_signs : (r' : Row V) (cell : ℕ) → KeepsOtherIndices r r' cell → sign_at r' cell ≡ sign_at r cell → (i : ℕ) → sign_at r' i ≡ sign_at r i
  same_signs r' cell others here i = elim (cases_eq i cell) [
    | inl same ↦ ap (sign_at r') same ∙ here ∙ ap (sign_at r) (sym same)
    | inr other ↦ others.signs i other
  ]

  pub sets_child : (r' : Row V) (cell child : ℕ) → SetsChild r r' cell child → AreRowSets r' cells bases
  sets_child r' cell child sets = sets_kept r' sets.elsewhere.size (same_signs r' cell sets.elsewhere sets.sign_is) sets.elsewhere.bases

  pub sets_value : (r' : Row V) (cell : ℕ) (value : V) → SetsRowValue r r' cell value → AreRowSets r' cells bases
  sets_value r' cell value sets = sets_kept r' sets.elsewhere.size (same_signs r' cell sets.elsewhere sets.sign_is) sets.elsewhere.bases

  -- a cell that is taken is put in
  pub sets_take : (r' : Row V) (cell sign : ℕ) (value : V) (child : ℕ) (cells' : BitSet) → sign ≢ 0 → Takes r r' cell sign value child → room_of cells' ≡ room_of cells
      → ((i : ℕ) → has_index cells' i ≡ (nat_eq i cell || has_index cells i)) → AreRowSets r' cells' bases
  sets_take r' cell sign value child cells' some takes room has = record {
    cell_room = let old = held.cell_room in let size = takes.elsewhere.size in omega arith;
    base_room = let old = held.base_room in let size = takes.elsewhere.size in omega arith;
    cells = λ i. has i ∙ elim (cases_eq i cell) [
      | inl same ↦
          ap (λ b. b || has_index cells i) (eq-eqb i cell same)
          ∙ sym (ap not (ne_eqb (sign_at r' i) 0 (λ none. some (sym takes.sign_is ∙ ap (sign_at r') (sym same) ∙ none))))
      | inr other ↦
          ap (λ b. b || has_index cells i) (ne_eqb i cell other)
          ∙ held.cells i
          ∙ ap (λ s. not (nat_eq s 0)) (sym (takes.elsewhere.signs i other))
    ];
    bases = λ i. held.bases i ∙ sym (takes.elsewhere.bases i);
  }

  -- a cell that is given up is taken out
  pub sets_free : (r' : Row V) (cell : ℕ) (cells' : BitSet) → Frees r r' cell → room_of cells' ≡ room_of cells
      → ((i : ℕ) → has_index cells' i ≡ (not (nat_eq i cell) && has_index cells i)) → AreRowSets r' cells' bases
  sets_free r' cell cells' frees room has = record {
    cell_room = let old = held.cell_room in let size = frees.elsewhere.size in omega arith;
    base_room = let old = held.base_room in let size = frees.elsewhere.size in omega arith;
    cells = λ i. has i ∙ elim (cases_eq i cell) [
      | inl same ↦
          ap (λ b. not b && has_index cells i) (eq-eqb i cell same)
          ∙ sym (ap not (eq-eqb (sign_at r' i) 0 (ap (sign_at r') same ∙ frees.sign_is)))
      | inr other ↦
          ap (λ b. not b && has_index cells i) (ne_eqb i cell other)
          ∙ held.cells i
          ∙ ap (λ s. not (nat_eq s 0)) (sym (frees.elsewhere.signs i other))
    ];
    bases = λ i. held.bases i ∙ sym (frees.elsewhere.bases i);
  }

  -- an index is in the set of bases where its flag says so
  pub sets_base : (r' : Row V) (cell : ℕ) (flag : Bool) (bases' : BitSet) → SetsBase r r' cell flag → room_of bases' ≡ room_of bases
      → ((i : ℕ) → has_index bases' i ≡ cond (nat_eq i cell) flag (has_index bases i)) → AreRowSets r' cells bases'
  sets_base r' cell flag bases' sets room has = record {
    cell_room = let old = held.cell_room in let size = sets.size in omega arith;
    base_room = let old = held.base_room in let size = sets.size in omega arith;
    cells = λ i. held.cells i ∙ ap (λ s. not (nat_eq s 0)) (sym (sets.signs i));
    bases = λ i. has i ∙ elim (cases_eq i cell) [
      | inl same ↦
          ap (λ b. cond b flag (has_index bases i)) (eq-eqb i cell same)
          ∙ sym (ap (base_at r') same ∙ sets.base_is)
      | inr other ↦
          ap (λ b. cond b flag (has_index bases i)) (ne_eqb i cell other)
          ∙ held.bases i
          ∙ sym (sets.bases i other)
    ];
  }

  -- further free cells are in no set
  pub sets_grow : (r' : Row V) (cells' bases' : BitSet) → Extends r r' → length r'.signs ≤ room_of cells' → length r'.signs ≤ room_of bases'
      → ((i : ℕ) → has_index cells' i ≡ has_index cells i) → ((i : ℕ) → has_index bases' i ≡ has_index bases i) → AreRowSets r' cells' bases'
  sets_grow r' cells' bases' extends room base_room same same_bases = record {
    cell_room = room;
    base_room = base_room;
    cells = λ i. same i ∙ held.cells i ∙ ap (λ s. not (nat_eq s 0)) (sym (extends.signs i));
    bases = λ i. same_bases i ∙ held.bases i ∙ sym (extends.bases i);
  }

-- where no cell is taken and no index is a base, both sets are empty
pub sets_none : {V : Type 0} (r : Row V) (cells bases : BitSet) → length r.signs ≤ room_of cells → length r.signs ≤ room_of bases → ((i : ℕ) → sign_at r i ≡ 0) → ((i : ℕ) → base_at r i ≡ false)
    → ((i : ℕ) → has_index cells i ≡ false) → ((i : ℕ) → has_index bases i ≡ false) → AreRowSets r cells bases
sets_none r cells bases room base_room free no_base none none_bases = record {
  cell_room = room;
  base_room = base_room;
  cells = λ i. none i ∙ sym (ap not (eq-eqb (sign_at r i) 0 (free i)));
  bases = λ i. none_bases i ∙ sym (no_base i);
}
