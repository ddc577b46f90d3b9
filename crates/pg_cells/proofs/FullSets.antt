-- A set of cells, and the numbers of 64 cells of which all are in it.
use Rattle.std.proofs.Common.{◌≡◌, ◌≢◌, ℕ, ◌+◌, ◌-◌, ◌*◌, ◌/◌, ◌%◌, ◌^◌, ◌<◌, ◌≤◌, true, false, not, ◌&&◌, ◌||◌, nat_eq, inl, inr, sym, ap, ◌∙◌, arith}
use Rattle.std.specs.Int.{bit_at}
use Rattle.std.proofs.lemmas.Bool.{cases_Bool, cases_eq, eq-eqb, ne_eqb, or_right, both_ways}
use Rattle.std.proofs.lemmas.Nat.Bits.{bit_at_ones}
use Rattle.pg_cells.specs.declared.store.bit_set.BitSet.{BitSet}
use Rattle.pg_cells.specs.Inside.store.BitSets.{room_of, has_index, AreFull}

-- no number is full
pub full_none : (cells full : BitSet) → room_of cells ≤ 64 * room_of full → ((i : ℕ) → has_index full i ≡ false) → AreFull cells full
full_none cells full room none = record {
  room = room;
  all = λ w j is lt. absurd (both_ways (has_index full w) (none w) is);
}

-- all bits of a number are set
pub all_set : (cells : BitSet) (at n : ℕ) → n ≡ 2 ^ 64 - 1 → ((j : ℕ) → j < 64 → nat_eq (bit_at n j) 1 ≡ has_index cells (at + j)) → (j : ℕ) → j < 64 → has_index cells (at + j) ≡ true
all_set cells at n ones says j lt = sym (says j lt) ∙ ap (λ x. nat_eq (bit_at x j) 1) ones ∙ ap (λ b. nat_eq b 1) (bit_at_ones 64 j lt)

module _ (cells full : BitSet) (are : AreFull cells full) where
  -- the same sets with more room
  pub full_grow : (cells' full' : BitSet) → room_of cells' ≤ 64 * room_of full' → ((i : ℕ) → has_index cells' i ≡ has_index cells i) → ((i : ℕ) → has_index full' i ≡ has_index full i)
      → AreFull cells' full'
  full_grow cells' full' room same same_full = record {
    room = room;
    all = λ w j is lt. same (64 * w + j) ∙ are.all w j (sym (same_full w) ∙ is) lt;
  }

  module _ (cell : ℕ) (cells' : BitSet) (room : room_of cells' ≡ room_of cells) where
    -- a cell more
    pub full_more : ((i : ℕ) → has_index cells' i ≡ (nat_eq i cell || has_index cells i)) → AreFull cells' full
    full_more has = record {
      room = (let old = are.room in omega arith);
      all = λ w j is lt. has (64 * w + j) ∙ or_right (nat_eq (64 * w + j) cell) (has_index cells (64 * w + j)) (are.all w j is lt);
    }

    -- and a number that is full by it
    pub full_insert : ((i : ℕ) → has_index cells' i ≡ (nat_eq i cell || has_index cells i)) → (full' : BitSet) → room_of full' ≡ room_of full
        → ((w : ℕ) → has_index full' w ≡ (nat_eq w (cell / 64) || has_index full w)) → ((j : ℕ) → j < 64 → has_index cells' (cell / 64 * 64 + j) ≡ true) → AreFull cells' full'
    full_insert has full' same has_full every = record {
      room = (let old = are.room in omega arith);
      all = λ w j is lt. elim (cases_eq w (cell / 64)) [
        | inl here ↦ ap (has_index cells') (let back : 64 * w + j ≡ cell / 64 * 64 + j = omega arith in back) ∙ every j lt
        | inr other ↦ (full_more has).all w j (sym (has_full w ∙ ap (λ b. b || has_index full w) (ne_eqb w (cell / 64) other)) ∙ is) lt
      ];
    }

    -- a cell less, whose number is not full any more
    pub full_remove : ((i : ℕ) → has_index cells' i ≡ (not (nat_eq i cell) && has_index cells i)) → (full' : BitSet) → room_of full' ≡ room_of full
        → ((w : ℕ) → has_index full' w ≡ (not (nat_eq w (cell / 64)) && has_index full w)) → AreFull cells' full'
    full_remove has full' same has_full = record {
      room = (let old = are.room in omega arith);
      all = λ w j is lt. elim (cases_eq w (cell / 64)) [
        | inl here ↦ absurd (both_ways (has_index full' w) (has_full w ∙ ap (λ b. not b && has_index full w) (eq-eqb w (cell / 64) here)) is)
        | inr other ↦
            let apart : 64 * w + j ≢ cell = λ e. other (omega arith) in
            let was : has_index full w ≡ true = sym (has_full w ∙ ap (λ b. not b && has_index full w) (ne_eqb w (cell / 64) other)) ∙ is in
            has (64 * w + j) ∙ ap (λ b. not b && has_index cells (64 * w + j)) (ne_eqb (64 * w + j) cell apart) ∙ are.all w j was lt
      ];
    }

  -- the number of a free cell is not full
  pub not_full : (cell : ℕ) → has_index cells cell ≡ false → has_index full (cell / 64) ≡ false
  not_full cell free = elim (cases_Bool (has_index full (cell / 64))) [
    | inl is ↦
        let back : 64 * (cell / 64) + cell % 64 ≡ cell = omega arith in
        absurd (both_ways (has_index cells cell) free (ap (has_index cells) (sym back) ∙ are.all (cell / 64) (cell % 64) is (omega arith)))
    | inr none ↦ none
  ]

  -- the cells of full numbers are taken
  pub full_taken : (from next i : ℕ) → ((w : ℕ) → from ≤ w → w < next → has_index full w ≡ true) → from * 64 ≤ i → i < next * 64 → has_index cells i ≡ true
  full_taken from next i every low lt =
      let back : i ≡ 64 * (i / 64) + i % 64 = omega arith in
      ap (has_index cells) back ∙ are.all (i / 64) (i % 64) (every (i / 64) (omega arith) (omega arith)) (omega arith)
