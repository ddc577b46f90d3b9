-- The cells are made free one by one.
use Rattle.std.proofs.Common.{◌≡◌, ℕ, ◌+◌, ◌<◌, ◌≤◌, List, inl, inr, false, length, take, get_or, set, sym, ap, ◌∙◌, arith}
use Rattle.std.proofs.lemmas.Bool.{cases_eq, cases_lt}
use Rattle.std.proofs.lemmas.List.{get_or-set_same, get_or-set_other, get_or_past, get_or_default, length-map, length-take}
use Rattle.pg_cells.specs.declared.store.cell.TheConstants.{CELLS_END, SIGN_COUNT}
use Rattle.pg_cells.specs.declared.store.cell.Cell.{Cell}
use Rattle.pg_cells.specs.declared.store.member.Member.{Member}
use Rattle.pg_cells.specs.Inside.store.CellRows.{sign_seen, base_seen, Row, row_of, sign_at, base_at, with_free, with_base}
use Rattle.pg_cells.specs.declared.store.bit_set.BitSet.{BitSet}
use Rattle.pg_cells.specs.Inside.store.BitSets.{room_of, has_index}
use Rattle.pg_cells.specs.Inside.families.Root.{IsRootTo}
use Rattle.pg_cells.specs.Inside.store.Store.{IsKept, IsStore, AreFreeTo}
use Rattle.pg_cells.proofs.SetLaws.{sets_none}
use Rattle.pg_cells.proofs.BlockedLaws.{blocked_none}
use Rattle.pg_cells.proofs.RootSteps.{how_many_zero, planted_cleared}
use Rattle.pg_cells.proofs.RowWrites.{is_row}

module _ {V : Type 0} where
  pub free_to_none : (r : Row V) → AreFreeTo 0 r
  free_to_none r = record { signs = λ j lt. absurd (omega arith); bases = λ j lt. absurd (omega arith) }

  -- one cell more
  pub free_to_more : (cells : List (Cell V)) (i : ℕ) → i < length cells → AreFreeTo i (row_of cells) → AreFreeTo (i + 1) (with_base (with_free (row_of cells) i) i false)
  free_to_more cells i within old =
      let r = row_of cells in
      let in_signs : i < length r.signs = omega (arith, length-map cells sign_seen) in
      let in_bases : i < length r.bases = omega (arith, length-map cells base_seen) in
      record {
        signs = λ j lt. elim (cases_eq j i) [
          | inl e ↦ ap (λ k. get_or (set r.signs i 0) k 1) e ∙ get_or-set_same r.signs i 0 1 in_signs
          | inr n ↦ get_or-set_other r.signs i j 0 1 n ∙ old.signs j (omega arith)
        ];
        bases = λ j lt. elim (cases_eq j i) [
          | inl e ↦ ap (λ k. get_or (set r.bases i false) k false) e ∙ get_or-set_same r.bases i false false in_bases
          | inr n ↦ get_or-set_other r.bases i j false false n ∙ old.bases j (omega arith)
        ];
      }

module _ {V : Type 0} (cells : List (Cell V)) (h : AreFreeTo (length cells) (row_of cells)) where
  -- no cell is taken
  pub free_none : (i : ℕ) → sign_at (row_of cells) i ≡ 0
  free_none i =
      let signs = (row_of cells).signs in
      let size : length signs ≡ length cells = length-map cells sign_seen in
      elim (cases_lt i (length signs)) [
        | inl lt ↦ get_or_default signs i 0 1 lt ∙ h.signs i (omega arith)
        | inr le ↦ get_or_past signs i 0 le
      ]

  free_kept : 0 < length cells → length cells < CELLS_END → IsKept cells 0 0
  free_kept up small = record {
    small = small;
    greatest = record {
      most = λ i some. absurd (some (free_none i));
      within = omega (arith, length-map cells sign_seen);
      used = λ lt. absurd (omega arith);
    };
    count = sym (how_many_zero (row_of cells).signs free_none);
  }

  -- no index is a base
  free_bases : (i : ℕ) → base_at (row_of cells) i ≡ false
  free_bases i =
      let bases = (row_of cells).bases in
      elim (cases_lt i (length bases)) [
        | inl lt ↦ h.bases i (omega (arith, length-map cells base_seen))
        | inr le ↦ get_or_past bases i false le
      ]

  -- a store whose cells are all free
  pub free_store : (taken_set bases : BitSet) (lows : List ℕ) (dropped sought : ℕ) → length lows ≤ SIGN_COUNT → 0 < length cells → length cells < CELLS_END
      → length cells ≤ room_of taken_set → length cells ≤ room_of bases → ((i : ℕ) → has_index taken_set i ≡ false) → ((i : ℕ) → has_index bases i ≡ false)
      → IsStore cells 0 0 taken_set bases lows 0 dropped 0 sought
  free_store taken_set bases lows dropped sought few up small room base_room none none_bases = record {
    kept = free_kept up small;
    sets = let size = length-map cells sign_seen in sets_none (row_of cells) taken_set bases (omega arith) (omega arith) free_none free_bases none none_bases;
    few = few;
    bounds = λ s b above below. absurd (let far = below.under_cell in omega arith);
    blocked = blocked_none (row_of cells) 0 sought (omega arith);
  }

  pub free_root : (blank : Member V) → length cells < CELLS_END → IsRootTo 1 blank (row_of cells)
  free_root blank small =
      let row = is_row cells (omega arith) in
      planted_cleared blank (row_of cells) (λ i lt. free_none i) (λ b lt. h.bases b (omega (arith, length-map cells sign_seen))) row.bases row.bare

-- of a list that is cut as many stay as `least` asks
pub cut_long : {X : Type 0} (xs ys : List X) (n least : ℕ) → least ≤ n → least ≤ length xs → ys ≡ take n xs → (least ≤ length ys) × (length ys ≤ length xs)
cut_long xs ys n least le within is =
    let size = ap length is ∙ length-take n xs in
    (omega arith, omega arith)
