-- One free cell is a store.
use Rattle.std.proofs.Common.{◌≡◌, ℕ, ◌≤◌, false, List, [], ◌∷◌, length, refl, get_or, zero, suc, arith}
use Rattle.pg_cells.specs.declared.store.cell.Cell.{Cell}
use Rattle.pg_cells.specs.declared.store.cell.TheConstants.{SIGN_COUNT}
use Rattle.pg_cells.specs.Inside.store.CellRows.{row_of, base_at}
use Rattle.pg_cells.specs.declared.store.bit_set.BitSet.{BitSet}
use Rattle.pg_cells.specs.Inside.store.BitSets.{room_of, has_index}
use Rattle.pg_cells.specs.Inside.store.Store.{IsStore}
use Rattle.pg_cells.proofs.SetLaws.{sets_none}
use Rattle.pg_cells.proofs.BlockedLaws.{blocked_none}

all_zero : (i : ℕ) → ◌≡◌ {A = ℕ} (get_or (0 ∷ []) i 0) 0
all_zero zero = refl
all_zero (suc i) = refl

module _ {V : Type 0} (value : V) where
  abbrev pub free_cell : Cell V
  free_cell = record { value = value; signs = 0; links = 0 }

  no_base : (i : ℕ) → base_at (row_of (free_cell ∷ [])) i ≡ false
  no_base zero = refl
  no_base (suc i) = refl

  pub lone_store : (lows : List ℕ) (taken_set bases : BitSet) → length lows ≤ SIGN_COUNT → 1 ≤ room_of taken_set → 1 ≤ room_of bases → ((i : ℕ) → has_index taken_set i ≡ false)
      → ((i : ℕ) → has_index bases i ≡ false) → IsStore (free_cell ∷ []) 0 0 taken_set bases lows 0 0 0 0
  lone_store lows taken_set bases few room base_room none none_bases = record {
    kept = record {
      small = omega arith;
      greatest = record {
        most = λ i taken. absurd (taken (all_zero i));
        within = omega arith;
        used = λ up. absurd (omega arith);
      };
      count = refl;
    };
    sets = sets_none (row_of (free_cell ∷ [])) taken_set bases room base_room all_zero no_base none none_bases;
    few = few;
    bounds = λ sign base up below. absurd (let under = below.under_base in omega arith);
    blocked = blocked_none (row_of (free_cell ∷ [])) 0 0 (omega arith);
  }
