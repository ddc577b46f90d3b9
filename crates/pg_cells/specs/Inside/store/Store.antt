-- What the store of cells keeps, and how its row is stored and grows.
use Rattle.std.specs.Prelude.{◌≡◌, ◌≢◌, ℕ, ◌+◌, ◌<◌, ◌≤◌, min, Bool, List, [], ◌∷◌, length, get_or, slice_get, false, refl}
use Rattle.std.specs.Coded.{Coded, code_by, coded×, coded_ℕ, coded_bool, coded_list}
use Rattle.pg_cells.specs.declared.store.cell.Cell.{Cell}
use Rattle.pg_cells.specs.declared.store.cell.TheConstants.{CELLS_END, SIGN_COUNT}
use Rattle.pg_cells.specs.declared.store.member.Member.{Member}
use Rattle.pg_cells.specs.Inside.store.CellRows.{Row, row_of, sign_at, child_at, base_at}
use Rattle.pg_cells.specs.declared.store.bit_set.BitSet.{BitSet}
use Rattle.pg_cells.specs.Inside.store.SetFit.{AreRowSets}
use Rattle.pg_cells.specs.Inside.store.BlockedBases.{AreBlocked}
use Rattle.pg_cells.specs.Inside.store.Bounds.{AreBounds}

-- the code of a value with its links, as pairs: the value, the next sign and the first sign
abbrev pub member_code : {V : Type 0} → Coded V → Coded (Member V)
member_code {V} code = code_by (V × (ℕ × ℕ)) (coded× code (coded× coded_ℕ coded_ℕ))
    (λ m. (m.value, (m.next, m.first))) (λ p. record { value = p.0; next = p.1.0; first = p.1.1 })
    (λ _. refl)

-- the code of a row, as pairs: its signs, children, values and bases
abbrev pub row_code : {V : Type 0} → Coded V → Coded (Row V)
row_code {V} code =
    code_by
    (List ℕ × (List ℕ × (List V × List Bool)))
    (coded× (coded_list coded_ℕ)
    (coded× (coded_list coded_ℕ) (coded× (coded_list code) (coded_list coded_bool))))
    (λ r. (r.signs, (r.children, (r.values, r.bases))))
    (λ p. record { signs = p.0; children = p.1.0; values = p.1.1.0; bases = p.1.1.1 })
    (λ _. refl)

-- t is the greatest index at which the sign is not 0, or 0 where there is none
pub record IsTop (signs : List ℕ) (t : ℕ) : Type 0 where
  pub most : (i : ℕ) → get_or signs i 0 ≢ 0 → i ≤ t
  pub within : t < length signs
  pub used : 0 < t → get_or signs t 0 ≢ 0

-- how many numbers of a list are not 0
abbrev pub how_many : List ℕ → ℕ
how_many [] = 0
how_many (x ∷ xs) = min x 1 + how_many xs

module _ {V : Type 0} where
  -- how many cells are taken
  abbrev pub taken_in : Row V → ℕ
  taken_in r = how_many r.signs

module _ {V : Type 0} where
  -- `top` is the greatest taken cell, and `taken` cells are taken
  pub record IsKept (cells : List (Cell V)) (top taken : ℕ) : Type 0 where
    pub small : length cells < CELLS_END
    pub greatest : IsTop (row_of cells).signs top
    pub count : taken ≡ taken_in (row_of cells)

  -- what a store keeps: its counts, its sets, its bounds, and which bases cannot take the family
  -- that was placed last
  pub record IsStore (cells : List (Cell V)) (top taken : ℕ) (taken_set bases : BitSet)
      (lows : List ℕ) (freed dropped placed sought : ℕ) : Type 0 where
    pub kept : IsKept cells top taken
    pub sets : AreRowSets (row_of cells) taken_set bases
    pub few : length lows ≤ SIGN_COUNT
    pub bounds : AreBounds (row_of cells) lows freed dropped
    pub blocked : AreBlocked (row_of cells) placed sought

module _ {V : Type 0} where
  -- the row of a store: its parts are of one length, and a free cell has no child family
  pub record IsRow (r : Row V) : Type 0 where
    pub small : length r.signs < CELLS_END
    pub values : length r.values ≡ length r.signs
    pub bases : length r.bases ≡ length r.signs
    pub bare : (i : ℕ) → sign_at r i ≡ 0 → child_at r i ≡ 0

  -- the new row is the old one with free cells at its end
  pub record Extends (old new : Row V) : Type 0 where
    pub longer : length old.signs ≤ length new.signs
    pub signs : (i : ℕ) → sign_at new i ≡ sign_at old i
    pub children : (i : ℕ) → child_at new i ≡ child_at old i
    pub bases : (i : ℕ) → base_at new i ≡ base_at old i
    pub values : (i : ℕ) → i < length old.signs → slice_get new.values i ≡ slice_get old.values i
    pub taken : taken_in new ≡ taken_in old

  -- the cells below i are free and are no bases
  pub record AreFreeTo (i : ℕ) (r : Row V) : Type 0 where
    pub signs : (j : ℕ) → j < i → get_or r.signs j 1 ≡ 0
    pub bases : (j : ℕ) → j < i → base_at r j ≡ false

  -- one free cell
  abbrev pub one_free : V → Row V
  one_free value = record {
    signs = 0 ∷ [];
    children = 0 ∷ [];
    values = value ∷ [];
    bases = false ∷ [];
  }
