-- Which cells of a row are free or taken, and the row with one more.
use Rattle.std.proofs.Common.{◌≡◌, ◌≢◌, ℕ, ◌<◌, ◌≤◌, ◌∷◌, ◌++◌, [], List, inl, inr, sym, ◌∙◌, ap, subst, arith, length, map}
use Rattle.std.proofs.lemmas.Bool.{cases_lt}
use Rattle.std.proofs.lemmas.List.{get_or_past, get_or_default, length-map, map_push}
use Rattle.pg_cells.specs.declared.store.cell.TheConstants.{CELLS_END}
use Rattle.pg_cells.specs.declared.store.cell.Cell.{Cell}
use Rattle.pg_cells.specs.declared.store.member.Member.{Member}
use Rattle.pg_cells.specs.Inside.store.CellRows.{sign_seen, base_seen, child_seen, member_seen, Row, row_of, without_links, IsFree, sign_at, with_more}

module _ {V : Type 0} where
  -- a free cell is in the row
  pub free_within : (r : Row V) (i : ℕ) → IsFree r i → i < length r.signs
  free_within r i free = elim (cases_lt i (length r.signs)) [
    | inl lt ↦ lt
    | inr le ↦ absurd (let past = get_or_past r.signs i 1 le in omega arith)
  ]

  -- and so is a taken one
  pub taken_within : (r : Row V) (i : ℕ) → sign_at r i ≢ 0 → i < length r.signs
  taken_within r i taken = elim (cases_lt i (length r.signs)) [
    | inl lt ↦ lt
    | inr le ↦ absurd (taken (get_or_past r.signs i 0 le))
  ]

-- a free cell stays free where its sign stays
pub free_kept : {V : Type 0} (old new : Row V) (i : ℕ) → length new.signs ≡ length old.signs → sign_at new i ≡ sign_at old i → IsFree old i → IsFree new i
free_kept old new i size same free =
    let lt = free_within old i free in
    get_or_default new.signs i 1 0 (omega arith) ∙ same ∙ get_or_default old.signs i 0 1 lt ∙ free

module _ {V : Type 0} (cells : List (Cell V)) where
  pub signs_long : length (map sign_seen cells) ≡ length cells
  signs_long = length-map cells sign_seen

  -- a free cell is among the cells
  pub free_in : (i : ℕ) → IsFree (row_of cells) i → i < length cells
  free_in i free = subst (λ n. i < n) signs_long (free_within (row_of cells) i free)

  -- past the end no cell has a sign
  pub sign_past : (i : ℕ) → length cells ≤ i → sign_at (row_of cells) i ≡ 0
  sign_past i le = get_or_past (row_of cells).signs i 0 (subst (λ n. n ≤ i) (sym signs_long) le)

  -- a cell that is taken in the row is among the cells, and has its sign there
  pub taken_in_row : (r : Row (Member V)) (i : ℕ) → row_of cells ≡ r → sign_at r i ≢ 0 → (i < length cells) × (sign_at (row_of cells) i ≢ 0)
  taken_in_row r i seen taken =
      let here : sign_at (row_of cells) i ≢ 0 = λ z. taken (sym (ap (λ (x : Row (Member V)). sign_at x i) seen) ∙ z) in
      (subst (λ n. i < n) signs_long (taken_within (row_of cells) i here), here)

  -- the base of a family below a cell fits a link
  pub child_fits : (i : ℕ) → i < length (row_of cells).signs → length cells < CELLS_END → i < CELLS_END
  child_fits i lt small = let within = subst (λ n. i < n) signs_long lt in omega arith

-- a free cell more at the end
pub row_push : {V : Type 0} (cells new : List (Cell V)) (value : V) → new ≡ cells ++ record { value = value; signs = 0; links = 0 } ∷ []
    → row_of new ≡ with_more (row_of cells) (without_links value)
row_push {V = V} cells new value is =
    let c : Cell V = record { value = value; signs = 0; links = 0 } in
    ap row_of is ∙ (λ t. record {
      signs = map_push sign_seen cells c t;
      children = map_push child_seen cells c t;
      values = map_push member_seen cells c t;
      bases = map_push base_seen cells c t;
    })
