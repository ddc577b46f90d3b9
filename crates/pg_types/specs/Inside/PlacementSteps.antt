-- The steps of a placement, each by itself and by its cases.
use Rattle.std.specs.Prelude.{ℕ, ◌+◌, ◌-◌, max, Bool, true, false, if◌then◌else◌, not, nat_eq, nat_lt, nat_le, List, [], ◌∷◌, ◌++◌, length, filter, Option, Some, None, unwrap_or}
use Rattle.std.specs.List.{find, list_any, range_with_len}
use Rattle.std.specs.Ordering.{nat_cmp, eq_by_cmp}
use Rattle.std.specs.Cmp.Lexicographic.{slice_cmp}
use Rattle.std.specs.FinMap.{put}
use Rattle.std.specs.FinMap.Entries.{where_key}
use Rattle.pg_types.specs.declared.limits.TheConstants.{FEW_SIGNS, FAR_BELOW}
use Rattle.pg_types.specs.Placement.{Family, Families, family_at, used_cells, top, fits_at, with_sign}

-- the number of taken cells
abbrev pub taken_count : Families → ℕ
taken_count fs = length (used_cells fs)

-- whether some family has this cell
abbrev pub is_used : Families → ℕ → Bool
is_used fs cell = list_any (nat_eq cell) (used_cells fs)

-- the families but that with the prefix
abbrev pub without_family : Families → List ℕ → Families
without_family fs p = where_key (slice_cmp nat_cmp)
    (λ q. not (eq_by_cmp (slice_cmp nat_cmp) p q)) fs

-- whether some family has the base b
abbrev pub is_base : Families → ℕ → Bool
is_base fs b = list_any (λ e. nat_eq b e.1.base) fs

-- the lowest base tried for so many signs, in a table of n signs; t is the greatest taken cell
abbrev pub lowest_base : ℕ → ℕ → ℕ → ℕ
lowest_base n count t = if nat_le count FEW_SIGNS then 1 else max 1 (t - max FAR_BELOW n)

-- the least base, from the lowest on, at which the signs may stand. Past the top they always may,
-- where no family is empty: the law is in proofs/LeastBase
abbrev pub least_base : ℕ → Families → List ℕ → ℕ
least_base n fs signs = unwrap_or (find (fits_at fs signs)
    (range_with_len (lowest_base n (length signs) (top fs)) (top fs + 1))) 0

-- the families with one more, at the least base
abbrev pub with_placed_family : ℕ → Families → List ℕ → List ℕ → Families
with_placed_family n fs p signs =
    put (slice_cmp nat_cmp) p (record { base = least_base n fs signs; signs = signs }) fs

-- the signs, in rising order, with s
abbrev pub with_one_sign : ℕ → List ℕ → List ℕ
with_one_sign s [] = s ∷ []
with_one_sign s (x ∷ xs) = if nat_lt s x then s ∷ x ∷ xs
    else (if nat_eq s x then x ∷ xs else x ∷ with_one_sign s xs)

-- the families after the sign s, which the family lacks, is added below the prefix p: in a new
-- family, in place, or with the family placed anew. By the law this is `with_sign`
unfoldable pub with_new_sign : ℕ → Families → List ℕ → ℕ → Families
with_new_sign n fs p s = elim (family_at fs p) [
  | None ↦ with_placed_family n fs p (s ∷ [])
  | Some f ↦ let signs = with_one_sign s f.signs in elim (is_used fs (f.base + s)) [
    | false ↦ put (slice_cmp nat_cmp) p (record { base = f.base; signs = signs }) fs
    | true ↦ with_placed_family n (without_family fs p) p signs
  ]
]

-- the cell of the sign s in the family of the prefix p
abbrev pub cell_in : Families → List ℕ → ℕ → Option ℕ
cell_in fs p s = elim (family_at fs p) [
  | None ↦ None
  | Some f ↦ if list_any (nat_eq s) f.signs then Some (f.base + s) else None
]

-- the families after the signs of q are added one after the other, each below the string so far,
-- which is p at first
abbrev pub enter_after : ℕ → Families → List ℕ → List ℕ → Families
enter_after n fs p [] = fs
enter_after n fs p (s ∷ q) = enter_after n (with_sign n fs p s) (p ++ s ∷ []) q

-- the families after the string is entered; its first sign has a cell in the root. By the law this
-- is `enter`
abbrev pub enter_by : ℕ → Families → List ℕ → Families
enter_by n fs [] = fs
enter_by n fs (s ∷ q) = enter_after n fs (s ∷ []) q

-- a family with the signs whose strings pass the test, or none where no sign does
abbrev pub kept_family : (List ℕ → Bool) → List ℕ × Family → Families
kept_family keep e = elim (filter (λ s. keep (e.0 ++ s ∷ [])) e.1.signs) [
  | [] ↦ []
  | x ∷ xs ↦ (e.0, record { base = e.1.base; signs = x ∷ xs }) ∷ []
]
