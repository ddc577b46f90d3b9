-- Where the families of a trie lie in one row of cells. The signs that follow one prefix are a
-- family. It has a base, and its sign s has the cell base + s.
use Rattle.std.specs.Prelude.{ℕ, ◌+◌, ◌-◌, max, Bool, if◌then◌else◌, not, ◌&&◌, ◌||◌, nat_eq, nat_lt, nat_le, List, [], ◌∷◌, ◌++◌, length, map, filter, fold, take, get_or, Option, unwrap_or}
use Rattle.std.specs.List.{find, flat_map, list_any, list_all, range_with_len, starts_with}
use Rattle.std.specs.Ordering.{nat_cmp, eq_by_cmp}
use Rattle.std.specs.Cmp.Lexicographic.{slice_cmp}
use Rattle.std.specs.FinMap.{find as value_of, put}
use Rattle.std.specs.Option.{option_map, option_map_or}
use Rattle.pg_types.specs.declared.limits.TheConstants.{FEW_SIGNS, FAR_BELOW}

-- the base, and the signs in rising order
pub record Family : Type 0 where
  pub base : ℕ
  pub signs : List ℕ

-- the families, each with its prefix, in the order of the prefixes
abbrev pub Families : Type 0
Families = List (List ℕ × Family)

-- the family with the prefix
abbrev pub family_at : Families → List ℕ → Option Family
family_at fs p = value_of (slice_cmp nat_cmp) p fs

-- the base of the family with the prefix
abbrev pub base_of : Families → List ℕ → Option ℕ
base_of fs p = option_map (λ f. f.base) (family_at fs p)

-- the taken cells, family by family
abbrev pub used_cells : Families → List ℕ
used_cells fs = flat_map (λ e. map (λ s. e.1.base + s) e.1.signs) fs

-- the greatest taken cell
abbrev pub top : Families → ℕ
top fs = fold max 0 (used_cells fs)

-- whether signs may stand at the base b: no family has it, and their cells are free
abbrev pub fits_at : Families → List ℕ → ℕ → Bool
fits_at fs signs b = not (list_any (λ e. nat_eq b e.1.base) fs)
    && list_all (λ s. not (list_any (nat_eq (b + s)) (used_cells fs))) signs

-- the families with the sign s in the family of the prefix p. It keeps its base if its signs may
-- stand there, and else gets the least that they may stand at. The search begins at 1 for few
-- signs, and else this far below the greatest cell that the other families have
unfoldable pub with_sign : ℕ → Families → List ℕ → ℕ → Families
with_sign n fs p s = let old = family_at fs p in
    let others = filter (λ e. not (eq_by_cmp (slice_cmp nat_cmp) p e.0)) fs in
    let before = option_map_or (λ f. f.signs) old [] in
    let signs = filter (λ x. nat_lt x s) before ++ s ∷ filter (nat_lt s) before in
    let low = if nat_le (length signs) FEW_SIGNS then 1 else max 1 (top others - max FAR_BELOW n) in
    let bases = option_map_or (λ f. f.base ∷ []) old [] ++ range_with_len low (top others + 1) in
    let base = unwrap_or (find (fits_at others signs) bases) 0 in
    put (slice_cmp nat_cmp) p (record { base = base; signs = signs }) others

-- the root of a table of n signs: the empty prefix, base 0 and every sign
abbrev pub root : ℕ → Families
root n = ([], record { base = 0; signs = range_with_len 1 n }) ∷ []

-- the families after the string is entered: its signs from the second on, each below those before
abbrev pub enter : ℕ → Families → List ℕ → Families
enter n fs q = fold (λ fs k. with_sign n fs (take k q) (get_or q k 0)) fs
    (range_with_len 1 (length q - 1))

-- the families of patterns after the strings are entered in their order, from the root alone
abbrev pub entered_families : ℕ → List (List ℕ) → Families
entered_families n strings = fold (enter n) (root n) strings

-- whether a string keeps its cell at a level's end: one sign, or a prefix of a pattern's string
abbrev pub keeps_cell : List (List ℕ) → List ℕ → Bool
keeps_cell strings q = nat_le (length q) 1 || list_any (λ t. starts_with nat_eq t q) strings

-- the families at a level's end, where these are the strings of the patterns: each with the signs
-- whose strings keep their cells, and none where no sign does
abbrev pub kept_families : List (List ℕ) → Families → Families
kept_families strings fs = filter (λ e. nat_lt 0 (length e.1.signs)) (map (λ e.
    let signs = filter (λ s. keeps_cell strings (e.0 ++ s ∷ [])) e.1.signs in
    (e.0, record { base = e.1.base; signs = signs })) fs)
