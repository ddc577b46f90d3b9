-- What is said of a placement while it changes: the least base, whether a sign joins its family in
-- place, a sign that is taken out, and the cells of families and of strings.
use Rattle.std.specs.Prelude.{◌≡◌, ℕ, ◌+◌, ◌<◌, ◌≤◌, Bool, true, false, not, nat_eq, List, [], ◌∷◌, ◌++◌, filter, Option, Some, None, map}
use Rattle.std.specs.Ordering.{nat_cmp}
use Rattle.std.specs.Cmp.Lexicographic.{slice_cmp}
use Rattle.std.specs.FinMap.{put}
use Rattle.pg_types.specs.Placement.{Family, Families, family_at}
use Rattle.pg_types.specs.Inside.PlacementSteps.{cell_in, is_used, without_family}

-- b is the least number from low on that meets the test
pub record IsLeast (test : ℕ → Bool) (low b : ℕ) : Type 0 where
  pub from : low ≤ b
  pub meets : test b ≡ true
  pub first : (k : ℕ) → low ≤ k → k < b → test k ≡ false

-- whether s joins the family of the prefix p in place: there is one, and the cell of s is free
abbrev pub joins_at : Families → List ℕ → ℕ → Bool
joins_at fs p s = elim (family_at fs p) [ None ↦ false | Some f ↦ not (is_used fs (f.base + s)) ]

-- the families without s in the family of p, which is gone where no sign is left
unfoldable pub without_sign : Families → List ℕ → ℕ → Families
without_sign fs p s = elim (family_at fs p) [
  | None ↦ fs
  | Some f ↦ elim (filter (λ x. not (nat_eq s x)) f.signs) [
    | [] ↦ without_family fs p
    | x ∷ xs ↦ put (slice_cmp nat_cmp) p (record { base = f.base; signs = x ∷ xs }) fs
  ]
]

-- the cells of a family
abbrev pub cells_of : Family → List ℕ
cells_of f = map (λ s. f.base + s) f.signs

-- the cell of the string that has q after the prefix p
abbrev pub cell_after : Families → List ℕ → List ℕ → Option ℕ
cell_after fs p [] = None
cell_after fs p (s ∷ []) = cell_in fs p s
cell_after fs p (s ∷ t ∷ q) = cell_after fs (p ++ s ∷ []) (t ∷ q)

-- the cell of a string
abbrev pub cell_of : Families → List ℕ → Option ℕ
cell_of fs q = cell_after fs [] q
