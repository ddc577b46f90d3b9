-- The cells of a table: each is that of its string, or unused.
use Rattle.std.proofs.Common.{◌≡◌, ◌≢◌, ℕ, ◌+◌, ◌<◌, ◌≤◌, ◌⊎◌, inl, inr, Bool, true, false, cond, ◌||◌, nat_eq, List, [], ◌∷◌, ◌++◌, map, Option, None, Some, unwrap_or, refl, sym, ◌∙◌, ap, subst, arith}
use Rattle.std.specs.Prelude.{T}
use Rattle.std.specs.List.{All, list_any, find}
use Rattle.std.specs.FinMap.Entries.{is_sorted}
use Rattle.std.specs.Option.{option_map_or}
use Rattle.std.proofs.lemmas.Bool.{cases_Bool, false≢true, or_left, or_right, eqb-true, eq-eqb, cases_eq}
use Rattle.std.proofs.lemmas.List.{same_from_push}
use Rattle.std.proofs.lemmas.List.Elements.{All-append, All-cons, All-head, All-nil, All-tail, All-weaker}
use Rattle.std.proofs.lemmas.List.Folds.{list_any-append}
use Rattle.pg_types.specs.Placement.{Family, Families, family_at, used_cells, base_of, top}
use Rattle.pg_types.specs.Inside.PlacementSteps.{is_used}
use Rattle.pg_types.specs.Inside.Placing.{cell_of}
use Rattle.pg_cells.specs.Inside.linked.ValuedFamilies.{ValuedFamilies}
use Rattle.pg_cells.specs.Inside.linked.AreValuedFamilies.{AreValuedFamilies}
use Rattle.pg_cells.proofs.StringMaps.{order, same_itself, equal_or_not, find_below, head_below, tail_sorted}
use Rattle.pg_types.proofs.LeastBase.{used_le_top}
use Rattle.pg_cells.proofs.PlacementLaws.{cell_used}
use Rattle.pg_cells.proofs.StringCells.{cell_parts, parts_cell, base_parts}
use Rattle.pg_table.specs.declared.parts.cell.Cell.{Cell}
use Rattle.pg_table.specs.declared.parts.sizes.Sizes.{Sizes}
use Rattle.pg_table.specs.Inside.text.Cells.{last_sign, cell_for, unused_cell}
use Rattle.pg_table.specs.Texts.{cells_in_use}
use Rattle.pg_table.specs.Inside.text.Files.{cell_of_table}
use Rattle.pg_table.proofs.parts.FormLaws.{IsSoundCell}

-- the first element that passes a test does so, and where none is found none passes
pub find_cases : {X : Type 0} (test : X → Bool) (xs : List X) → ((x : X) × (find test xs ≡ Some x) × (test x ≡ true)) ⊎ ((find test xs ≡ None) × (list_any test xs ≡ false))
find_cases test [] = inr (refl, refl)
find_cases test (x ∷ xs) = elim (cases_Bool (test x)) [
  | inl passes ↦ inl (x, ap (λ b. cond b (Some x) (find test xs)) passes, passes)
  | inr fails ↦ elim (find_cases test xs) [
    | inl h ↦ inl (h.0, ap (λ b. cond b (Some x) (find test xs)) fails ∙ h.1, h.2)
    | inr h ↦ inr (ap (λ b. cond b (Some x) (find test xs)) fails ∙ h.0, ap (λ b. b || list_any test xs) fails ∙ h.1)
  ]
]

-- what holds of all holds of the one that is found
find_has : {X : Type 0} (P : X → Type 0) (test : X → Bool) (xs : List X) (x : X) → All P xs → find test xs ≡ Some x → P x
find_has P test [] x all is = cc
find_has P test (y ∷ ys) x all is = elim (cases_Bool (test y)) [
  | inl passes ↦
      let same : Some y ≡ Some x = sym (ap (λ b. cond b (Some y) (find test ys)) passes) ∙ is in
      let one : y ≡ x = cc in
      subst P one (All-head P y ys all)
  | inr fails ↦ find_has P test ys x (All-tail P y ys all) (sym (ap (λ b. cond b (Some y) (find test ys)) fails) ∙ is)
]

pub last_sign_is : (p : List ℕ) (x : ℕ) → last_sign (p ++ x ∷ []) ≡ x
last_sign_is [] x = refl
last_sign_is (y ∷ []) x = refl
last_sign_is (y ∷ z ∷ p) x = last_sign_is (z ∷ p) x

-- each family of a sorted list is found by its prefix
families_found : (fs : Families) → T (is_sorted order fs) → All (λ (e : List ℕ × Family). family_at fs e.0 ≡ Some e.1) fs
families_found [] sorted = All-nil (λ (e : List ℕ × Family). family_at [] e.0 ≡ Some e.1)
families_found (e ∷ es) sorted =
    All-cons (λ (x : List ℕ × Family). family_at (e ∷ es) x.0 ≡ Some x.1) e es
    (ap (λ b. cond b (Some e.1) (family_at es e.0)) (same_itself e.0))
    (All-weaker (λ (x : List ℕ × Family). family_at es x.0 ≡ Some x.1) (λ (x : List ℕ × Family). family_at (e ∷ es) x.0 ≡ Some x.1) later es (families_found es (tail_sorted e es sorted)))
  where
    none : family_at es e.0 ≡ None
    none = find_below e.0 es (head_below e es sorted)

    later : (x : List ℕ × Family) → family_at es x.0 ≡ Some x.1 → family_at (e ∷ es) x.0 ≡ Some x.1
    later x is = elim (equal_or_not x.0 e.0) [
      | inl same ↦ let gone : None ≡ Some x.1 = sym none ∙ ap (family_at es) (sym same.0) ∙ is in cc
      | inr other ↦ ap (λ b. cond b (Some e.1) (family_at es x.0)) other.1 ∙ is
    ]

-- a cell in use is that of its string, whose last sign it has
abbrev Use : Type 0
Use = ℕ × ℕ × List ℕ

abbrev IsUse : Families → Use → Type 0
IsUse fs c = (cell_of fs c.2 ≡ Some c.0) × (last_sign c.2 ≡ c.1)

family_uses : (fs : Families) (p : List ℕ) (f : Family) → family_at fs p ≡ Some f → (signs : List ℕ) → ((s : ℕ) → list_any (nat_eq s) signs ≡ true → list_any (nat_eq s) f.signs ≡ true)
    → All (IsUse fs) (map (λ s. (f.base + s, s, p ++ s ∷ [])) signs)
family_uses fs p f at [] within = All-nil (IsUse fs)
family_uses fs p f at (s ∷ signs) within =
    let has : list_any (nat_eq s) f.signs ≡ true = within s (or_left (nat_eq s s) (list_any (nat_eq s) signs) (eq-eqb s s refl)) in
    All-cons (IsUse fs) (f.base + s, s, p ++ s ∷ []) (map (λ s. (f.base + s, s, p ++ s ∷ [])) signs) (parts_cell fs p s f at has, last_sign_is p s)
    (family_uses fs p f at signs (λ t is. within t (or_right (nat_eq t s) (list_any (nat_eq t) signs) is)))

all_uses : (fs : Families) (es : Families) → All (λ (e : List ℕ × Family). family_at fs e.0 ≡ Some e.1) es → All (IsUse fs) (cells_in_use es)
all_uses fs [] found = All-nil (IsUse fs)
all_uses fs (e ∷ es) found =
    All-append (IsUse fs) (map (λ s. (e.1.base + s, s, e.0 ++ s ∷ [])) e.1.signs) (cells_in_use es)
    (family_uses fs e.0 e.1 (All-head (λ (e : List ℕ × Family). family_at fs e.0 ≡ Some e.1) e es found) e.1.signs (λ s is. is))
    (all_uses fs es (All-tail (λ (e : List ℕ × Family). family_at fs e.0 ≡ Some e.1) e es found))

-- the cells in use are those that are used
signs_used : (at base : ℕ) (p signs : List ℕ) → list_any (λ (c : Use). nat_eq at c.0) (map (λ s. (base + s, s, p ++ s ∷ [])) signs) ≡ list_any (nat_eq at) (map (λ s. base + s) signs)
signs_used at base p [] = refl
signs_used at base p (s ∷ signs) = ap (λ b. nat_eq at (base + s) || b) (signs_used at base p signs)

uses_used : (at : ℕ) (fs : Families) → list_any (λ (c : Use). nat_eq at c.0) (cells_in_use fs) ≡ is_used fs at
uses_used at [] = refl
uses_used at (e ∷ es) =
    list_any-append (λ (c : Use). nat_eq at c.0) (map (λ s. (e.1.base + s, s, e.0 ++ s ∷ [])) e.1.signs) (cells_in_use es)
    ∙ (λ i. signs_used at e.1.base e.0 e.1.signs i || uses_used at es i)
    ∙ sym (list_any-append (nat_eq at) (map (λ s. e.1.base + s) e.1.signs) (used_cells es))

-- the cell of a sign in a family with a base
pub cell_at_base : (fs : Families) (p : List ℕ) (x base c : ℕ) → base_of fs p ≡ Some base → cell_of fs (p ++ x ∷ []) ≡ Some c → c ≡ base + x
cell_at_base fs p x base c below is =
    let family = base_parts fs p base below in
    let parts = cell_parts fs (p ++ x ∷ []) c is in
    let ends = same_from_push p parts.front x parts.last parts.whole in
    let found : Some family.0 ≡ Some parts.family = sym family.1 ∙ ap (family_at fs) ends.0 ∙ parts.at in
    let same : family.0 ≡ parts.family = cc in
    let bases : parts.family.base ≡ base = ap (λ (f : Family). f.base) (sym same) ∙ family.2 in
    omega (arith, parts.is, ends.1)

module _ (h : ValuedFamilies ℕ) (held : AreValuedFamilies h) where
  -- a cell of a string is at most the top
  pub cell_within : (q : List ℕ) (c : ℕ) → cell_of h.families q ≡ Some c → c ≤ top h.families
  cell_within q c is =
      let parts = cell_parts h.families q c is in
      used_le_top h.families c (ap (λ i. is_used h.families i) parts.is ∙ cell_used h.families parts.front parts.family parts.last parts.at parts.has)

  -- and its last sign is one of the table
  pub cell_sign : (q : List ℕ) (c : ℕ) → cell_of h.families q ≡ Some c → (1 ≤ last_sign q) × (last_sign q ≤ h.signs)
  cell_sign q c is =
      let parts = cell_parts h.families q c is in
      let last : last_sign q ≡ parts.last = ap last_sign parts.whole ∙ last_sign_is parts.front parts.last in
      let sign = held.signs parts.front parts.last c (ap (cell_of h.families) (sym parts.whole) ∙ is) in
      (omega (arith, sign.0), omega (arith, sign.1))

  -- a family has its base below the top
  pub base_within : (q : List ℕ) (base : ℕ) → base_of h.families q ≡ Some base → base < top h.families
  base_within q base is =
      let some = held.filled q base is in
      let sign = cell_sign (q ++ some.0 ∷ []) some.1 some.2 in
      let last : last_sign (q ++ some.0 ∷ []) ≡ some.0 = last_sign_is q some.0 in
      let same : some.1 ≡ base + some.0 = cell_at_base h.families q some.0 base some.1 is some.2 in
      let within : some.1 ≤ top h.families = cell_within (q ++ some.0 ∷ []) some.1 some.2 in
      omega (arith, sign.0)

  module _ (heads : List ℕ → ℕ) where
    -- the cell in use with this number, if there is one
    abbrev in_use : ℕ → Use → Bool
    in_use at c = nat_eq at c.0

    abbrev cell_in_use : Use → Cell
    cell_in_use c = record { sign = c.1; child = unwrap_or (base_of h.families c.2) 0; head = heads c.2 }

    found_use : (at : ℕ) (c : Use) → find (in_use at) (cells_in_use h.families) ≡ Some c → IsUse h.families c
    found_use at c is = find_has (IsUse h.families) (in_use at) (cells_in_use h.families) c (all_uses h.families h.families (families_found h.families held.sorted)) is

    use_there : (q : List ℕ) (c : ℕ) → cell_of h.families q ≡ Some c → list_any (in_use c) (cells_in_use h.families) ≡ true
    use_there q c is =
        let parts = cell_parts h.families q c is in
        uses_used c h.families ∙ ap (is_used h.families) parts.is ∙ cell_used h.families parts.front parts.family parts.last parts.at parts.has

    -- the cell of a string
    pub cell_with : (q : List ℕ) (c : ℕ) → cell_of h.families q ≡ Some c → cell_of_table h.families heads c ≡ cell_for h.families heads q
    cell_with q c is = elim (find_cases (in_use c) (cells_in_use h.families)) [
      | inl found ↦
          let it = found_use c found.0 found.1 in
          let number : c ≡ found.0.0 = eqb-true c found.0.0 found.2 in
          let same : found.0.2 ≡ q = held.apart found.0.2 q c (it.0 ∙ ap Some (sym number)) is in
          let sign : found.0.1 ≡ last_sign q = sym it.1 ∙ ap last_sign same in
          ap (λ o. option_map_or cell_in_use o unused_cell) found.1
          ∙ (λ i. record { sign = sign i; child = unwrap_or (base_of h.families (same i)) 0; head = heads (same i) })
      | inr none ↦ absurd (false≢true (sym none.1 ∙ use_there q c is))
    ]

    -- a cell is that of a string, or no string has it
    pub cell_cases : (c : ℕ) → ((q : List ℕ) × (cell_of h.families q ≡ Some c) × (cell_of_table h.families heads c ≡ cell_for h.families heads q))
        ⊎ (((q : List ℕ) → cell_of h.families q ≢ Some c) × (cell_of_table h.families heads c ≡ unused_cell))
    cell_cases c = elim (find_cases (in_use c) (cells_in_use h.families)) [
      | inl found ↦
          let number : c ≡ found.0.0 = eqb-true c found.0.0 found.2 in
          let is : cell_of h.families found.0.2 ≡ Some c = (found_use c found.0 found.1).0 ∙ ap Some (sym number) in
          inl (found.0.2, is, cell_with found.0.2 c is)
      | inr none ↦ inr (
        (λ q is. false≢true (sym none.1 ∙ use_there q c is)),
        ap (λ o. option_map_or cell_in_use o unused_cell) none.0,
      )
    ]

    -- each cell may stand at its place
    pub cells_sound : (records : ℕ) → ((q : List ℕ) → heads q ≤ records) → (sizes : Sizes) → sizes.signs ≡ h.signs → sizes.cells ≡ top h.families + 1
        → sizes.records ≡ records → (at : ℕ) → IsSoundCell sizes at (cell_of_table h.families heads at)
    cells_sound records few sizes signs cells listed at = elim (cell_cases at) [
      | inl used ↦
          let q = used.0 in
          let sign = cell_sign q at used.1 in
          let child : unwrap_or (base_of h.families q) 0 < top h.families + 1 = child_within q (base_of h.families q) refl in
          subst (IsSoundCell sizes at) (sym used.2) (record {
            own = λ low. own q low used.1;
            unused = λ zero. absurd (omega (arith, sign.0));
            sign = omega (arith, sign.1);
            child = omega arith;
            head = omega (arith, few q);
          })
      | inr unused ↦ subst (IsSoundCell sizes at) (sym unused.1) (record {
        own = λ low. unused_own low unused.0;
        unused = λ zero. (refl, refl);
        sign = omega arith;
        child = omega arith;
        head = omega arith;
      })
    ]
      where
        child_within : (q : List ℕ) (o : Option ℕ) → base_of h.families q ≡ o → unwrap_or o 0 < top h.families + 1
        child_within q None is = omega arith
        child_within q (Some base) is = omega (arith, base_within q base is)

        own : (q : List ℕ) → at ≤ sizes.signs → cell_of h.families q ≡ Some at → last_sign q ≡ at
        own q low is =
            let parts = cell_parts h.families q at is in
            let last : last_sign q ≡ parts.last = ap last_sign parts.whole ∙ last_sign_is parts.front parts.last in
            let sign = cell_sign q at is in
            ap last_sign (held.apart q (at ∷ []) at is (held.alone at (omega (arith, parts.is, sign.0)) (omega arith)))

        unused_own : at ≤ sizes.signs → ((q : List ℕ) → cell_of h.families q ≢ Some at) → 0 ≡ at
        unused_own low none = elim (cases_eq at 0) [
          | inl zero ↦ sym zero
          | inr other ↦ absurd (none (at ∷ []) (held.alone at (omega arith) (omega arith)))
        ]
