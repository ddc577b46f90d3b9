-- The step of the placement by one search is the step by its cases. A sign that stands in its family changes nothing.
use Rattle.std.proofs.Common.{◌≡◌, ◌≢◌, ℕ, ◌+◌, ◌<◌, ◌≤◌, inl, inr, Bool, true, false, not, cond, ◌&&◌, T, nat_eq, nat_lt, List, [], ◌∷◌, ◌++◌, filter, length, Option, None, Some, unwrap_or, suc, zero, refl, sym, ◌∙◌, ap, arith}
use Rattle.std.proofs.lemmas.Bool.{cases_Bool, cases_eq, cases_lt, false≢true, or_cases, or_left, or_right, and_from, eq-eqb, ne_eqb, lt-ltb, le-ltb, both_ways}
use Rattle.std.proofs.lemmas.List.{same_from_push}
use Rattle.std.specs.List.{find as find_that, list_any, list_all, range_with_len}
use Rattle.std.specs.Option.{option_map, option_map_or}
use Rattle.std.specs.FinMap.{put, is_sorted}
use Rattle.pg_types.specs.Placement.{Family, Families, family_at, top, fits_at, with_sign}
use Rattle.pg_types.specs.Inside.PlacementSteps.{is_base, is_used, lowest_base, with_new_sign, with_one_sign, without_family}
use Rattle.pg_types.specs.Inside.Placing.{cell_of}
use Rattle.pg_types.proofs.LeastBase.{find_first, find_later}
use Rattle.pg_cells.specs.Inside.linked.ValuedFamilies.{ValuedFamilies}
use Rattle.pg_cells.specs.Inside.linked.AreValuedFamilies.{AreValuedFamilies}
use Rattle.pg_cells.proofs.StringMaps.{order, same_maps, find_put_same, find_put_other, find_without_same, find_without_other, sorted_put, sorted_without, equal_or_not}
use Rattle.pg_cells.proofs.PlacementLaws.{used_cell, cell_used, base_had}
use Rattle.pg_cells.proofs.LayoutLaws.{range_has}
use Rattle.pg_cells.proofs.StringCells.{cell_parts, parts_cell}
use Rattle.pg_cells.proofs.OneSign.{step_first, step_later, all_one_more}
use Rattle.pg_cells.proofs.AddTrie.{sign_new, sign_joins, sign_moves}

-- the signs below s, s, and those above it
abbrev spread : ℕ → List ℕ → List ℕ
spread s xs = filter (λ x. nat_lt x s) xs ++ s ∷ filter (nat_lt s) xs

-- of signs in rising order none is below the first, and all are above what is below it
none_below : (t : ℕ → Bool) (s a k : ℕ) → s ≤ a → filter (λ x. nat_lt x s) (filter t (range_with_len a k)) ≡ []
none_below t s a zero le = refl
none_below t s a (suc k) le = by (t a) (none_below t s (a + 1) k (omega arith))
  where
    by : (b : Bool) → filter (λ x. nat_lt x s) (filter t (range_with_len (a + 1) k)) ≡ [] → filter (λ x. nat_lt x s) (cond b (a ∷ filter t (range_with_len (a + 1) k)) (filter t (range_with_len (a + 1) k))) ≡ []
    by true rest = ap (λ c. cond c (a ∷ filter (λ x. nat_lt x s) (filter t (range_with_len (a + 1) k))) (filter (λ x. nat_lt x s) (filter t (range_with_len (a + 1) k)))) (le-ltb a s le) ∙ rest
    by false rest = rest

all_above : (t : ℕ → Bool) (s a k : ℕ) → s < a → filter (nat_lt s) (filter t (range_with_len a k)) ≡ filter t (range_with_len a k)
all_above t s a zero lt = refl
all_above t s a (suc k) lt = by (t a) (all_above t s (a + 1) k (omega arith))
  where
    by : (b : Bool) → filter (nat_lt s) (filter t (range_with_len (a + 1) k)) ≡ filter t (range_with_len (a + 1) k)
        → filter (nat_lt s) (cond b (a ∷ filter t (range_with_len (a + 1) k)) (filter t (range_with_len (a + 1) k))) ≡ cond b (a ∷ filter t (range_with_len (a + 1) k)) (filter t (range_with_len (a + 1) k))
    by true rest = ap (λ c. cond c (a ∷ filter (nat_lt s) (filter t (range_with_len (a + 1) k))) (filter (nat_lt s) (filter t (range_with_len (a + 1) k)))) (lt-ltb s a lt) ∙ ap (λ l. a ∷ l) rest
    by false rest = rest

-- the tests of a sign in front
front : (s a : ℕ) (xs : List ℕ) (below above : Bool) → nat_lt a s ≡ below → nat_lt s a ≡ above
    → spread s (a ∷ xs) ≡ cond below (a ∷ filter (λ x. nat_lt x s) xs) (filter (λ x. nat_lt x s) xs) ++ s ∷ cond above (a ∷ filter (nat_lt s) xs) (filter (nat_lt s) xs)
front s a xs below above e d = λ i. cond (e i) (a ∷ filter (λ x. nat_lt x s) xs) (filter (λ x. nat_lt x s) xs) ++ s ∷ cond (d i) (a ∷ filter (nat_lt s) xs) (filter (nat_lt s) xs)

-- a sign that is there already
step_same : (s a : ℕ) (xs : List ℕ) → a ≡ s → with_one_sign s (a ∷ xs) ≡ a ∷ xs
step_same s a xs e =
    ap (λ b. cond b (s ∷ a ∷ xs) (cond (nat_eq s a) (a ∷ xs) (a ∷ with_one_sign s xs))) (le-ltb s a (omega arith))
    ∙ ap (λ b. cond b (a ∷ xs) (a ∷ with_one_sign s xs)) (eq-eqb s a (sym e))

spread_is : (t : ℕ → Bool) (s a k : ℕ) → spread s (filter t (range_with_len a k)) ≡ with_one_sign s (filter t (range_with_len a k))
spread_is t s a zero = refl
spread_is t s a (suc k) = by (t a) (spread_is t s (a + 1) k)
  where
    by : (b : Bool) → spread s (filter t (range_with_len (a + 1) k)) ≡ with_one_sign s (filter t (range_with_len (a + 1) k))
        → spread s (cond b (a ∷ filter t (range_with_len (a + 1) k)) (filter t (range_with_len (a + 1) k))) ≡ with_one_sign s (cond b (a ∷ filter t (range_with_len (a + 1) k)) (filter t (range_with_len (a + 1) k)))
    by true rest = let xs = filter t (range_with_len (a + 1) k) in elim (cases_lt a s) [
      | inl lt ↦ front s a xs true false (lt-ltb a s lt) (le-ltb s a (omega arith)) ∙ ap (λ l. a ∷ l) rest ∙ sym (step_later s a xs lt)
      | inr le ↦ elim (cases_eq a s) [
        | inl e ↦ front s a xs false false (le-ltb a s le) (le-ltb s a (omega arith))
            ∙ (λ i. none_below t s (a + 1) k (omega arith) i ++ s ∷ all_above t s (a + 1) k (omega arith) i)
            ∙ ap (λ x. x ∷ xs) (sym e) ∙ sym (step_same s a xs e)
        | inr n ↦ front s a xs false true (le-ltb a s le) (lt-ltb s a (omega arith))
            ∙ (λ i. none_below t s (a + 1) k (omega arith) i ++ s ∷ a ∷ all_above t s (a + 1) k (omega arith) i)
            ∙ sym (step_first s a xs (omega arith))
      ]
    ]
    by false rest = rest

stands_still : (t : ℕ → Bool) (s a k : ℕ) → list_any (nat_eq s) (filter t (range_with_len a k)) ≡ true → with_one_sign s (filter t (range_with_len a k)) ≡ filter t (range_with_len a k)
stands_still t s a zero has = absurd (false≢true has)
stands_still t s a (suc k) has = by (t a) (stands_still t s (a + 1) k) has
  where
    by : (b : Bool) → (list_any (nat_eq s) (filter t (range_with_len (a + 1) k)) ≡ true → with_one_sign s (filter t (range_with_len (a + 1) k)) ≡ filter t (range_with_len (a + 1) k))
        → list_any (nat_eq s) (cond b (a ∷ filter t (range_with_len (a + 1) k)) (filter t (range_with_len (a + 1) k))) ≡ true
        → with_one_sign s (cond b (a ∷ filter t (range_with_len (a + 1) k)) (filter t (range_with_len (a + 1) k))) ≡ cond b (a ∷ filter t (range_with_len (a + 1) k)) (filter t (range_with_len (a + 1) k))
    by true rest has = let xs = filter t (range_with_len (a + 1) k) in elim (cases_eq a s) [
      | inl e ↦ step_same s a xs e
      | inr n ↦
          let there : list_any (nat_eq s) xs ≡ true = elim (or_cases (nat_eq s a) (list_any (nat_eq s) xs) has) [
            | inl here ↦ absurd (both_ways (nat_eq s a) (ne_eqb s a (λ z. n (sym z))) here)
            | inr later ↦ later
          ] in
          let le = (range_has t (a + 1) k s there).0 in
          step_later s a xs (omega arith) ∙ ap (λ l. a ∷ l) (rest there)
    ]
    by false rest has = rest has

-- a test that each element passes
each_passes : (test : ℕ → Bool) (xs : List ℕ) → ((x : ℕ) → list_any (nat_eq x) xs ≡ true → test x ≡ true) → list_all test xs ≡ true
each_passes test [] each = refl
each_passes test (x ∷ xs) each =
    and_from (test x) (list_all test xs) (each x (or_left (nat_eq x x) (list_any (nat_eq x) xs) (eq-eqb x x refl)))
    (each_passes test xs (λ y has. each y (or_right (nat_eq y x) (list_any (nat_eq y) xs) has)))

-- a family that is put in its place
put_others : (p : List ℕ) (f : Family) (fs : Families) → T (is_sorted order fs) → put order p f (without_family fs p) ≡ put order p f fs
put_others p f fs sorted = same_maps (put order p f (without_family fs p)) (put order p f fs) (sorted_put p f (without_family fs p) (sorted_without p fs sorted)) (sorted_put p f fs sorted)
    (λ q. elim (equal_or_not q p) [
      | inl e ↦ ap (family_at (put order p f (without_family fs p))) e.0 ∙ find_put_same p f (without_family fs p) ∙ sym (ap (family_at (put order p f fs)) e.0 ∙ find_put_same p f fs)
      | inr e ↦ find_put_other q p f (without_family fs p) e.0 ∙ find_without_other q p fs e.0 ∙ sym (find_put_other q p f fs e.0)
    ])

put_found : (p : List ℕ) (f : Family) (fs : Families) → T (is_sorted order fs) → family_at fs p ≡ Some f → put order p f fs ≡ fs
put_found p f fs sorted at = same_maps (put order p f fs) fs (sorted_put p f fs sorted) sorted (λ q. elim (equal_or_not q p) [
  | inl e ↦ ap (family_at (put order p f fs)) e.0 ∙ find_put_same p f fs ∙ sym (ap (family_at fs) e.0 ∙ at)
  | inr e ↦ find_put_other q p f fs e.0
])

-- the step by its parts: the family of p before, and the others
abbrev placed_at : Families → List ℕ → List ℕ → List ℕ → Families
placed_at others p signs bases = put order p (record { base = unwrap_or (find_that (fits_at others signs) bases) 0; signs = signs }) others

abbrev bases_of : ℕ → Families → List ℕ → List ℕ
bases_of n others signs = range_with_len (lowest_base n (length signs) (top others)) (top others + 1)

abbrev by_parts : ℕ → Families → List ℕ → ℕ → Option Family → Families
by_parts n others p s old =
    let signs = spread s (option_map_or (λ f. f.signs) old []) in
    placed_at others p signs (option_map_or (λ f. f.base ∷ []) old [] ++ bases_of n others signs)

parts_are : (n : ℕ) (fs : Families) (p : List ℕ) (s : ℕ) → with_sign n fs p s ≡ by_parts n (without_family fs p) p s (family_at fs p)
unfolding with_sign
parts_are n fs p s = refl

module _ {V : Type 0} (n : ℕ) (h : ValuedFamilies V) (held : AreValuedFamilies h) (p : List ℕ) (s : ℕ) where
  abbrev others : Families
  others = without_family h.families p

  rest_sorted : T (is_sorted order others)
  rest_sorted = sorted_without p h.families held.sorted

  -- the families but that of p are not at p
  other_family : (q : List ℕ) (g : Family) → family_at others q ≡ Some g → (q ≢ p) × (family_at h.families q ≡ Some g)
  other_family q g at = elim (equal_or_not q p) [
    | inl e ↦ absurd (let no : None ≡ Some g = sym (find_without_same p h.families) ∙ ap (family_at others) (sym e.0) ∙ at in cc)
    | inr e ↦ (e.0, sym (find_without_other q p h.families e.0) ∙ at)
  ]

  module _ (f : Family) (at : family_at h.families p ≡ Some f) where
    -- no other family has the cells and the base of this one
    own_cell : (x : ℕ) → list_any (nat_eq x) f.signs ≡ true → is_used others (f.base + x) ≡ false
    own_cell x has = elim (cases_Bool (is_used others (f.base + x))) [
      | inl used ↦
          let c = used_cell others rest_sorted (f.base + x) used in
          let o = other_family c.prefix c.family c.at in
          let whole = held.apart (p ++ x ∷ []) (c.prefix ++ c.sign ∷ []) (f.base + x) (parts_cell h.families p x f at has) (parts_cell h.families c.prefix c.sign c.family o.1 c.has ∙ ap Some (sym c.is)) in
          absurd (o.0 (sym (same_from_push p c.prefix x c.sign whole).0))
      | inr free ↦ free
    ]

    own_base : is_base others f.base ≡ false
    own_base = elim (cases_Bool (is_base others f.base)) [
      | inl had ↦
          let b = base_had others rest_sorted f.base had in
          let o = other_family b.0 b.1 b.2 in
          absurd (o.0 (sym (held.bases p b.0 f.base (ap (option_map (λ (g : Family). g.base)) at) (ap (option_map (λ (g : Family). g.base)) o.1 ∙ ap Some (sym b.3)))))
      | inr none ↦ none
    ]

    -- a cell of a sign that the family lacks is used by others, or is free
    lacked_cell : list_any (nat_eq s) f.signs ≡ false → is_used others (f.base + s) ≡ is_used h.families (f.base + s)
    lacked_cell lacks = elim (cases_Bool (is_used h.families (f.base + s))) [
      | inl used ↦
          let c = used_cell h.families held.sorted (f.base + s) used in
          let by_other : is_used others (c.family.base + c.sign) ≡ true = elim (equal_or_not c.prefix p) [
            | inl e ↦
                let one : Some c.family ≡ Some f = sym c.at ∙ ap (family_at h.families) e.0 ∙ at in
                let same : c.family ≡ f = cc in
                let base : c.family.base ≡ f.base = ap (λ (g : Family). g.base) same in
                let sign : c.sign ≡ s = omega (arith, c.is, base) in
                absurd (both_ways (list_any (nat_eq s) f.signs) lacks ((λ i. list_any (nat_eq (sym sign i)) (sym same i).signs) ∙ c.has))
            | inr e ↦ cell_used others c.prefix c.family c.sign (find_without_other c.prefix p h.families e.0 ∙ c.at) c.has
          ] in
          ap (is_used others) c.is ∙ by_other ∙ sym used
      | inr free ↦ elim (cases_Bool (is_used others (f.base + s))) [
        | inl used ↦
            let c = used_cell others rest_sorted (f.base + s) used in
            let o = other_family c.prefix c.family c.at in
            absurd (both_ways (is_used h.families (f.base + s)) free (ap (is_used h.families) c.is ∙ cell_used h.families c.prefix c.family c.sign o.1 c.has))
        | inr none ↦ none ∙ sym free
      ]
    ]

    own_fit : list_all (λ x. not (is_used others (f.base + x))) f.signs ≡ true
    own_fit = each_passes (λ x. not (is_used others (f.base + x))) f.signs (λ x has. ap not (own_cell x has))

    -- the family fits where it is, with the sign where its cell is free
    fits_with : (u : Bool) → is_used others (f.base + s) ≡ u → fits_at others (with_one_sign s f.signs) f.base ≡ not u
    fits_with u is =
        (λ i. not (own_base i) && all_one_more (λ x. not (is_used others (f.base + x))) s f.signs i)
        ∙ (λ i. not (is i) && own_fit i) ∙ all (not u)
      where
        all : (b : Bool) → (b && true) ≡ b
        all true = refl
        all false = refl

    fits_still : fits_at others f.signs f.base ≡ true
    fits_still = λ i. not (own_base i) && own_fit i

    one_more : spread s f.signs ≡ with_one_sign s f.signs
    one_more = ap (spread s) (held.members p f at) ∙ spread_is _ s 1 h.signs ∙ ap (with_one_sign s) (sym (held.members p f at))

    placed_is : (signs : List ℕ) → spread s f.signs ≡ signs → with_sign n h.families p s ≡ placed_at others p signs (f.base ∷ bases_of n others signs)
    placed_is signs is = parts_are n h.families p s ∙ ap (by_parts n others p s) at ∙ ap (λ ss. placed_at others p ss (f.base ∷ bases_of n others ss)) is

    -- the family keeps its base where it fits
    keeps_base : (signs : List ℕ) → spread s f.signs ≡ signs → fits_at others signs f.base ≡ true → with_sign n h.families p s ≡ put order p (record { base = f.base; signs = signs }) h.families
    keeps_base signs is fits =
        placed_is signs is
        ∙ ap (λ b. put order p (record { base = b; signs = signs }) others) (find_first (fits_at others signs) f.base (bases_of n others signs) fits)
        ∙ put_others p (record { base = f.base; signs = signs }) h.families held.sorted

    added_to : list_any (nat_eq s) f.signs ≡ false → with_sign n h.families p s ≡ with_new_sign n h.families p s
    added_to lacks = elim (cases_Bool (is_used h.families (f.base + s))) [
      | inl used ↦
          placed_is (with_one_sign s f.signs) one_more
          ∙ ap (λ b. put order p (record { base = b; signs = with_one_sign s f.signs }) others)
          (find_later (fits_at others (with_one_sign s f.signs)) f.base (bases_of n others (with_one_sign s f.signs)) (fits_with true (lacked_cell lacks ∙ used)))
          ∙ sym (sign_moves n h.families p s f at used)
      | inr free ↦ keeps_base (with_one_sign s f.signs) one_more (fits_with false (lacked_cell lacks ∙ free)) ∙ sym (sign_joins n h.families p s f at free)
    ]

  -- a sign that has no cell is added by the cases of the step
  pub sign_added : cell_of h.families (p ++ s ∷ []) ≡ None → with_sign n h.families p s ≡ with_new_sign n h.families p s
  sign_added none = by (family_at h.families p) refl
    where
      by : (o : Option Family) → family_at h.families p ≡ o → with_sign n h.families p s ≡ with_new_sign n h.families p s
      by None is = parts_are n h.families p s ∙ ap (by_parts n others p s) is ∙ sym (sign_new n h.families p s held.sorted is)
      by (Some f) is = added_to f is (elim (cases_Bool (list_any (nat_eq s) f.signs)) [
        | inl has ↦ absurd (let no : None ≡ Some (f.base + s) = sym none ∙ parts_cell h.families p s f is has in cc)
        | inr lacks ↦ lacks
      ])

  -- a sign that has its cell stays
  pub sign_stays : (cell : ℕ) → cell_of h.families (p ++ s ∷ []) ≡ Some cell → with_sign n h.families p s ≡ h.families
  sign_stays cell there =
      let c = cell_parts h.families (p ++ s ∷ []) cell there in
      let parts = same_from_push p c.front s c.last c.whole in
      let at : family_at h.families p ≡ Some c.family = ap (family_at h.families) parts.0 ∙ c.at in
      let has : list_any (nat_eq s) c.family.signs ≡ true = ap (λ y. list_any (nat_eq y) c.family.signs) parts.1 ∙ c.has in
      let members = held.members p c.family at in
      let same : with_one_sign s c.family.signs ≡ c.family.signs =
      ap (with_one_sign s) members ∙ stands_still _ s 1 h.signs (ap (list_any (nat_eq s)) (sym members) ∙ has) ∙ sym members in
      keeps_base c.family at c.family.signs (one_more c.family at ∙ same) (fits_still c.family at) ∙ put_found p c.family h.families held.sorted at
