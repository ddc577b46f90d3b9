-- A level's end changes nothing of families whose strings are those of the patterns.
use Rattle.std.proofs.Common.{◌≡◌, ℕ, suc, zero, ◌+◌, ◌≤◌, Bool, true, false, cond, not, ◌&&◌, ◌||◌, List, [], ◌∷◌, ◌++◌, length, map, fold, Option, Some, None, nat_eq, nat_lt, nat_le, nat_cmp, sym, refl, ap, subst, ◌∙◌, arith}
use Rattle.std.proofs.lemmas.Bool.{le-leb, eq-eqb, and_from, or_left, or_right}
use Rattle.std.proofs.lemmas.List.{append_assoc, length-append}
use Rattle.std.proofs.lemmas.List.Folds.{list_all-append}
use Rattle.std.specs.declared.cmp.Ordering.TheVariants.{Less, Equal, Greater}
use Rattle.std.specs.Ordering.{is_eq, eq_by_cmp}
use Rattle.std.specs.Cmp.Lexicographic.{slice_cmp}
use Rattle.std.specs.FinMap.{nat_cmp-IsAntisymmetric, slice_cmp-IsAntisymmetric}
use Rattle.std.specs.FinMap.Entries.{put, find, by_order}
use Rattle.std.specs.Option.{option_map_or}
use Rattle.std.specs.Prelude.{◌-◌, max, unwrap_or, if◌then◌else◌}
use Rattle.std.specs.List.{filter, find as first_of, flat_map, list_all, list_any, range_with_len, starts_with}
use Rattle.pg_types.specs.declared.limits.TheConstants.{FEW_SIGNS, FAR_BELOW}
use Rattle.pg_types.specs.Placement.{Family, Families, fits_at, keeps_cell, kept_families, with_sign, family_at, enter, root, top}
use Rattle.pg_types.specs.Inside.PlacementSteps.{enter_after, enter_by, kept_family, without_family}
use Rattle.pg_packed.specs.Inside.Starts.{pattern_families}
use Rattle.pg_types.proofs.EntryLists.{find_good, all_put}
use Rattle.pg_types.proofs.PlacementLaws.{enter_is, kept_is}
use Rattle.pg_types.proofs.BoolFacts.{and_first, and_second, all_weaker, some_is}
use Rattle.pg_patterns.specs.Values.{Patterns}

either_mono : (a b c d : Bool) → (a ≡ true → c ≡ true) → (b ≡ true → d ≡ true) → (a || b) ≡ true → (c || d) ≡ true
either_mono true b c d p q e = or_left c d (p refl)
either_mono false b c d p q e = or_right c d (q e)

module _ {X : Type 0} where
  any_weaker : (p q : X → Bool) (xs : List X) → ((x : X) → p x ≡ true → q x ≡ true) → list_any p xs ≡ true → list_any q xs ≡ true
  any_weaker p q [] weaker any = any
  any_weaker p q (x ∷ xs) weaker any = either_mono (p x) (list_any p xs) (q x) (list_any q xs) (weaker x) (any_weaker p q xs weaker) any

  all_true : (p : X → Bool) (xs : List X) → ((x : X) → p x ≡ true) → list_all p xs ≡ true
  all_true p [] each = refl
  all_true p (x ∷ xs) each = and_from _ _ (each x) (all_true p xs each)

  all_filter : (p t : X → Bool) (xs : List X) → list_all p xs ≡ true → list_all p (filter t xs) ≡ true
  all_filter p t [] all = refl
  all_filter p t (x ∷ xs) all =
      elim (t x) as (λ b. list_all p (cond b (x ∷ filter t xs) (filter t xs)) ≡ true) [
        | true ↦ and_from _ _ (and_first _ _ all) (all_filter p t xs (and_second _ _ all))
        | false ↦ all_filter p t xs (and_second _ _ all)
      ]

  filter_all : (p : X → Bool) (xs : List X) → list_all p xs ≡ true → filter p xs ≡ xs
  filter_all p [] all = refl
  filter_all p (x ∷ xs) all = ap (λ b. cond b (x ∷ filter p xs) (filter p xs)) (and_first _ _ all) ∙ ap (λ r. x ∷ r) (filter_all p xs (and_second _ _ all))

same_string : (a b : List ℕ) → slice_cmp nat_cmp a b ≡ Equal → a ≡ b
same_string a b same = slice_cmp-IsAntisymmetric nat_cmp-IsAntisymmetric a b same

-- the first of some signs on
starts_front : (t a b : List ℕ) → starts_with nat_eq t (a ++ b) ≡ true → starts_with nat_eq t a ≡ true
starts_front t [] b e = refl
starts_front [] (x ∷ a) b e = e
starts_front (y ∷ t) (x ∷ a) b e = and_from _ _ (and_first _ _ e) (starts_front t a b (and_second _ _ e))

starts_itself : (t : List ℕ) → starts_with nat_eq t t ≡ true
starts_itself [] = refl
starts_itself (x ∷ t) = and_from _ _ (eq-eqb x x refl) (starts_itself t)

module _ (strings : List (List ℕ)) where
  -- some string begins so
  abbrev begins_one : List ℕ → Bool
  begins_one q = list_any (λ t. starts_with nat_eq t q) strings

  -- the family has a sign, and the strings of its signs keep their cells
  abbrev stays : List ℕ × Family → Bool
  stays e = nat_le 1 (length e.1.signs) && list_all (λ s. keeps_cell strings (e.0 ++ s ∷ [])) e.1.signs

  kept_whole : (p : List ℕ) (base : ℕ) (signs left : List ℕ) → left ≡ signs → nat_le 1 (length signs) ≡ true
      → (elim left as (λ _. Families) [ [] ↦ [] | x ∷ xs ↦ (p, record { base = base; signs = x ∷ xs }) ∷ [] ]) ≡ (p, record { base = base; signs = signs }) ∷ []
  kept_whole p base [] left is some = cc
  kept_whole p base (s ∷ signs) left is some = ap (λ (l : List ℕ). elim l as (λ _. Families) [ [] ↦ [] | x ∷ xs ↦ (p, record { base = base; signs = x ∷ xs }) ∷ [] ]) is

  kept_same : (fs : Families) → list_all stays fs ≡ true → flat_map (kept_family (keeps_cell strings)) fs ≡ fs
  kept_same [] all = refl
  kept_same (e ∷ es) all =
      let here : stays e ≡ true = and_first _ _ all in
      ap (λ x. x ++ flat_map (kept_family (keeps_cell strings)) es) (kept_whole e.0 e.1.base e.1.signs _ (filter_all (λ s. keeps_cell strings (e.0 ++ s ∷ [])) e.1.signs (and_second _ _ here)) (and_first _ _ here))
      ∙ ap (λ r. e ∷ r) (kept_same es (and_second _ _ all))

  -- a string with which some string begins keeps its cell
  keeps_begun : (q : List ℕ) → begins_one q ≡ true → keeps_cell strings q ≡ true
  keeps_begun q begun = or_right (nat_le (length q) 1) (begins_one q) begun

  family_stays : (p : List ℕ) (base : ℕ) (signs : List ℕ) → 1 ≤ length signs → list_all (λ s. keeps_cell strings (p ++ s ∷ [])) signs ≡ true → stays (p, record { base = base; signs = signs }) ≡ true
  family_stays p base signs some all = and_from _ _ (le-leb 1 (length signs) some) all

  without_stays : (fs : Families) (p : List ℕ) → list_all stays fs ≡ true → list_all stays (without_family fs p) ≡ true
  without_stays fs p all = all_filter stays (λ e. not (eq_by_cmp (slice_cmp nat_cmp) p e.0)) fs all

  -- the signs of the family of a prefix, and with one more
  signs_stay : (fs : Families) (p : List ℕ) → list_all stays fs ≡ true → (o : Option Family) → family_at fs p ≡ o → list_all (λ s. keeps_cell strings (p ++ s ∷ [])) (option_map_or (λ f. f.signs) o []) ≡ true
  signs_stay fs p all None is = refl
  signs_stay fs p all (Some f) is = and_second _ _ (find_good (slice_cmp nat_cmp) stays same_string p f fs is all)

  one_sign : (good : ℕ → Bool) (s : ℕ) (xs : List ℕ) → good s ≡ true → list_all good xs ≡ true → list_all good (filter (λ x. nat_lt x s) xs ++ s ∷ filter (nat_lt s) xs) ≡ true
  one_sign good s xs new all =
      list_all-append good (filter (λ x. nat_lt x s) xs) (s ∷ filter (nat_lt s) xs)
      ∙ and_from _ _ (all_filter good (λ x. nat_lt x s) xs all) (and_from _ _ new (all_filter good (nat_lt s) xs all))

  one_more : (s : ℕ) (xs : List ℕ) → 1 ≤ length (filter (λ x. nat_lt x s) xs ++ s ∷ filter (nat_lt s) xs)
  one_more s xs = omega (arith, length-append (filter (λ x. nat_lt x s) xs) (s ∷ filter (nat_lt s) xs))

  sign_stays : (n : ℕ) (fs : Families) (p : List ℕ) (s : ℕ) → keeps_cell strings (p ++ s ∷ []) ≡ true → list_all stays fs ≡ true → list_all stays (with_sign n fs p s) ≡ true
  unfolding with_sign
  sign_stays n fs p s new all =
      let before = option_map_or (λ (f : Family). f.signs) (family_at fs p) [] in
      let signs = filter (λ x. nat_lt x s) before ++ s ∷ filter (nat_lt s) before in
      let others = without_family fs p in
      let low = if nat_le (length signs) FEW_SIGNS then 1 else max 1 (top others - max FAR_BELOW n) in
      let bases = option_map_or (λ (f : Family). f.base ∷ []) (family_at fs p) [] ++ range_with_len low (top others + 1) in
      let base = unwrap_or (first_of (fits_at others signs) bases) 0 in
      all_put (slice_cmp nat_cmp) stays same_string p (record { base = base; signs = signs }) others
      (family_stays p base signs (one_more s before)
      (one_sign (λ x. keeps_cell strings (p ++ x ∷ [])) s before new (signs_stay fs p all (family_at fs p) refl))) (without_stays fs p all)

  after_stays : (n : ℕ) (fs : Families) (p q : List ℕ) → begins_one (p ++ q) ≡ true → list_all stays fs ≡ true → list_all stays (enter_after n fs p q) ≡ true
  after_stays n fs p [] begun all = all
  after_stays n fs p (s ∷ q) begun all =
      let more : begins_one ((p ++ s ∷ []) ++ q) ≡ true = subst (λ x. begins_one x ≡ true) (sym (append_assoc p (s ∷ []) q)) begun in
      let new : keeps_cell strings (p ++ s ∷ []) ≡ true = keeps_begun (p ++ s ∷ [])
      (any_weaker (λ t. starts_with nat_eq t ((p ++ s ∷ []) ++ q)) (λ t. starts_with nat_eq t (p ++ s ∷ [])) strings (λ t. starts_front t (p ++ s ∷ []) q) more) in
      after_stays n (with_sign n fs p s) (p ++ s ∷ []) q more (sign_stays n fs p s new all)

  by_stays : (n : ℕ) (fs : Families) (q : List ℕ) → begins_one q ≡ true → list_all stays fs ≡ true → list_all stays (enter_by n fs q) ≡ true
  by_stays n fs [] begun all = all
  by_stays n fs (s ∷ q) begun all = after_stays n fs (s ∷ []) q begun all

  enter_stays : (n : ℕ) (fs : Families) (q : List ℕ) → begins_one q ≡ true → list_all stays fs ≡ true → list_all stays (enter n fs q) ≡ true
  enter_stays n fs q begun all = ap (list_all stays) (enter_is n fs q) ∙ by_stays n fs q begun all

  all_enter : (n : ℕ) (fs : Families) (es : List ((List ℕ × ℕ) × ℕ)) → list_all (λ e. begins_one e.0.0) es ≡ true → list_all stays fs ≡ true
      → list_all stays (fold (enter n) fs (map (λ (e : (List ℕ × ℕ) × ℕ). e.0.0) es)) ≡ true
  all_enter n fs [] begun all = all
  all_enter n fs (e ∷ es) begun all = all_enter n (enter n fs e.0.0) es (and_second _ _ begun) (enter_stays n fs e.0.0 (and_first _ _ begun) all)

  range_some : (n : ℕ) → 1 ≤ n → 1 ≤ length (range_with_len 1 n)
  range_some zero some = absurd (omega arith)
  range_some (suc n) some = omega arith

  root_stays : (n : ℕ) → 1 ≤ n → list_all stays (root n) ≡ true
  root_stays n some = and_from _ _ (family_stays [] 0 (range_with_len 1 n) (range_some n some) (all_true (λ s. keeps_cell strings ([] ++ s ∷ [])) (range_with_len 1 n) (λ s. refl))) refl

-- each string of the entries is one of them
all_there : (es : List ((List ℕ × ℕ) × ℕ)) → list_all (λ e. list_any (λ t. starts_with nat_eq t e.0.0) (map (λ x. x.0.0) es)) es ≡ true
all_there [] = refl
all_there (e ∷ es) =
    and_from _ _ (or_left _ _ (starts_itself e.0.0))
    (all_weaker (λ (x : (List ℕ × ℕ) × ℕ). list_any (λ t. starts_with nat_eq t x.0.0) (map (λ y. y.0.0) es))
    (λ (x : (List ℕ × ℕ) × ℕ). list_any (λ t. starts_with nat_eq t x.0.0) (map (λ y. y.0.0) (e ∷ es))) es
    (λ x there. or_right (starts_with nat_eq e.0.0 x.0.0) _ there) (all_there es))

-- the families after the patterns are entered have no cell that no pattern needs
pub kept_entered : (n : ℕ) (P : Patterns) → 1 ≤ n → kept_families (map (λ e. e.0.0) P) (pattern_families n P) ≡ pattern_families n P
kept_entered n P some =
    let strings : List (List ℕ) = map (λ e. e.0.0) P in
    kept_is strings (pattern_families n P) ∙ kept_same strings (pattern_families n P) (all_enter strings n (root n) P (all_there P) (root_stays strings n some))
