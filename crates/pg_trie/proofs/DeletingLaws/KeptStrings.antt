-- Which strings the values need.
use Rattle.std.proofs.Common.{◌≡◌, ◌≢◌, ℕ, Bool, true, false, cond, ◌&&◌, ◌||◌, nat_eq, nat_lt, T, List, [], ◌∷◌, ◌++◌, length, map, take, drop, None, Some, inl, inr, refl, sym, ◌∙◌, ap, append_assoc}
use Rattle.std.proofs.lemmas.Bool.{cases_Bool, or_cases, or_left, or_right, and_parts, and_from}
use Rattle.std.proofs.lemmas.Cmp.{nat_list_cmp_total}
use Rattle.std.proofs.lemmas.List.{take-append-drop, map-append}
use Rattle.std.proofs.lemmas.List.Folds.{list_any-append}
use Rattle.std.specs.Ordering.{is_eq}
use Rattle.std.specs.Cmp.{tied_itself}
use Rattle.std.specs.Cmp.Lexicographic.{pointwise, texts_ties}
use Rattle.std.specs.List.{list_any, starts_with}
use Rattle.std.specs.FinMap.Entries.{find, is_sorted}
use Rattle.pg_cells.proofs.StringMaps.{order, same_from, equal_or_not, find_below, head_below, tail_sorted}
use Rattle.pg_trie.specs.declared.hopeless.TheConstants.{HOPELESS}
use Rattle.pg_trie.specs.Inside.Maps.{entries_in, entry_ahead, entries, as_value}
use Rattle.pg_trie.specs.Inside.FreshLists.{values_in}
use Rattle.pg_trie.proofs.ListLaws.Rising.{as_value_is}
use Rattle.pg_trie.proofs.DeletingLaws.Renewing.{value_kept, mark_left}

pub same_signs : (q p : List ℕ) → pointwise nat_eq q p ≡ true → q ≡ p
same_signs q p e = same_from q p (sym (texts_ties q p) ∙ e)

pub signs_same : (q : List ℕ) → pointwise nat_eq q q ≡ true
signs_same q = elim (equal_or_not q q) [ inl h ↦ texts_ties q q ∙ h.1 | inr h ↦ absurd (h.0 refl) ]

take_front : (q more : List ℕ) → take (length q) (q ++ more) ≡ q
take_front [] more = refl
take_front (x ∷ q) more = ap (λ l. x ∷ l) (take_front q more)

-- a string begins with its front
pub begins : (q more : List ℕ) → starts_with nat_eq (q ++ more) q ≡ true
begins q more = ap (pointwise nat_eq q) (take_front q more) ∙ signs_same q

-- and with no other string of that length
pub begun : (t q : List ℕ) → starts_with nat_eq t q ≡ true → t ≡ q ++ drop (length q) t
begun t q e = sym (take-append-drop (length q) t) ∙ ap (λ l. l ++ drop (length q) t) (sym (same_signs q (take (length q) t) e))

pub begun_less : (t q : List ℕ) (x : ℕ) → starts_with nat_eq t (q ++ x ∷ []) ≡ true → starts_with nat_eq t q ≡ true
begun_less t q x e =
    let rest = drop (length (q ++ x ∷ [])) t in
    ap (λ l. starts_with nat_eq l q) (begun t (q ++ x ∷ []) e ∙ append_assoc q (x ∷ []) rest) ∙ begins q (x ∷ rest)

-- a list has a value
abbrev pub has_value : List (ℕ × ℕ) → Bool
has_value [] = false
has_value (x ∷ xs) = nat_lt x.0 HOPELESS || has_value xs

pub without_values : (l : List (ℕ × ℕ)) → has_value l ≡ false → values_in l ≡ []
without_values [] e = refl
without_values (x ∷ xs) e = elim (cases_Bool (nat_lt x.0 HOPELESS)) [
  | inl is ↦ absurd (let n : true ≡ false = sym (ap (λ b. b || has_value xs) is) ∙ e in cc)
  | inr is ↦ mark_left x.0 x.1 xs is ∙ without_values xs (sym (ap (λ b. b || has_value xs) is) ∙ e)
]

pub with_values : (l : List (ℕ × ℕ)) → has_value l ≡ true → values_in l ≢ []
with_values [] e none = absurd (let n : false ≡ true = e in cc)
with_values (x ∷ xs) e none = elim (cases_Bool (nat_lt x.0 HOPELESS)) [
  | inl is ↦ let n : x ∷ values_in xs ≡ [] = sym (value_kept x.0 x.1 xs is) ∙ none in cc
  | inr is ↦ with_values xs (sym (ap (λ b. b || has_value xs) is) ∙ e) (sym (mark_left x.0 x.1 xs is) ∙ none)
]

-- a test of the strings of one string's entries
any_here : (test : List ℕ → Bool) (q : List ℕ) (l : List (ℕ × ℕ)) → list_any test (map (λ e. e.0.0) (entries_in as_value q l)) ≡ (test q && has_value l)
any_here test q [] = nothing (test q)
  where
    nothing : (b : Bool) → false ≡ (b && false)
    nothing true = refl
    nothing false = refl
any_here test q (x ∷ xs) =
    let more = any_here test q xs in
    elim (cases_Bool (nat_lt x.0 HOPELESS)) [
      | inl is ↦
          ap (λ o. list_any test (map (λ e. e.0.0) (entry_ahead as_value (q, x.1) o (entries_in as_value q xs)))) (as_value_is x.0 true is)
          ∙ ap (λ b. test q || b) more
          ∙ here (test q) (has_value xs)
          ∙ ap (λ b. test q && (b || has_value xs)) (sym is)
      | inr is ↦
          ap (λ o. list_any test (map (λ e. e.0.0) (entry_ahead as_value (q, x.1) o (entries_in as_value q xs)))) (as_value_is x.0 false is)
          ∙ more
          ∙ ap (λ b. test q && (b || has_value xs)) (sym is)
    ]
  where
    here : (a b : Bool) → (a || (a && b)) ≡ (a && true)
    here true b = refl
    here false b = refl

-- a test of the strings of all entries
pub any_entries : (test : List ℕ → Bool) (f : ℕ → List (ℕ × ℕ)) (es : List (List ℕ × ℕ)) → list_any test (map (λ e. e.0.0) (entries as_value f es)) ≡ list_any (λ e. test e.0 && has_value (f e.1)) es
unfolding entries
any_entries test f [] = refl
any_entries test f (e ∷ es) =
    ap (list_any test) (map-append (λ (e : (List ℕ × ℕ) × ℕ). e.0.0) (entries_in as_value e.0 (f e.1)) (entries as_value f es))
    ∙ list_any-append test (map (λ e. e.0.0) (entries_in as_value e.0 (f e.1))) (map (λ e. e.0.0) (entries as_value f es))
    ∙ ap (λ b. b || list_any test (map (λ e. e.0.0) (entries as_value f es))) (any_here test e.0 (f e.1))
    ∙ ap (λ b. (test e.0 && has_value (f e.1)) || b) (any_entries test f es)

-- what passes both tests is found, and what is found and passes them is there
pub any_find : (test : List ℕ → Bool) (g : ℕ → Bool) (es : List (List ℕ × ℕ)) → T (is_sorted order es) → list_any (λ e. test e.0 && g e.1) es ≡ true
    → (q : List ℕ) × (v : ℕ) × (find order q es ≡ Some v) × (test q ≡ true) × (g v ≡ true)
any_find test g [] sorted e = absurd (let n : false ≡ true = e in cc)
any_find test g (x ∷ xs) sorted e = elim (or_cases (test x.0 && g x.1) (list_any (λ e. test e.0 && g e.1) xs) e) [
  | inl here ↦
      let both = and_parts (test x.0) (g x.1) here in
      (x.0, x.1, ap (λ r. cond (is_eq r) (Some x.1) (find order x.0 xs)) (tied_itself nat_list_cmp_total x.0), both.0, both.1)
  | inr there ↦
      let rest = any_find test g xs (tail_sorted x xs sorted) there in (
        rest.0,
        rest.1,
        elim (equal_or_not rest.0 x.0) [
          | inl same ↦ absurd (let none = find_below x.0 xs (head_below x xs sorted) in let some : find order x.0 xs ≡ Some rest.1 = ap (λ q. find order q xs) (sym same.0)
              ∙ rest.2 in let n : None ≡ Some rest.1 = sym none ∙ some in cc)
          | inr other ↦ ap (λ b. cond b (Some x.1) (find order rest.0 xs)) other.1 ∙ rest.2
        ],
        rest.3,
        rest.4,
      )
]

pub find_any : (test : List ℕ → Bool) (g : ℕ → Bool) (es : List (List ℕ × ℕ)) (q : List ℕ) (v : ℕ) → find order q es ≡ Some v → test q ≡ true → g v ≡ true → list_any (λ e. test e.0 && g e.1) es ≡ true
find_any test g [] q v at t h = absurd (let n : None ≡ Some v = at in cc)
find_any test g (x ∷ xs) q v at t h = elim (equal_or_not q x.0) [
  | inl same ↦
      let value : Some x.1 ≡ Some v = sym (ap (λ b. cond b (Some x.1) (find order q xs)) same.1) ∙ at in
      let is : x.1 ≡ v = cc in
      or_left (test x.0 && g x.1) (list_any (λ e. test e.0 && g e.1) xs) (and_from (test x.0) (g x.1) (ap test (sym same.0) ∙ t) (ap g is ∙ h))
  | inr other ↦ or_right (test x.0 && g x.1) (list_any (λ e. test e.0 && g e.1) xs) (find_any test g xs q v (sym (ap (λ b. cond b (Some x.1) (find order q xs)) other.1) ∙ at) t h)
]
