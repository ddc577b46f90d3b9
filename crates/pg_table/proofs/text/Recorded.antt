-- The lists that get a record: each is there once it is met, behind its own rest.
use Rattle.std.proofs.Common.{◌≡◌, ◌≢◌, ℕ, suc, zero, ◌+◌, ◌<◌, ◌≤◌, ◌⊎◌, inl, inr, Bool, true, false, cond, nat_eq, List, [], ◌∷◌, ◌++◌, length, fold, reverse, get_or, slice_get, None, Some, refl, sym, ◌∙◌, ap, subst, arith}
use Rattle.std.specs.List.{list_any, All, position, position_or_len, find}
use Rattle.std.specs.Option.{option_map_or}
use Rattle.std.specs.Cmp.{IsEquivalence, and_equiv, on_equiv, nat_eq_equiv}
use Rattle.std.specs.Cmp.Lexicographic.{pointwise, lists_equiv}
use Rattle.std.proofs.lemmas.Bool.{cases_Bool, cases_lt, false≢true, and_parts, or_cases, or_left, or_right, eqb-true, lt-ltb, le-ltb}
use Rattle.std.proofs.lemmas.List.{reverse-append}
use Rattle.std.proofs.lemmas.List.Folds.{find_at}
use Rattle.std.proofs.lemmas.List.Quantifiers.{position-Some}
use Rattle.std.proofs.lemmas.List.Sums.{fold-append}
use Rattle.std.proofs.lemmas.Option.{slice_get_within, slice_get-get_or, get_or_from_slice_get}
use Rattle.pg_types.specs.Tails.{suffixes, same_pair}
use Rattle.pg_table.specs.Inside.text.Sharing.{Lists, with_ends, with_list}
use Rattle.pg_table.specs.Texts.{head_among}
use Rattle.pg_table.proofs.text.TableCells.{find_cases}

abbrev pub same_list : List (ℕ × ℕ) → List (ℕ × ℕ) → Bool
same_list = pointwise same_pair

same_list_equiv : IsEquivalence same_list
same_list_equiv = lists_equiv (and_equiv (on_equiv (λ (k : ℕ × ℕ). k.0) nat_eq_equiv) (on_equiv (λ (k : ℕ × ℕ). k.1) nat_eq_equiv))

-- the test of two lists is equality
pub exact : (xs ys : List (ℕ × ℕ)) → same_list xs ys ≡ true → xs ≡ ys
exact [] [] e = refl
exact [] (y ∷ ys) e = absurd (false≢true e)
exact (x ∷ xs) [] e = absurd (false≢true e)
exact (x ∷ xs) (y ∷ ys) e =
    let parts = and_parts (same_pair x y) (same_list xs ys) e in
    let pair = and_parts (nat_eq x.0 y.0) (nat_eq x.1 y.1) parts.0 in
    let first : x.0 ≡ y.0 = eqb-true x.0 y.0 pair.0 in
    let second : x.1 ≡ y.1 = eqb-true x.1 y.1 pair.1 in
    let rest : xs ≡ ys = exact xs ys parts.1 in
    λ i. (first i, second i) ∷ rest i

pub itself : (xs : List (ℕ × ℕ)) → same_list xs xs ≡ true
itself xs = same_list_equiv.refl xs

-- an element of a longer list
module _ {X : Type 0} where
  pub get_old : (xs ys : List X) (i : ℕ) (x : X) → slice_get xs i ≡ Some x → slice_get (xs ++ ys) i ≡ Some x
  get_old [] ys i x at = cc
  get_old (y ∷ xs) ys zero x at = at
  get_old (y ∷ xs) ys (suc i) x at = get_old xs ys i x at

  pub get_last : (xs : List X) (y : X) → slice_get (xs ++ y ∷ []) (length xs) ≡ Some y
  get_last [] y = refl
  get_last (x ∷ xs) y = get_last xs y

  pub get_cases : (xs : List X) (y : X) (i : ℕ) (x : X) → slice_get (xs ++ y ∷ []) i ≡ Some x → (slice_get xs i ≡ Some x) ⊎ ((i ≡ length xs) × (x ≡ y))
  get_cases [] y zero x at = inr (refl, cc)
  get_cases [] y (suc i) x at = cc
  get_cases (z ∷ xs) y zero x at = inl at
  get_cases (z ∷ xs) y (suc i) x at = elim (get_cases xs y i x at) [ inl h ↦ inl h | inr h ↦ inr (ap suc h.0, h.1) ]

-- a list is among others
abbrev pub Among : Lists → List (ℕ × ℕ) → Type 0
Among lists l = (i : ℕ) × (slice_get lists i ≡ Some l)

among_test : (lists : Lists) (l : List (ℕ × ℕ)) → list_any (same_list l) lists ≡ true → Among lists l
among_test [] l e = absurd (false≢true e)
among_test (m ∷ lists) l e = elim (or_cases (same_list l m) (list_any (same_list l) lists) e) [
  | inl here ↦ (0, ap Some (sym (exact l m here)))
  | inr later ↦ let found = among_test lists l later in (suc found.0, found.1)
]

pub test_among : (lists : Lists) (l : List (ℕ × ℕ)) (i : ℕ) → slice_get lists i ≡ Some l → list_any (same_list l) lists ≡ true
test_among [] l i at = cc
test_among (m ∷ lists) l zero at = let same : m ≡ l = cc in or_left (same_list l m) (list_any (same_list l) lists) (ap (same_list l) same ∙ itself l)
test_among (m ∷ lists) l (suc i) at = or_right (same_list l m) (list_any (same_list l) lists) (test_among lists l i at)

-- one more list: it was there, or it stands last
pub with_cases : (lists : Lists) (l : List (ℕ × ℕ)) → (Among lists l × (with_list lists l ≡ lists)) ⊎ ((list_any (same_list l) lists ≡ false) × (with_list lists l ≡ lists ++ l ∷ []))
with_cases lists l = elim (cases_Bool (list_any (same_list l) lists)) [
  | inl there ↦ inl (among_test lists l there, ap (λ b. cond b lists (lists ++ l ∷ [])) there)
  | inr new ↦ inr (new, ap (λ b. cond b lists (lists ++ l ∷ [])) new)
]

-- all lists stay where they are
pub record Grows (old new : Lists) : Type 0 where
  pub keeps : (i : ℕ) (l : List (ℕ × ℕ)) → slice_get old i ≡ Some l → slice_get new i ≡ Some l

-- each list is not empty, its pairs are good, and its rest is empty or stands before it
pub record IsOrdered (Good : ℕ × ℕ → Type 0) (lists : Lists) (i : ℕ) (l : List (ℕ × ℕ)) : Type 0 where
  pub first : ℕ × ℕ
  pub rest : List (ℕ × ℕ)
  pub whole : l ≡ first ∷ rest
  pub good : Good first
  pub before : (rest ≡ []) ⊎ ((j : ℕ) × (j < i) × (slice_get lists j ≡ Some rest))

-- the whole list comes behind its shorter ends
pub ends_more : (lists : Lists) (x : ℕ × ℕ) (rest : List (ℕ × ℕ)) → with_ends lists (x ∷ rest) ≡ with_list (with_ends lists rest) (x ∷ rest)
ends_more lists x rest =
    ap (fold with_list lists) (reverse-append ((x ∷ rest) ∷ []) (suffixes rest)) ∙ fold-append with_list lists (reverse (suffixes rest)) ((x ∷ rest) ∷ [])

module _ (Good : ℕ × ℕ → Type 0) where
  pub record AreOrdered (lists : Lists) : Type 0 where
    pub each : (i : ℕ) (l : List (ℕ × ℕ)) → slice_get lists i ≡ Some l → IsOrdered Good lists i l

  -- what more lists leave
  pub record Takes (old new : Lists) (l : List (ℕ × ℕ)) : Type 0 where
    pub grows : Grows old new
    pub ordered : AreOrdered new
    pub there : (l ≡ []) ⊎ Among new l

  pub with_takes : (lists : Lists) (x : ℕ × ℕ) (rest : List (ℕ × ℕ)) → Good x → AreOrdered lists → (rest ≡ []) ⊎ Among lists rest → Takes lists (with_list lists (x ∷ rest)) (x ∷ rest)
  with_takes lists x rest good ordered before = elim (with_cases lists (x ∷ rest)) [
    | inl there ↦ subst (λ new. Takes lists new (x ∷ rest)) (sym there.1) (record { grows = record { keeps = λ i l at. at }; ordered = ordered; there = inr there.0 })
    | inr new ↦ subst (λ more. Takes lists more (x ∷ rest)) (sym new.1) (record {
      grows = record { keeps = λ i l at. get_old lists ((x ∷ rest) ∷ []) i l at };
      ordered = record { each = each };
      there = inr (length lists, get_last lists (x ∷ rest));
    })
  ]
    where
      moved : (i : ℕ) (l : List (ℕ × ℕ)) → IsOrdered Good lists i l → IsOrdered Good (lists ++ (x ∷ rest) ∷ []) i l
      moved i l is = record {
        first = is.first;
        rest = is.rest;
        whole = is.whole;
        good = is.good;
        before = elim is.before [ inl none ↦ inl none | inr some ↦ inr (some.0, some.1, get_old lists ((x ∷ rest) ∷ []) some.0 is.rest some.2) ];
      }

      each : (i : ℕ) (l : List (ℕ × ℕ)) → slice_get (lists ++ (x ∷ rest) ∷ []) i ≡ Some l → IsOrdered Good (lists ++ (x ∷ rest) ∷ []) i l
      each i l at = elim (get_cases lists (x ∷ rest) i l at) [
        | inl old ↦ moved i l (ordered.each i l old)
        | inr last ↦ record {
          first = x;
          rest = rest;
          whole = last.1;
          good = good;
          before = elim before [
            | inl none ↦ inl none
            | inr some ↦ inr (some.0, let within = slice_get_within lists some.0 rest some.1 in omega (arith, last.0), get_old lists ((x ∷ rest) ∷ []) some.0 rest some.1)
          ];
        }
      ]

  pub ends_taken : (lists : Lists) (l : List (ℕ × ℕ)) → All Good l → AreOrdered lists → Takes lists (with_ends lists l) l
  ends_taken lists [] good ordered = record { grows = record { keeps = λ i l at. at }; ordered = ordered; there = inl refl }
  ends_taken lists (x ∷ rest) good ordered =
      let shorter = ends_taken lists rest (λ k d inside. good (suc k) d (omega arith)) ordered in
      let whole = with_takes (with_ends lists rest) x rest (good 0 x (omega arith)) shorter.ordered shorter.there in
      subst (λ new. Takes lists new (x ∷ rest)) (sym (ends_more lists x rest))
      (record { grows = record { keeps = λ i l at. whole.grows.keeps i l (shorter.grows.keeps i l at) }; ordered = whole.ordered; there = whole.there })

-- the head of a list: the number of the first place where it stands, counted from 1, or 0 where it is not among the lists
pub head_cases : (lists : Lists) (l : List (ℕ × ℕ)) → ((j : ℕ) × (head_among lists l ≡ j + 1) × (slice_get lists j ≡ Some l) × ((k : ℕ) → slice_get lists k ≡ Some l → j ≤ k))
    ⊎ ((head_among lists l ≡ 0) × ((k : ℕ) → slice_get lists k ≢ Some l))
head_cases lists l = elim (find_cases (same_list l) lists) [
  | inl found ↦
      let j : ℕ = position_or_len (same_list l) lists in
      let same : l ≡ found.0 = exact l found.0 found.2 in
      let at : slice_get lists j ≡ Some l = sym (find_at (same_list l) lists) ∙ found.1 ∙ ap Some (sym same) in
      let inside : j < length lists = slice_get_within lists j l at in
      let place : position (same_list l) lists ≡ Some j = ap (λ b. cond b (Some j) None) (lt-ltb j (length lists) inside) in
      inl (j, ap (λ o. option_map_or (λ i. i + 1) o 0) place, at, least j place)
  | inr none ↦
      let nowhere : (k : ℕ) → slice_get lists k ≢ Some l = λ k at. false≢true (sym none.1 ∙ test_among lists l k at) in
      inr (none_place none.0, nowhere)
]
  where
    least : (j : ℕ) → position (same_list l) lists ≡ Some j → (k : ℕ) → slice_get lists k ≡ Some l → j ≤ k
    least j place k at = elim (cases_lt k j) [
      | inl before ↦
          let told = position-Some (same_list l) lists j l place in
          let fails : same_list l (get_or lists k l) ≡ false = told.2 k before in
          absurd (false≢true (sym fails ∙ ap (same_list l) (get_or_from_slice_get lists k l l at) ∙ itself l))
      | inr after ↦ after
    ]

    none_place : find (same_list l) lists ≡ None → head_among lists l ≡ 0
    none_place none =
        let j : ℕ = position_or_len (same_list l) lists in
        let missing : slice_get lists j ≡ None = sym (find_at (same_list l) lists) ∙ none in
        elim (cases_lt j (length lists)) [
          | inl inside ↦ absurd (let e : None ≡ Some (get_or lists j l) = sym missing ∙ slice_get-get_or lists j l inside in cc)
          | inr past ↦ ap (λ b. option_map_or (λ i. i + 1) (cond b (Some j) None) 0) (le-ltb j (length lists) past)
        ]

pub head_within : (lists : Lists) (l : List (ℕ × ℕ)) → head_among lists l ≤ length lists
head_within lists l = elim (head_cases lists l) [
  | inl some ↦ let inside = slice_get_within lists some.0 l some.2 in omega (arith, some.1)
  | inr none ↦ omega (arith, none.0)
]
