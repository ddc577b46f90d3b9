-- The lists of the strings of patterns are recorded.
use Rattle.std.proofs.Common.{◌≡◌, ℕ, ◌⊎◌, inl, inr, true, cond, nat_eq, List, [], ◌∷◌, map, filter, fold, reverse, refl, sym, ◌∙◌, ap, subst, arith}
use Rattle.std.specs.List.{flat_map, list_all, All}
use Rattle.std.specs.Cmp.Lexicographic.{pointwise, texts_ties}
use Rattle.std.proofs.lemmas.Bool.{cases_Bool}
use Rattle.std.proofs.lemmas.List.Elements.{All-nil, All-cons}
use Rattle.std.proofs.lemmas.List.Sums.{fold-append}
use Rattle.pg_types.specs.Tails.{outputs_of, suffixes}
use Rattle.pg_patterns.specs.Inside.PatternMaps.{is_entry}
use Rattle.pg_patterns.specs.Texts.{strings_of}
use Rattle.pg_patterns.specs.Inside.PatternLines.{with_string, strings_by}
use Rattle.pg_patterns.proofs.Strings.{strings_as}
use Rattle.pg_types.proofs.BoolFacts.{and_first, and_second}
use Rattle.pg_patterns.specs.Values.{Patterns}
use Rattle.pg_patterns.proofs.Sound.{entry_bounds}
use Rattle.pg_cells.proofs.StringMaps.{same_from}
use Rattle.pg_table.specs.Inside.text.Sharing.{Lists, with_ends, with_list}
use Rattle.pg_table.specs.Texts.{recorded_lists}
use Rattle.pg_table.proofs.text.Recorded.{Among, AreOrdered, Grows, ends_taken}
use Rattle.pg_table.proofs.text.TableRecords.{IsGood}

-- a fold over lists that are joined
pub fold_flat : {A B X : Type 0} (f : B → A → B) (g : X → List A) (b : B) (xs : List X) → fold f b (flat_map g xs) ≡ fold (λ c x. fold f c (g x)) b xs
fold_flat f g b [] = refl
fold_flat f g b (x ∷ xs) = fold-append f b (g x) (flat_map g xs) ∙ fold_flat f g (fold f b (g x)) xs

-- the lists after more strings
abbrev pub with_strings : List ((List ℕ × ℕ) × ℕ) → Lists → List (List ℕ) → Lists
with_strings P lists qs = fold (λ ls q. with_ends ls (outputs_of P q)) lists qs

pub recorded_is : (P : Patterns) → recorded_lists P ≡ with_strings P [] (strings_of P)
recorded_is P = fold_flat with_list (λ q. reverse (suffixes (outputs_of P q))) [] (strings_of P)

-- the values of a string are good
pub outputs_good : (P : Patterns) (q : List ℕ) → list_all is_entry P ≡ true → All IsGood (outputs_of P q)
outputs_good [] q sound = All-nil _
outputs_good (e ∷ es) q sound =
    let bounds = entry_bounds e (and_first _ _ sound) in
    let rest = outputs_good es q (and_second _ _ sound) in
    elim (cases_Bool (pointwise nat_eq q e.0.0)) [
      | inl same ↦
          subst (λ t. All IsGood (map (λ f. (f.0.1, f.1)) (cond t (e ∷ filter (λ f. pointwise nat_eq q f.0.0) es) (filter (λ f. pointwise nat_eq q f.0.0) es)))) (sym same)
          (All-cons IsGood (e.0.1, e.1) (outputs_of es q) (record { low = bounds.low; high = bounds.high; dot = omega (arith, bounds.dot, bounds.few) }) rest)
      | inr other ↦ subst (λ t. All IsGood (map (λ f. (f.0.1, f.1)) (cond t (e ∷ filter (λ f. pointwise nat_eq q f.0.0) es) (filter (λ f. pointwise nat_eq q f.0.0) es)))) (sym other) rest
    ]

-- a string is one of those of a list
abbrev pub IsIn : List ℕ → List (List ℕ) → Type 0
IsIn q [] = ⊥
IsIn q (r ∷ rs) = (q ≡ r) ⊎ IsIn q rs

in_with : (q r : List ℕ) (rs : List (List ℕ)) → IsIn q rs → IsIn q (with_string r rs)
in_with q r [] is = absurd is
in_with q r (s ∷ rs) is = elim (cases_Bool (pointwise nat_eq r s)) [
  | inl same ↦ subst (λ t. IsIn q (cond t (s ∷ rs) (r ∷ s ∷ rs))) (sym same) is
  | inr other ↦ subst (λ t. IsIn q (cond t (s ∷ rs) (r ∷ s ∷ rs))) (sym other) (inr is)
]

first_with : (r : List ℕ) (rs : List (List ℕ)) → IsIn r (with_string r rs)
first_with r [] = inl refl
first_with r (s ∷ rs) = elim (cases_Bool (pointwise nat_eq r s)) [
  | inl same ↦ subst (λ t. IsIn r (cond t (s ∷ rs) (r ∷ s ∷ rs))) (sym same) (inl (same_from r s (sym (texts_ties r s) ∙ same)))
  | inr other ↦ subst (λ t. IsIn r (cond t (s ∷ rs) (r ∷ s ∷ rs))) (sym other) (inl refl)
]

-- a string without a place in the strings has no values
pub no_outputs : (P : Patterns) (q : List ℕ) → (outputs_of P q ≡ []) ⊎ IsIn q (strings_by P)
no_outputs [] q = inl refl
no_outputs (e ∷ es) q = elim (cases_Bool (pointwise nat_eq q e.0.0)) [
  | inl same ↦ inr (subst (λ r. IsIn r (with_string e.0.0 (strings_by es))) (sym (same_from q e.0.0 (sym (texts_ties q e.0.0) ∙ same))) (first_with e.0.0 (strings_by es)))
  | inr other ↦ elim (no_outputs es q) [
    | inl none ↦ inl (ap (λ t. map (λ f. (f.0.1, f.1)) (cond t (e ∷ filter (λ f. pointwise nat_eq q f.0.0) es) (filter (λ f. pointwise nat_eq q f.0.0) es))) other ∙ none)
    | inr some ↦ inr (in_with q e.0.0 (strings_by es) some)
  ]
]

-- what strings leave, one after the other
pub record TakesStrings (P : Patterns) (old new : Lists) (qs : List (List ℕ)) : Type 0 where
  pub grows : Grows old new
  pub ordered : AreOrdered IsGood new
  pub there : (q : List ℕ) → IsIn q qs → (outputs_of P q ≡ []) ⊎ Among new (outputs_of P q)

pub strings_taken : (P : Patterns) → list_all is_entry P ≡ true → (lists : Lists) (qs : List (List ℕ)) → AreOrdered IsGood lists → TakesStrings P lists (with_strings P lists qs) qs
strings_taken P sound lists [] ordered = record { grows = record { keeps = λ i l at. at }; ordered = ordered; there = λ q is. absurd is }
strings_taken P sound lists (r ∷ qs) ordered =
    let one = ends_taken IsGood lists (outputs_of P r) (outputs_good P r sound) ordered in
    let rest = strings_taken P sound (with_ends lists (outputs_of P r)) qs one.ordered in
    record {
      grows = record { keeps = λ i l at. rest.grows.keeps i l (one.grows.keeps i l at) };
      ordered = rest.ordered;
      there = λ q is. elim is [
        | inl same ↦ subst (λ s. (outputs_of P s ≡ []) ⊎ Among (with_strings P (with_ends lists (outputs_of P r)) qs) (outputs_of P s)) (sym same)
            (elim one.there [ inl none ↦ inl none | inr some ↦ inr (some.0, rest.grows.keeps some.0 (outputs_of P r) some.1) ])
        | inr later ↦ rest.there q later
      ];
    }

-- nothing is recorded at first
pub none_ordered : AreOrdered IsGood []
none_ordered = record { each = λ i l at. cc }

module _ (P : Patterns) (sound : list_all is_entry P ≡ true) where
  pub recorded_ordered : AreOrdered IsGood (recorded_lists P)
  recorded_ordered = subst (AreOrdered IsGood) (sym (recorded_is P)) (strings_taken P sound [] (strings_of P) none_ordered).ordered

  pub recorded_known : (q : List ℕ) → (outputs_of P q ≡ []) ⊎ Among (recorded_lists P) (outputs_of P q)
  recorded_known q = elim (no_outputs P q) [
    | inl none ↦ inl none
    | inr some ↦ subst (λ lists. (outputs_of P q ≡ []) ⊎ Among lists (outputs_of P q)) (sym (recorded_is P)) ((strings_taken P sound [] (strings_of P) none_ordered).there q (subst (IsIn q) (sym (strings_as P)) some))
  ]
