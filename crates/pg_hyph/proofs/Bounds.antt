-- The greatest number of all strings of a word: within each bound on the numbers of those that stand in it, and over each of them.
use Rattle.std.proofs.Common.{◌≡◌, ℕ, ◌+◌, ◌≤◌, max, nat_eq, true, false, cond, inl, inr, List, [], ◌∷◌, ◌++◌, length, refl, sym, ap, subst, ◌∙◌, append_assoc, arith, length-append}
use Rattle.std.proofs.lemmas.Bool.{eqb-true, eq-eqb}
use Rattle.pg_hyph.specs.Inside.Walks.{by_list, by_strings, by_starts}
use Rattle.pg_hyph.proofs.Members.{In, most, most_first, most_rest}
use Rattle.pg_hyph.proofs.Cuts.{Cut}

list_within : (number : ℕ × ℕ → ℕ) (start p n : ℕ) (xs : List (ℕ × ℕ)) → ((x : ℕ × ℕ) → In x xs → start + x.1 ≡ p → number x ≤ n) → by_list number start xs p ≤ n
list_within number start p n [] each = omega arith
list_within number start p n (x ∷ xs) each =
    let rest : by_list number start xs p ≤ n = list_within number start p n xs (λ y later at. each y (inr later) at) in
    elim (nat_eq (start + x.1) p) as (λ b. nat_eq (start + x.1) p ≡ b → max (cond b (number x) 0) (by_list number start xs p) ≤ n) [
      | true ↦ λ at. most (number x) (by_list number start xs p) n (each x (inl refl) (eqb-true (start + x.1) p at)) rest
      | false ↦ λ other. most 0 (by_list number start xs p) n (omega arith) rest
    ] refl

list_over : (number : ℕ × ℕ → ℕ) (start p : ℕ) (xs : List (ℕ × ℕ)) (x : ℕ × ℕ) → In x xs → start + x.1 ≡ p → number x ≤ by_list number start xs p
list_over number start p [] x here at = absurd here
list_over number start p (y ∷ xs) x here at =
    elim here [
      | inl same ↦
          let there : start + y.1 ≡ p = ap (λ (z : ℕ × ℕ). start + z.1) (sym same) ∙ at in
          let is : cond (nat_eq (start + y.1) p) (number y) 0 ≡ number x = ap (λ b. cond b (number y) 0) (eq-eqb (start + y.1) p there) ∙ ap number (sym same) in
          most_first (cond (nat_eq (start + y.1) p) (number y) 0) (by_list number start xs p) (number x) (subst (λ n. number x ≤ n) (sym is) (omega arith))
      | inr later ↦ most_rest (cond (nat_eq (start + y.1) p) (number y) 0) (by_list number start xs p) (number x) (list_over number start p xs x later at)
    ]

module _ (number : ℕ → ℕ × ℕ → ℕ) (F : List ℕ → List (ℕ × ℕ)) where
  -- n bounds the numbers of the strings that stand in w with a dot at position p
  abbrev pub Bounds : List ℕ → ℕ → ℕ → Type 0
  Bounds w p n = (q : List ℕ) (x : ℕ × ℕ) → Cut w q x.1 p → In x (F q) → number (length q) x ≤ n

  strings_within : (w before : List ℕ) (p n : ℕ) → Bounds w p n → (q rest : List ℕ) → w ≡ before ++ (q ++ rest) → by_strings number F (length before) q rest p ≤ n
  strings_within w before p n each q [] whole = omega arith
  strings_within w before p n each q (s ∷ rest) whole =
      let next : w ≡ before ++ ((q ++ s ∷ []) ++ rest) = whole ∙ ap (λ (ys : List ℕ). before ++ ys) (sym (append_assoc q (s ∷ []) rest)) in
      most (by_list (number (length (q ++ s ∷ []))) (length before) (F (q ++ s ∷ [])) p) (by_strings number F (length before) (q ++ s ∷ []) rest p) n
      (list_within (number (length (q ++ s ∷ []))) (length before) p n (F (q ++ s ∷ [])) (λ x here at. each (q ++ s ∷ []) x (record { before = before; after = rest; whole = next; dot = at }) here))
      (strings_within w before p n each (q ++ s ∷ []) rest next)

  starts_within : (w : List ℕ) (p n : ℕ) → Bounds w p n → (before rest : List ℕ) (start : ℕ) → start ≡ length before → w ≡ before ++ rest → by_starts number F start rest p ≤ n
  starts_within w p n each before [] start at whole = omega arith
  starts_within w p n each before (s ∷ rest) start at whole =
      let here : by_strings number F start [] (s ∷ rest) p ≤ n = subst (λ k. by_strings number F k [] (s ∷ rest) p ≤ n) (sym at) (strings_within w before p n each [] (s ∷ rest) whole) in
      let size : length (before ++ s ∷ []) ≡ length before + 1 = length-append before (s ∷ []) in
      let next : start + 1 ≡ length (before ++ s ∷ []) = omega arith in
      most (by_strings number F start [] (s ∷ rest) p) (by_starts number F (start + 1) rest p) n here
      (starts_within w p n each (before ++ s ∷ []) rest (start + 1) next (whole ∙ sym (append_assoc before (s ∷ []) rest)))

  -- the greatest number is within each bound
  pub word_within : (w : List ℕ) (p n : ℕ) → Bounds w p n → by_starts number F 0 w p ≤ n
  word_within w p n each = starts_within w p n each [] w 0 refl refl

  strings_over : (start p : ℕ) (x : ℕ × ℕ) → start + x.1 ≡ p → (q : List ℕ) (s : ℕ) (more after : List ℕ) → In x (F (q ++ s ∷ more))
      → number (length (q ++ s ∷ more)) x ≤ by_strings number F start q (s ∷ (more ++ after)) p
  strings_over start p x at q s [] after here =
      most_first (by_list (number (length (q ++ s ∷ []))) start (F (q ++ s ∷ [])) p) (by_strings number F start (q ++ s ∷ []) after p) (number (length (q ++ s ∷ [])) x)
      (list_over (number (length (q ++ s ∷ []))) start p (F (q ++ s ∷ [])) x here at)
  strings_over start p x at q s (t ∷ more) after here =
      let same : (q ++ s ∷ []) ++ t ∷ more ≡ q ++ s ∷ t ∷ more = append_assoc q (s ∷ []) (t ∷ more) in
      most_rest (by_list (number (length (q ++ s ∷ []))) start (F (q ++ s ∷ [])) p) (by_strings number F start (q ++ s ∷ []) (t ∷ (more ++ after)) p) (number (length (q ++ s ∷ t ∷ more)) x)
      (subst (λ (r : List ℕ). number (length r) x ≤ by_strings number F start (q ++ s ∷ []) (t ∷ (more ++ after)) p) same
      (strings_over start p x at (q ++ s ∷ []) t more after (subst (λ (r : List ℕ). In x (F r)) (sym same) here)))

  starts_over : (p : ℕ) (x : ℕ × ℕ) (s : ℕ) (more after : List ℕ) → In x (F (s ∷ more)) → (before : List ℕ) (start : ℕ) → start + (length before + x.1)
      ≡ p → number (length (s ∷ more)) x ≤ by_starts number F start (before ++ (s ∷ (more ++ after))) p
  starts_over p x s more after here [] start at =
      let there : start + x.1 ≡ p = omega arith in
      most_first (by_strings number F start [] (s ∷ (more ++ after)) p) (by_starts number F (start + 1) (more ++ after) p) (number (length (s ∷ more)) x)
      (strings_over start p x there [] s more after here)
  starts_over p x s more after here (b ∷ before) start at =
      let there : start + 1 + (length before + x.1) ≡ p = omega arith in
      most_rest (by_strings number F start [] (b ∷ (before ++ (s ∷ (more ++ after)))) p) (by_starts number F (start + 1) (before ++ (s ∷ (more ++ after))) p) (number (length (s ∷ more)) x)
      (starts_over p x s more after here before (start + 1) there)

  -- and over the number of each string that stands in the word
  pub word_over : (w q : List ℕ) (p : ℕ) (x : ℕ × ℕ) → 1 ≤ length q → Cut w q x.1 p → In x (F q) → number (length q) x ≤ by_starts number F 0 w p
  word_over w [] p x some cut here = absurd (omega arith)
  word_over w (s ∷ more) p x some cut here =
      let at : length cut.before + x.1 ≡ p = cut.dot in
      let there : 0 + (length cut.before + x.1) ≡ p = omega arith in
      subst (λ (ys : List ℕ). number (length (s ∷ more)) x ≤ by_starts number F 0 ys p) (sym cut.whole) (starts_over p x s more cut.after here cut.before 0 there)
