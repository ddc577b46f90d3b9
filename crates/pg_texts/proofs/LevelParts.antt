-- The lines of all levels in one list are those of each level again, where the numbers of the levels rise.
use Rattle.std.proofs.Common.{◌≡◌, ◌≢◌, ℕ, ◌+◌, ◌<◌, ◌≤◌, ◌==◌, true, false, cond, List, [], ◌∷◌, ◌++◌, filter, refl, sym, ap, ◌∙◌, append_assoc, arith}
use Rattle.std.specs.List.{All, flat_map}
use Rattle.std.proofs.lemmas.Bool.{ne_eqb}
use Rattle.std.proofs.lemmas.Bool.Decides.{Decides-eqb}
use Rattle.std.proofs.lemmas.List.{append-nil}
use Rattle.std.proofs.lemmas.List.Elements.{All-head, All-tail, filter-append}

module _ {A X : Type 0} (part : A → List X) (number : A → ℕ) (level : X → ℕ) where
  -- the levels have the numbers from n on, and their lines have their numbers
  abbrev pub Rises : ℕ → List A → Type 0
  Rises n [] = Unit {0}
  Rises n (a ∷ ls) = (number a ≡ n) × All (λ x. level x ≡ n) (part a) × Rises (n + 1) ls

  -- the lines of a level in a list
  abbrev pub of_level : ℕ → List X → List X
  of_level n xs = filter (λ x. level x == n) xs

  all_kept : (n : ℕ) (xs : List X) → All (λ x. level x ≡ n) xs → of_level n xs ≡ xs
  all_kept n [] are = refl
  all_kept n (x ∷ xs) are =
      let here : (level x == n) ≡ true = (Decides-eqb (level x) n).1 (All-head (λ x. level x ≡ n) x xs are) in
      ap (λ b. cond b (x ∷ of_level n xs) (of_level n xs)) here ∙ ap (λ ys. x ∷ ys) (all_kept n xs (All-tail (λ x. level x ≡ n) x xs are))

  none_kept : (m n : ℕ) (xs : List X) → m ≢ n → All (λ x. level x ≡ m) xs → of_level n xs ≡ []
  none_kept m n [] other are = refl
  none_kept m n (x ∷ xs) other are =
      let is : level x ≡ m = All-head (λ x. level x ≡ m) x xs are in
      let here : (level x == n) ≡ false = ne_eqb (level x) n (λ same. other (sym is ∙ same)) in
      ap (λ b. cond b (x ∷ of_level n xs) (of_level n xs)) here ∙ none_kept m n xs other (All-tail (λ x. level x ≡ m) x xs are)

  none_later : (m n : ℕ) (ls : List A) → n < m → Rises m ls → of_level n (flat_map part ls) ≡ []
  none_later m n [] less rises = refl
  none_later m n (a ∷ ls) less rises =
      let other : m ≢ n = omega arith in
      filter-append (λ x. level x == n) (part a) (flat_map part ls)
      ∙ ap (λ ys. ys ++ of_level n (flat_map part ls)) (none_kept m n (part a) other rises.1)
      ∙ none_later (m + 1) n ls (omega arith) rises.2

  module _ {C : Type 0} (text : A → List X → List C) where
    among : (n : ℕ) (ls : List A) (before : List X) → ((k : ℕ) → n ≤ k → of_level k before ≡ []) → Rises n ls
        → flat_map (λ a. text a (of_level (number a) (before ++ flat_map part ls))) ls ≡ flat_map (λ a. text a (part a)) ls
    among n [] before none rises = refl
    among n (a ∷ ls) before none rises =
        let rest : List X = flat_map part ls in
        let here : of_level (number a) (before ++ (part a ++ rest)) ≡ part a =
        ap (λ k. of_level k (before ++ (part a ++ rest))) rises.0
        ∙ filter-append (λ x. level x == n) before (part a ++ rest)
        ∙ ap (λ ys. ys ++ of_level n (part a ++ rest)) (none n (omega arith))
        ∙ filter-append (λ x. level x == n) (part a) rest
        ∙ ap (λ ys. ys ++ of_level n rest) (all_kept n (part a) rises.1)
        ∙ ap (λ ys. part a ++ ys) (none_later (n + 1) n ls (omega arith) rises.2)
        ∙ append-nil (part a) in
        let none_more : (k : ℕ) → n + 1 ≤ k → of_level k (before ++ part a) ≡ [] = λ k least.
        let other : n ≢ k = omega arith in
        filter-append (λ x. level x == k) before (part a)
        ∙ ap (λ ys. ys ++ of_level k (part a)) (none k (omega arith))
        ∙ none_kept n k (part a) other rises.1 in
        let whole : flat_map (λ b. text b (of_level (number b) (before ++ (part a ++ rest)))) ls ≡ flat_map (λ b. text b (of_level (number b) ((before ++ part a) ++ rest))) ls =
        ap (λ xs. flat_map (λ b. text b (of_level (number b) xs)) ls) (sym (append_assoc before (part a) rest)) in
        ap (λ xs. text a xs ++ flat_map (λ b. text b (of_level (number b) (before ++ (part a ++ rest)))) ls) here
        ∙ ap (λ more. text a (part a) ++ more) (whole ∙ among (n + 1) ls (before ++ part a) none_more rises.2)

    -- a text of each level and its lines among all
    pub by_levels : (n : ℕ) (ls : List A) → Rises n ls → flat_map (λ a. text a (of_level (number a) (flat_map part ls))) ls ≡ flat_map (λ a. text a (part a)) ls
    by_levels n ls rises = among n ls [] (λ k least. refl) rises
