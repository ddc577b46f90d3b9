-- The lists of the strings of a word, one after the other.
use Rattle.std.specs.Prelude.{ℕ, ◌+◌, nat_eq, if◌then◌else◌, List, [], ◌∷◌, ◌++◌, length, max}

-- the greatest number of a list at position p, where its string stands from `start` on
abbrev pub by_list : (ℕ × ℕ → ℕ) → ℕ → List (ℕ × ℕ) → ℕ → ℕ
by_list number start [] p = 0
by_list number start (x ∷ xs) p = max (if nat_eq (start + x.1) p then number x else 0)
    (by_list number start xs p)

-- `number` is what a record counts for in a string of so many signs, and F is the list of a string
module _ (number : ℕ → ℕ × ℕ → ℕ) (F : List ℕ → List (ℕ × ℕ)) where
  -- the greatest number at p of the strings that go on from q, where the rest of the word is ahead
  abbrev pub by_strings : ℕ → List ℕ → List ℕ → ℕ → ℕ
  by_strings start q [] p = 0
  by_strings start q (s ∷ rest) p =
      max (by_list (number (length (q ++ s ∷ []))) start (F (q ++ s ∷ [])) p)
      (by_strings start (q ++ s ∷ []) rest p)

  -- the greatest number at p of the strings that stand from `start` on, or from a later sign on
  abbrev pub by_starts : ℕ → List ℕ → ℕ → ℕ
  by_starts start [] p = 0
  by_starts start (s ∷ rest) p = max (by_strings start [] (s ∷ rest) p)
      (by_starts (start + 1) rest p)
