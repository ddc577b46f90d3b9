-- The letters of the default table.
use Rattle.std.proofs.Common.{◌≡◌, ℕ, ◌+◌, ◌<◌, ◌==◌, Bool, true, false, not, ◌&&◌, List, [], ◌∷◌, ◌++◌, flat_map, refl, sym, ap, ◌∙◌, subst, arith, suc, zero}
use Rattle.std.specs.List.{list_any, range_with_len}
use Rattle.std.proofs.lemmas.Bool.{agree_below_at, and_parts, not-true, eqb-true}
use Rattle.std.proofs.lemmas.List.{append_assoc}
use Rattle.pg_translate.specs.Inside.spellings.FirstSpellings.{letters_in}
use Rattle.pg_translate.specs.Spellings.{clash}
use Rattle.pg_translate.specs.declared.head.TheConstants.{A_TO_Z}
use Rattle.pg_translate.specs.Inside.tables.Checks.{default_letter}

-- the first letters of the default table
abbrev pub defaults : ℕ → List (ℕ × List ℕ)
defaults n = flat_map default_letter (range_with_len 0 n)

-- whether the next letter fits behind the first ones
abbrev fits_next : ℕ → Bool
fits_next n =
    (letters_in (defaults n) == n)
    && (not (list_any (clash (n + 2, (97 + n) ∷ [])) (defaults n)) && not (list_any (clash (n + 2, (65 + n) ∷ [])) (defaults n ++ (n + 2, (97 + n) ∷ []) ∷ [])))

-- the next letter fits behind the first ones
pub record FitsNext (n : ℕ) : Type 0 where
  pub letters : letters_in (defaults n) ≡ n
  pub small : list_any (clash (n + 2, (97 + n) ∷ [])) (defaults n) ≡ false
  pub capital : list_any (clash (n + 2, (65 + n) ∷ [])) (defaults n ++ (n + 2, (97 + n) ∷ []) ∷ []) ≡ false

pub default_fits : (n : ℕ) → n < A_TO_Z → FitsNext n
default_fits n below =
    let all : fits_next n ≡ true = agree_below_at fits_next (λ k. true) A_TO_Z n refl below in
    let parts : ((letters_in (defaults n) == n) ≡ true)
    × ((not (list_any (clash (n + 2, (97 + n) ∷ [])) (defaults n)) && not (list_any (clash (n + 2, (65 + n) ∷ [])) (defaults n ++ (n + 2, (97 + n) ∷ []) ∷ []))) ≡ true) = and_parts _ _ all in
    let tests : (not (list_any (clash (n + 2, (97 + n) ∷ [])) (defaults n)) ≡ true) × (not (list_any (clash (n + 2, (65 + n) ∷ [])) (defaults n ++ (n + 2, (97 + n) ∷ []) ∷ [])) ≡ true) =
    and_parts _ _ parts.1 in
    record { letters = eqb-true _ _ parts.0; small = not-true _ tests.0; capital = not-true _ tests.1 }

-- the letters of one number more
flat_map_range : (first n : ℕ) → flat_map default_letter (range_with_len first (n + 1)) ≡ flat_map default_letter (range_with_len first n) ++ default_letter (first + n)
flat_map_range first zero = rw (let same : first + 0 ≡ first = omega arith in same) refl
flat_map_range first (suc n) =
    let rest : flat_map default_letter (range_with_len (first + 1) (n + 1)) ≡ flat_map default_letter (range_with_len (first + 1) n) ++ default_letter (first + 1 + n) = flat_map_range (first + 1) n in
    let same : first + 1 + n ≡ first + suc n = omega arith in
    let next : suc n + 1 ≡ suc (n + 1) = omega arith in
    rw (next) (ap (λ (ss : List (ℕ × List ℕ)). default_letter first ++ ss)
    (subst (λ (k : ℕ). flat_map default_letter (range_with_len (first + 1) (n + 1)) ≡ flat_map default_letter (range_with_len (first + 1) n) ++ default_letter k) same rest)
    ∙ sym (append_assoc (default_letter first) (flat_map default_letter (range_with_len (first + 1) n)) (default_letter (first + suc n))))

-- both spellings of a letter behind the first ones
pub default_more : (n : ℕ) → defaults n ++ (n + 2, (97 + n) ∷ []) ∷ [] ++ (n + 2, (65 + n) ∷ []) ∷ [] ≡ defaults (n + 1)
default_more n = append_assoc (defaults n) ((n + 2, (97 + n) ∷ []) ∷ []) ((n + 2, (65 + n) ∷ []) ∷ [])
    ∙ sym (flat_map_range 0 n ∙ ap (λ (k : ℕ). defaults n ++ default_letter k) (let same : 0 + n ≡ n = omega arith in same))
