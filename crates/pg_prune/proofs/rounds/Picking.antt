-- Entries by their numbers.
use Rattle.std.proofs.Common.{◌≡◌, ℕ, zero, suc, ◌+◌, ◌<◌, ◌≤◌, List, [], ◌∷◌, ◌++◌, map, length, get_or, take, refl, ap, ◌∙◌, arith}
use Rattle.std.specs.List.{All, range_with_len}
use Rattle.std.proofs.lemmas.List.{map-append, take_more}
use Rattle.std.proofs.lemmas.List.Elements.{All-nil, All-cons}
use Rattle.pg_patterns.specs.Values.{Patterns}
use Rattle.pg_prune.specs.Inside.rounds.Picks.{picked_entries, entry_of}

-- one number more
pub picked_more : (P : Patterns) (kept : List ℕ) (i : ℕ) → i < length kept → picked_entries P (take (i + 1) kept) ≡ picked_entries P (take i kept) ++ entry_of P (get_or kept i 0) ∷ []
picked_more P kept i inside = ap (picked_entries P) (take_more kept i 0 inside) ∙ map-append (entry_of P) (take i kept) (get_or kept i 0 ∷ [])

-- all numbers from one on
shifted : (e : (List ℕ × ℕ) × ℕ) (P : Patterns) (a n : ℕ) → map (entry_of (e ∷ P)) (range_with_len (suc a) n) ≡ map (entry_of P) (range_with_len a n)
shifted e P a zero = refl
shifted e P a (suc n) = ap (λ t. entry_of P a ∷ t) (ap (λ b. map (entry_of (e ∷ P)) (range_with_len b n)) (omega arith) ∙ shifted e P (a + 1) n)

-- all entries are the map
pub picked_all : (P : Patterns) → picked_entries P (range_with_len 0 (length P)) ≡ P
picked_all [] = refl
picked_all (e ∷ P) = ap (λ t. e ∷ t) (ap (λ b. map (entry_of (e ∷ P)) (range_with_len b (length P))) (omega arith) ∙ shifted e P 0 (length P) ∙ picked_all P)

pub range_below : (a n m : ℕ) → a + n ≤ m → All (λ i. i < m) (range_with_len a n)
range_below a zero m low = All-nil (λ i. i < m)
range_below a (suc n) m low = All-cons (λ i. i < m) a (range_with_len (a + 1) n) (omega arith) (range_below (a + 1) n m (omega arith))

ranged : (a n : ℕ) → range_with_len a (suc n) ≡ range_with_len a n ++ (a + n) ∷ []
ranged a zero = ap (λ k. k ∷ []) (omega arith)
ranged a (suc n) = ap (λ t. a ∷ t) (ranged (a + 1) n ∙ ap (λ k. range_with_len (a + 1) n ++ k ∷ []) (omega arith))

pub range_more : (n : ℕ) → range_with_len 0 (n + 1) ≡ range_with_len 0 n ++ n ∷ []
range_more n = (let next : n + 1 ≡ suc n = omega arith in ap (range_with_len 0) next) ∙ ranged 0 n ∙ ap (λ k. range_with_len 0 n ++ k ∷ []) (omega arith)
