-- A string is entered sign by sign, and a family at a level's end is kept or goes.
use Rattle.std.proofs.Common.{◌≡◌, ℕ, ◌+◌, ◌-◌, cond, nat_lt, List, [], ◌∷◌, ◌++◌, length, map, filter, flat_map, fold, take, get_or, refl, sym, ◌∙◌, ap, arith}
use Rattle.std.specs.List.{range_with_len}
use Rattle.std.proofs.lemmas.Bool.{lt-ltb}
use Rattle.std.proofs.lemmas.List.{append_assoc, length_push}
use Rattle.std.proofs.Math.Seq.{take-append_seam, get_or-append_seam}
use Rattle.pg_types.specs.Placement.{Families, with_sign, enter, keeps_cell, kept_families}
use Rattle.pg_types.specs.Inside.PlacementSteps.{enter_after, enter_by, kept_family}

-- the step of `enter` with the sign at the index k
abbrev enter_at : ℕ → List ℕ → Families → ℕ → Families
enter_at n q fs k = with_sign n fs (take k q) (get_or q k 0)

enter_from : (n : ℕ) (q : List ℕ) (fs : Families) (a r : List ℕ) → q ≡ a ++ r → fold (enter_at n q) fs (range_with_len (length a) (length r)) ≡ enter_after n fs a r
enter_from n q fs a [] is = refl
enter_from n q fs a (s ∷ r) is =
    let here : enter_at n q fs (length a) ≡ with_sign n fs a s =
    ap (λ w. with_sign n fs (take (length a) w) (get_or w (length a) 0)) is
    ∙ ap (λ p. with_sign n fs p (get_or (a ++ s ∷ r) (length a) 0)) (take-append_seam a (s ∷ r))
    ∙ ap (with_sign n fs a) (get_or-append_seam a s r 0) in
    ap (λ g. fold (enter_at n q) g (range_with_len (length a + 1) (length r))) here
    ∙ ap (λ k. fold (enter_at n q) (with_sign n fs a s) (range_with_len k (length r))) (sym (length_push a s))
    ∙ enter_from n q (with_sign n fs a s) (a ++ s ∷ []) r (is ∙ sym (append_assoc a (s ∷ []) r))

pub enter_is : (n : ℕ) (fs : Families) (q : List ℕ) → enter n fs q ≡ enter_by n fs q
enter_is n fs [] = refl
enter_is n fs (s ∷ q) =
    let rest : length (s ∷ q) - 1 ≡ length q = omega arith in
    ap (λ k. fold (enter_at n (s ∷ q)) fs (range_with_len 1 k)) rest ∙ enter_from n (s ∷ q) fs (s ∷ []) q refl

pub kept_is : (strings : List (List ℕ)) (fs : Families) → kept_families strings fs ≡ flat_map (kept_family (keeps_cell strings)) fs
kept_is strings [] = refl
kept_is strings (e ∷ es) =
    elim (filter (λ s. keeps_cell strings (e.0 ++ s ∷ [])) e.1.signs) as (λ ss. filter (λ x. nat_lt 0 (length x.1.signs)) ((e.0, record { base = e.1.base; signs = ss }) ∷ map (λ x. (
      x.0,
      record {
        base = x.1.base;
        signs = filter (λ s. keeps_cell strings (x.0 ++ s ∷ [])) x.1.signs;
      },
    )) es) ≡ (elim ss as (λ _. Families) [ [] ↦ [] | x ∷ xs ↦ (e.0, record { base = e.1.base; signs = x ∷ xs }) ∷ [] ]) ++ flat_map (kept_family (keeps_cell strings)) es) [
      | [] ↦ kept_is strings es
      | x ∷ xs ↦ ap (λ b. cond b ((e.0, record { base = e.1.base; signs = x ∷ xs }) ∷ kept_families strings es) (kept_families strings es)) (lt-ltb 0 (length (x ∷ xs)) (omega arith))
          ∙ ap (λ (l : Families). (e.0, record { base = e.1.base; signs = x ∷ xs }) ∷ l) (kept_is strings es)
    ]
