-- Maps that break alike at all positions, said word by word and position by position.
use Rattle.std.proofs.Common.{◌≡◌, ℕ, suc, zero, ◌+◌, ◌-◌, ◌%◌, ◌≤◌, true, List, [], ◌∷◌, map, length, refl, sym, ap, ◌∙◌, arith, nat_le, Option, Some, None}
use Rattle.std.specs.List.{All, list_all, range_with_len}
use Rattle.std.specs.Option.{option_map_or}
use Rattle.std.proofs.lemmas.List.Elements.{All-nil, All-cons, All-head, All-tail, All-append}
use Rattle.std.proofs.lemmas.List.Folds.{list_all-append}
use Rattle.std.proofs.lemmas.Bool.{eq-eqb, eqb-true, and_from}
use Rattle.pg_types.proofs.BoolFacts.{and_first, and_second}
use Rattle.pg_translate.specs.Alphabets.{Alphabet}
use Rattle.pg_translate.specs.Reach.{positions}
use Rattle.pg_dict.specs.Word.{Word}
use Rattle.pg_patterns.specs.Values.{Patterns, value_at}
use Rattle.pg_prune.specs.Positions.{positions_in_reach}
use Rattle.pg_prune.specs.Inside.positions.PositionInReach.{PositionInReach}
use Rattle.pg_prune.specs.Inside.positions.WordPositions.{positions_in, positions_from}
use Rattle.pg_prune.proofs.positions.PositionForms.{positions_as}
use Rattle.pg_prune.specs.Prunes.{break_alike_at}
use Rattle.pg_prune.specs.Inside.rounds.EqualBreaks.{break_alike}
use Rattle.pg_prune.specs.Promises.{BreakAlike}
use Rattle.pg_prune.proofs.rounds.RoundLaws.{by_test}

module _ (P Q : Patterns) where
  -- the values of positions are odd in both maps, or in neither
  abbrev AlikeIn : Word → List ℕ → Type 0
  AlikeIn w ps = All (λ p. value_at P w.signs p % 2 ≡ value_at Q w.signs p % 2) ps

  alike_told : (number : ℕ) (w : Word) (ps : List ℕ) → list_all (break_alike_at P Q) (map (λ p. (record { word = number; position = p }, w.signs)) ps) ≡ true → AlikeIn w ps
  alike_told number w [] all = All-nil (λ p. value_at P w.signs p % 2 ≡ value_at Q w.signs p % 2)
  alike_told number w (p ∷ ps) all = All-cons (λ p. value_at P w.signs p % 2 ≡ value_at Q w.signs p % 2) p ps (eqb-true _ _ (and_first _ _ all)) (alike_told number w ps (and_second _ _ all))

  alike_from : (number : ℕ) (w : Word) (ps : List ℕ) → AlikeIn w ps → list_all (break_alike_at P Q) (map (λ p. (record { word = number; position = p }, w.signs)) ps) ≡ true
  alike_from number w [] all = refl
  alike_from number w (p ∷ ps) all = and_from _ _ (eq-eqb _ _ (All-head (λ p. value_at P w.signs p % 2 ≡ value_at Q w.signs p % 2) p ps all))
      (alike_from number w ps (All-tail (λ p. value_at P w.signs p % 2 ≡ value_at Q w.signs p % 2) p ps all))

  module _ (m : Alphabet) where
    abbrev AlikeWord : Word → Type 0
    AlikeWord w = AlikeIn w (positions m.left m.right (length w.signs))

    told_from : (number : ℕ) (ws : List Word) → list_all (break_alike_at P Q) (positions_from m number ws) ≡ true → All AlikeWord ws
    told_from number [] all = All-nil AlikeWord
    told_from number (w ∷ ws) all =
        let parts = sym (list_all-append (break_alike_at P Q) (positions_in m number w) (positions_from m (number + 1) ws)) ∙ all in
        All-cons AlikeWord w ws (alike_told number w (positions m.left m.right (length w.signs)) (and_first _ _ parts)) (told_from (number + 1) ws (and_second _ _ parts))

    from_told : (number : ℕ) (ws : List Word) → All AlikeWord ws → list_all (break_alike_at P Q) (positions_from m number ws) ≡ true
    from_told number [] all = refl
    from_told number (w ∷ ws) all =
        list_all-append (break_alike_at P Q) (positions_in m number w) (positions_from m (number + 1) ws)
        ∙ and_from _ _ (alike_from number w (positions m.left m.right (length w.signs)) (All-head AlikeWord w ws all)) (from_told (number + 1) ws (All-tail AlikeWord w ws all))

    pub breaks_told : (ws : List Word) → break_alike (positions_in_reach m ws) P Q ≡ true → BreakAlike m ws P Q
    breaks_told ws all = told_from 1 ws (ap (list_all (break_alike_at P Q)) (positions_as m ws) ∙ all)

    pub told_breaks : (ws : List Word) → BreakAlike m ws P Q → break_alike (positions_in_reach m ws) P Q ≡ true
    told_breaks ws all = sym (ap (list_all (break_alike_at P Q)) (positions_as m ws)) ∙ from_told 1 ws all

-- every position is behind the first letter
abbrev pub IsBehind : PositionInReach → Type 0
IsBehind x = 1 ≤ x.0.position

behind_from : (number : ℕ) (w : Word) (first count : ℕ) → 1 ≤ first → All IsBehind (map (λ p. (record { word = number; position = p }, w.signs)) (range_with_len first count))
behind_from number w first zero low = All-nil IsBehind
behind_from number w first (suc count) low = All-cons IsBehind _ _ low (behind_from number w (first + 1) count (omega arith))

behind_in : (m : Alphabet) (number : ℕ) (w : Word) → All IsBehind (positions_in m number w)
behind_in m number w =
    by_test (λ (o : Option (ℕ × ℕ)). All IsBehind (map (λ p. (record { word = number; position = p }, w.signs)) (option_map_or (λ ends. range_with_len ends.0 (ends.1 + 1 - ends.0)) o [])))
    (nat_le (m.left + m.right + 2) (length w.signs)) (Some (m.left + 1, length w.signs - m.right - 1)) None
    (λ _. behind_from number w (m.left + 1) (length w.signs - m.right - 1 + 1 - (m.left + 1)) (omega arith)) (λ _. All-nil IsBehind)

pub all_behind : (m : Alphabet) (number : ℕ) (ws : List Word) → All IsBehind (positions_from m number ws)
all_behind m number [] = All-nil IsBehind
all_behind m number (w ∷ ws) = All-append IsBehind (positions_in m number w) (positions_from m (number + 1) ws) (behind_in m number w) (all_behind m (number + 1) ws)
