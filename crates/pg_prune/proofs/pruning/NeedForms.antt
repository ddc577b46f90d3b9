-- The needs of all entries, one behind the other.
use Rattle.std.proofs.Common.{◌≡◌, ℕ, ◌+◌, List, [], ◌∷◌, ◌++◌, length, Option, Some, None, refl, sym, ap, ◌∙◌, arith, length-append}
use Rattle.std.specs.Prelude.{remove, filter_map}
use Rattle.std.specs.List.{cons_option, range_with_len}
use Rattle.std.specs.Option.{option_map, option_to_list}
use Rattle.pg_patterns.specs.Values.{Patterns}
use Rattle.pg_prune.specs.declared.pruned.Need.{Need}
use Rattle.pg_prune.specs.Prunes.{needs}
use Rattle.pg_prune.specs.Inside.positions.PositionInReach.{PositionInReach, need_at}
use Rattle.pg_prune.specs.Inside.Findings.{needs_from, need_list, first_difference}
use Rattle.pg_prune.proofs.rounds.RoundLaws.{regrouped}

-- a list without the element behind others
removed_behind : {X : Type 0} (before : List X) (e : X) (rest : List X) → remove (before ++ e ∷ rest) (length before) ≡ before ++ rest
removed_behind [] e rest = refl
removed_behind (b ∷ before) e rest = ap (λ xs. b ∷ xs) (removed_behind before e rest)

with_option : {X : Type 0} (o : Option X) (xs : List X) → cons_option o xs ≡ option_to_list o ++ xs
with_option None xs = refl
with_option (Some x) xs = refl

module _ (positions : List PositionInReach) where
  -- the need of the entry with the number i
  abbrev need_in : Patterns → ℕ → Option Need
  need_in Q i = option_map need_at (first_difference positions Q (remove Q i))

  needs_behind : (before rest : Patterns) → filter_map (need_in (before ++ rest)) (range_with_len (length before) (length rest)) ≡ needs_from positions before rest
  needs_behind before [] = refl
  needs_behind before (e ∷ rest) =
      let Q : Patterns = before ++ e ∷ rest in
      let more : List ℕ = range_with_len (length before + 1) (length rest) in
      let here : need_in Q (length before) ≡ option_map need_at (first_difference positions Q (before ++ rest)) =
      ap (λ (R : Patterns). option_map need_at (first_difference positions Q R)) (removed_behind before e rest) in
      let count : length (before ++ e ∷ []) ≡ length before + 1 = omega (arith, length-append before (e ∷ [])) in
      let others : filter_map (need_in Q) more ≡ needs_from positions (before ++ e ∷ []) rest =
      ap (λ n. filter_map (need_in Q) (range_with_len n (length rest))) (sym count)
      ∙ ap (λ (R : Patterns). filter_map (need_in R) (range_with_len (length (before ++ e ∷ [])) (length rest))) (sym (regrouped before e rest))
      ∙ needs_behind (before ++ e ∷ []) rest in
      with_option (need_in Q (length before)) (filter_map (need_in Q) more)
      ∙ ap (λ o. option_to_list o ++ filter_map (need_in Q) more) here
      ∙ ap (λ ns. need_list (first_difference positions Q (before ++ rest)) ++ ns) others

  pub needs_are : (Q : Patterns) → needs positions Q ≡ needs_from positions [] Q
  needs_are Q = needs_behind [] Q
