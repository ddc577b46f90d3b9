-- The loop over the needs of entries with some numbers.
use Rattle.std.proofs.Common.{◌≡◌, ℕ, ◌+◌, ◌<◌, ◌≤◌, List, [], ◌∷◌, ◌++◌, map, length, get_or, take, drop, Option, Some, sym, subst, ap, ◌∙◌, append_assoc, take-append-drop}
use Rattle.std.specs.Prelude.{slice_get}
use Rattle.std.specs.List.{All}
use Rattle.std.proofs.lemmas.List.{append-nil, map-append, take_more, get_or-map}
use Rattle.std.proofs.lemmas.List.Elements.{All-take, All-drop}
use Rattle.pg_patterns.specs.Values.{Patterns}
use Rattle.pg_prune.specs.declared.pruned.Need.{Need}
use Rattle.pg_prune.specs.Inside.positions.PositionInReach.{PositionInReach, need_at}
use Rattle.pg_prune.specs.Prunes.{needs}
use Rattle.pg_prune.specs.Inside.Findings.{needs_from, need_list, first_difference}
use Rattle.pg_prune.proofs.pruning.NeedForms.{needs_are}
use Rattle.pg_prune.specs.Inside.rounds.Turns.{with_entry, without_entry, IsHeld, IsTallied, IsFound}
use Rattle.pg_prune.specs.Inside.rounds.Picks.{picked_entries, IsKeptSoFar, entry_of}
use Rattle.pg_prune.proofs.rounds.TurnSteps.{left_at, none_left}
use Rattle.pg_prune.proofs.rounds.RoundSteps.{turn_of, turn_from}

module _ (positions : List PositionInReach) (P : Patterns) (kept : List ℕ) where
  -- these are the needs of the first i entries
  abbrev pub NeedsSoFar : List Need → ℕ → Type 0
  NeedsSoFar found i = found ++ needs_from positions (picked_entries P (take i kept)) (picked_entries P (drop i kept)) ≡ needs positions (picked_entries P kept)

  pub needs_begin : NeedsSoFar [] 0
  needs_begin = sym (needs_are positions (picked_entries P kept))

  pub needs_end : (found : List Need) (i : ℕ) → length kept ≤ i → NeedsSoFar found i → found ≡ needs positions (picked_entries P kept)
  needs_end found i behind so =
      sym (append-nil found) ∙ ap (λ left. found ++ needs_from positions (picked_entries P (take i kept)) (picked_entries P left)) (sym (none_left kept i behind)) ∙ so

  pub needs_step : (found : List Need) (i : ℕ) → i < length kept → NeedsSoFar found i
      → NeedsSoFar (found ++ need_list (first_difference positions (with_entry (turn_of positions P (take i kept) (get_or kept i 0) (drop (i + 1) kept)))
      (without_entry (turn_of positions P (take i kept) (get_or kept i 0) (drop (i + 1) kept))))) (i + 1)
  needs_step found i inside so =
      let k = get_or kept i 0 in
      let before = picked_entries P (take i kept) in
      let behind = picked_entries P (drop (i + 1) kept) in
      let need = need_list (first_difference positions (before ++ entry_of P k ∷ behind) (before ++ behind)) in
      let longer : picked_entries P (take (i + 1) kept) ≡ before ++ entry_of P k ∷ [] = ap (picked_entries P) (take_more kept i 0 inside) ∙ map-append (entry_of P) (take i kept) (k ∷ []) in
      let left : picked_entries P (drop i kept) ≡ entry_of P k ∷ behind = ap (picked_entries P) (left_at kept i inside) in
      append_assoc found need (needs_from positions (picked_entries P (take (i + 1) kept)) behind)
      ∙ ap (λ (q : Patterns). found ++ (need ++ needs_from positions q behind)) longer
      ∙ ap (λ (q : Patterns). found ++ needs_from positions before q) (sym left)
      ∙ so

  -- the turn of the i-th entry
  pub need_turn : {V : Type 0} (items : V → List ℕ) (vs : List V) (holders : List (List ℕ)) (i : ℕ) (v : V) (numbers : List ℕ) (x : (List ℕ × ℕ) × ℕ)
      → IsKeptSoFar positions P (map items vs) holders kept → i < length kept
      → v ≡ get_or vs (get_or kept i 0) v → numbers ≡ items v → slice_get P (get_or kept i 0) ≡ Some x
      → IsHeld (turn_of positions P (take i kept) (get_or kept i 0) (drop (i + 1) kept)) holders numbers x.1
  need_turn items vs holders i v numbers x s inside is own entry =
      let whole : picked_entries P kept ≡ picked_entries P (take i kept) ++ picked_entries P (get_or kept i 0 ∷ drop (i + 1) kept) =
      ap (picked_entries P) (sym (take-append-drop i kept)) ∙ map-append (entry_of P) (take i kept) (drop i kept)
      ∙ ap (λ left. picked_entries P (take i kept) ++ picked_entries P left) (left_at kept i inside) in
      turn_from items positions P vs holders (take i kept) (get_or kept i 0) (drop (i + 1) kept) v numbers x s.all s.sound
      (All-take (λ i. i < length P) i kept s.within) (subst (All (λ i. i < length P)) (left_at kept i inside) (All-drop (λ i. i < length P) i kept s.within))
      (subst (λ (Q : Patterns). IsTallied positions Q holders) whole s.tallied) is own entry

-- a position that was found gives its need
pub need_found : (positions : List PositionInReach) (found : Option PositionInReach) (k : ℕ) (d : Need) → IsFound positions found k → need_list found ≡ get_or (map need_at positions) k d ∷ []
need_found positions found k d f =
    let at : PositionInReach = (record { word = 0; position = 0 }, []) in
    ap need_list (f.position at) ∙ ap (λ n. n ∷ []) (sym (get_or-map need_at positions k at d f.within))
