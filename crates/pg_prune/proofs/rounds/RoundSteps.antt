-- A round through the entries with some numbers.
use Rattle.std.proofs.Common.{◌≡◌, ℕ, zero, suc, ◌+◌, ◌<◌, Bool, true, false, not, cond, List, [], ◌∷◌, ◌++◌, map, length, get_or, drop, refl, sym, subst, ap, ◌∙◌, arith, Some}
use Rattle.std.specs.Prelude.{slice_get}
use Rattle.std.specs.List.{All, list_all}
use Rattle.std.proofs.lemmas.List.{append-nil, map-append, length-map, get_or-map}
use Rattle.std.proofs.lemmas.Option.{get_or_from_slice_get}
use Rattle.std.proofs.lemmas.List.Elements.{All-nil, All-head, All-tail, All-push}
use Rattle.std.proofs.lemmas.List.Folds.{list_all-append}
use Rattle.std.proofs.lemmas.Bool.{and_from, eq-eqb, eqb-true}
use Rattle.pg_types.proofs.BoolFacts.{and_first, and_second}
use Rattle.pg_patterns.specs.Values.{Patterns}
use Rattle.pg_patterns.specs.Inside.PatternMaps.{is_entry}
use Rattle.pg_prune.specs.Inside.positions.PositionInReach.{PositionInReach}
use Rattle.pg_prune.specs.Prunes.{round_from}
use Rattle.pg_prune.specs.Inside.rounds.EqualBreaks.{break_alike}
use Rattle.pg_prune.specs.Inside.positions.EntryPositions.{positions_of_entry, positions_of_entries}
use Rattle.pg_prune.specs.Inside.rounds.Turns.{Turn, with_entry, without_entry, IsHeld, IsTallied}
use Rattle.pg_prune.specs.Inside.rounds.Picks.{entry_of, picked_entries, IsKeptSoFar, IsOneRound}
use Rattle.pg_prune.proofs.rounds.RoundLaws.{regrouped}
use Rattle.pg_prune.proofs.pruning.NeedLaws.{alike_over}
use Rattle.pg_prune.proofs.rounds.TurnSteps.{left_at}

pub sound_at : (P : Patterns) (k : ℕ) → k < length P → list_all is_entry P ≡ true → is_entry (entry_of P k) ≡ true
sound_at [] k inside sound = absurd (omega arith)
sound_at (e ∷ P) zero inside sound = and_first _ _ sound
sound_at (e ∷ P) (suc k) inside sound = sound_at P k (omega arith) (and_second _ _ sound)

-- entries of a map are sound
pub picked_sound : (P : Patterns) (ks : List ℕ) → list_all is_entry P ≡ true → All (λ i. i < length P) ks → list_all is_entry (picked_entries P ks) ≡ true
picked_sound P [] sound within = refl
picked_sound P (k ∷ ks) sound within =
    and_from _ _ (sound_at P k (All-head (λ i. i < length P) k ks within) sound) (picked_sound P ks sound (All-tail (λ i. i < length P) k ks within))

-- the positions of the entry with a number
pub standing_at : (positions : List PositionInReach) (P : Patterns) (k : ℕ) → k < length P → get_or (positions_of_entries positions P) k [] ≡ positions_of_entry positions (entry_of P k)
standing_at positions [] k inside = absurd (omega arith)
standing_at positions (e ∷ P) zero inside = refl
standing_at positions (e ∷ P) (suc k) inside = standing_at positions P k (omega arith)

-- maps break alike the other way round too
pub alike_back : (xs : List PositionInReach) (P Q : Patterns) → break_alike xs P Q ≡ true → break_alike xs Q P ≡ true
alike_back [] P Q alike = refl
alike_back (x ∷ xs) P Q alike = and_from _ _ (eq-eqb _ _ (sym (eqb-true _ _ (and_first _ _ alike)))) (alike_back xs P Q (and_second _ _ alike))

-- the turn of the entry with the number k, where those before it with the numbers `stay` stay
abbrev pub turn_of : List PositionInReach → Patterns → List ℕ → ℕ → List ℕ → Turn
turn_of positions P stay k left = record { positions = positions; before = picked_entries P stay; entry = entry_of P k; behind = picked_entries P left }

-- what an entry's turn has: its positions, its value, and the holders of the map
module _ {V : Type 0} (items : V → List ℕ) (positions : List PositionInReach) (P : Patterns) (vs : List V) where
  pub turn_from : (holders : List (List ℕ)) (stay : List ℕ) (k : ℕ) (left : List ℕ) (v : V) (numbers : List ℕ) (x : (List ℕ × ℕ) × ℕ) → map items vs
      ≡ positions_of_entries positions P → list_all is_entry P ≡ true
      → All (λ i. i < length P) stay → All (λ i. i < length P) (k ∷ left) → IsTallied positions (picked_entries P stay ++ picked_entries P (k ∷ left)) holders
      → v ≡ get_or vs k v → numbers ≡ items v → slice_get P k ≡ Some x → IsHeld (turn_of positions P stay k left) holders numbers x.1
  turn_from holders stay k left v numbers x stands sound within rest tallied is own entry =
      let inside : k < length P = All-head (λ i. i < length P) k left rest in
      let many : length vs ≡ length P = sym (length-map vs items) ∙ ap length stands ∙ length-map P (positions_of_entry positions) in
      record {
        entry = record {
          stands = own ∙ ap items is ∙ sym (get_or-map items vs k v [] (omega arith)) ∙ ap (λ t. get_or t k []) stands ∙ standing_at positions P k inside;
          gives = ap (λ (e : (List ℕ × ℕ) × ℕ). e.1) (sym (get_or_from_slice_get P k x (([], 0), 0) entry));
          sound = list_all-append is_entry (picked_entries P stay) (picked_entries P (k ∷ left)) ∙ and_from _ _ (picked_sound P stay sound within) (picked_sound P (k ∷ left) sound rest);
        };
        tallied = tallied;
      }

-- a round in its middle
pub record Rounding (positions : List PositionInReach) (P : Patterns) (kept : List ℕ) (holders : List (List ℕ)) (stay left : List ℕ) : Type 0 where
  pub within : All (λ i. i < length P) stay
  pub rest : All (λ i. i < length P) left
  pub tallied : IsTallied positions (picked_entries P stay ++ picked_entries P left) holders
  pub alike : break_alike positions P (picked_entries P stay ++ picked_entries P left) ≡ true
  pub so_far : round_from positions P (picked_entries P stay) (picked_entries P left) ≡ round_from positions P [] (picked_entries P kept)

continues_with : (positions : List PositionInReach) (P kept : Patterns) (e : (List ℕ × ℕ) × ℕ) (left : Patterns) → break_alike positions P (kept ++ left) ≡ true
    → round_from positions P kept (e ∷ left) ≡ round_from positions P kept left
continues_with positions P kept e left goes = ap (λ b. cond b (round_from positions P kept left) (round_from positions P (kept ++ e ∷ []) left)) goes

stays_on : (positions : List PositionInReach) (P kept : Patterns) (e : (List ℕ × ℕ) × ℕ) (left : Patterns) → break_alike positions P (kept ++ left) ≡ false
    → round_from positions P kept (e ∷ left) ≡ round_from positions P (kept ++ e ∷ []) left
stays_on positions P kept e left stays = ap (λ b. cond b (round_from positions P kept left) (round_from positions P (kept ++ e ∷ []) left)) stays

is_alike : (b : Bool) → false ≡ not b → b ≡ true
is_alike true e = refl
is_alike false e = cc

is_unlike : (b : Bool) → true ≡ not b → b ≡ false
is_unlike true e = cc
is_unlike false e = refl

unlike : (b c : Bool) → (b ≡ true → c ≡ true) → c ≡ false → b ≡ false
unlike true c both e = absurd (cc (both refl))
unlike false c both e = refl

module _ (positions : List PositionInReach) (P : Patterns) (stands : List (List ℕ)) (kept : List ℕ) where
  pub rounding_begins : (holders : List (List ℕ)) → IsKeptSoFar positions P stands holders kept → Rounding positions P kept holders [] kept
  rounding_begins holders s = record { within = All-nil (λ i. i < length P); rest = s.within; tallied = s.tallied; alike = s.alike; so_far = refl }

  pub rounding_goes : (holders new : List (List ℕ)) (stay : List ℕ) (k : ℕ) (left : List ℕ) → Rounding positions P kept holders stay (k ∷ left)
      → false ≡ not (break_alike positions (with_entry (turn_of positions P stay k left)) (without_entry (turn_of positions P stay k left)))
      → IsTallied positions (without_entry (turn_of positions P stay k left)) new → Rounding positions P kept new stay left
  rounding_goes holders new stay k left r answer tallied =
      let goes : break_alike positions P (picked_entries P stay ++ picked_entries P left)
      ≡ true = alike_over positions P (with_entry (turn_of positions P stay k left)) (without_entry (turn_of positions P stay k left)) r.alike (is_alike _ answer) in
      record {
        within = r.within;
        rest = All-tail (λ i. i < length P) k left r.rest;
        tallied = tallied;
        alike = goes;
        so_far = sym (continues_with positions P (picked_entries P stay) (entry_of P k) (picked_entries P left) goes) ∙ r.so_far;
      }

  pub rounding_stays : (holders new : List (List ℕ)) (stay : List ℕ) (k : ℕ) (left : List ℕ) → Rounding positions P kept holders stay (k ∷ left)
      → true ≡ not (break_alike positions (with_entry (turn_of positions P stay k left)) (without_entry (turn_of positions P stay k left)))
      → IsTallied positions (with_entry (turn_of positions P stay k left)) new → Rounding positions P kept new (stay ++ k ∷ []) left
  rounding_stays holders new stay k left r answer tallied =
      let t = turn_of positions P stay k left in
      let stays : break_alike positions P (picked_entries P stay ++ picked_entries P left) ≡ false =
      unlike (break_alike positions P (without_entry t)) (break_alike positions (with_entry t) (without_entry t))
      (λ goes. alike_over positions (with_entry t) P (without_entry t) (alike_back positions P (with_entry t) r.alike) goes) (is_unlike _ answer) in
      let longer : picked_entries P (stay ++ k ∷ []) ≡ picked_entries P stay ++ entry_of P k ∷ [] = map-append (entry_of P) stay (k ∷ []) in
      let whole : picked_entries P (stay ++ k ∷ []) ++ picked_entries P left ≡ picked_entries P stay ++ entry_of P k ∷ picked_entries P left =
      ap (λ q. q ++ picked_entries P left) longer ∙ regrouped (picked_entries P stay) (entry_of P k) (picked_entries P left) in
      record {
        within = All-push (λ i. i < length P) stay k r.within (All-head (λ i. i < length P) k left r.rest);
        rest = All-tail (λ i. i < length P) k left r.rest;
        tallied = subst (λ (Q : Patterns). IsTallied positions Q new) (sym whole) tallied;
        alike = subst (λ (Q : Patterns). break_alike positions P Q ≡ true) (sym whole) r.alike;
        so_far = ap (λ (q : Patterns). round_from positions P q (picked_entries P left)) longer
            ∙ sym (stays_on positions P (picked_entries P stay) (entry_of P k) (picked_entries P left) stays) ∙ r.so_far;
      }

  pub rounding_ends : (start holders : List (List ℕ)) (stay : List ℕ) → IsKeptSoFar positions P stands start kept → Rounding positions P kept holders stay []
      → IsOneRound positions P stands holders kept stay
  rounding_ends start holders stay s r = record {
    next = record {
      all = s.all;
      sound = s.sound;
      within = r.within;
      tallied = subst (λ (Q : Patterns). IsTallied positions Q holders) (append-nil (picked_entries P stay)) r.tallied;
      alike = subst (λ (Q : Patterns). break_alike positions P Q ≡ true) (append-nil (picked_entries P stay)) r.alike;
    };
    done = r.so_far;
  }

module _ {V : Type 0} (items : V → List ℕ) (positions : List PositionInReach) (P : Patterns) (vs : List V) (kept : List ℕ) where
  pub rounding_at : (holders : List (List ℕ)) (stay : List ℕ) (i : ℕ) → i < length kept → Rounding positions P kept holders stay (drop i kept)
      → Rounding positions P kept holders stay (get_or kept i 0 ∷ drop (i + 1) kept)
  rounding_at holders stay i inside r = subst (λ left. Rounding positions P kept holders stay left) (left_at kept i inside) r

  -- the turn of the entry whose number is the i-th
  pub turn_at : (start holders : List (List ℕ)) (stay : List ℕ) (i : ℕ) (v : V) (numbers : List ℕ) (x : (List ℕ × ℕ) × ℕ) → IsKeptSoFar positions P (map items vs) start kept
      → Rounding positions P kept holders stay (drop i kept) → i < length kept
      → v ≡ get_or vs (get_or kept i 0) v → numbers ≡ items v → slice_get P (get_or kept i 0) ≡ Some x → IsHeld (turn_of positions P stay (get_or kept i 0) (drop (i + 1) kept)) holders numbers x.1
  turn_at start holders stay i v numbers x s r inside is own entry =
      let at = rounding_at holders stay i inside r in
      turn_from items positions P vs holders stay (get_or kept i 0) (drop (i + 1) kept) v numbers x s.all s.sound at.within at.rest at.tallied is own entry
