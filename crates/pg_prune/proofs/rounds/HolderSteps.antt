-- The loop that adds all entries at their positions.
use Rattle.std.proofs.Common.{◌≡◌, ℕ, zero, suc, ◌+◌, ◌-◌, ◌^◌, ◌<◌, true, List, [], ◌∷◌, ◌++◌, map, length, get_or, take, Some, refl, sym, subst, ap, ◌∙◌, arith}
use Rattle.std.specs.Prelude.{slice_get, replicate}
use Rattle.std.specs.List.{list_all}
use Rattle.std.proofs.lemmas.List.{append-nil, take_more, length-map, get_or-map, length-take-le}
use Rattle.std.proofs.lemmas.Option.{get_or_from_slice_get}
use Rattle.std.proofs.lemmas.Bool.{and_from}
use Rattle.pg_types.proofs.BoolFacts.{and_first, and_second}
use Rattle.pg_patterns.specs.Values.{Patterns}
use Rattle.pg_patterns.specs.Inside.PatternMaps.{is_entry}
use Rattle.pg_prune.specs.Inside.positions.PositionInReach.{PositionInReach}
use Rattle.pg_prune.specs.Inside.positions.EntryPositions.{positions_of_entry}
use Rattle.pg_prune.specs.Inside.rounds.Turns.{Turn, with_entry, IsAwaited, IsTallied}
use Rattle.pg_prune.specs.Inside.rounds.Picks.{ListsPositions, entry_of}
use Rattle.pg_prune.proofs.rounds.RoundSteps.{standing_at}

-- where no entry is, no position has a holder
pub none_tallied : (positions : List PositionInReach) → IsTallied positions [] (replicate (length positions) (replicate 9 0))
none_tallied [] = refl
none_tallied (x ∷ xs) = ap (λ t. replicate 9 0 ∷ t) (none_tallied xs)

pushed : (n : ℕ) (c : List ℕ) → replicate (suc n) c ≡ replicate n c ++ c ∷ []
pushed zero c = refl
pushed (suc n) c = ap (λ t. c ∷ t) (pushed n c)

pub replicate_more : (n : ℕ) (c : List ℕ) → replicate (n + 1) c ≡ replicate n c ++ c ∷ []
replicate_more n c = (let next : n + 1 ≡ suc n = omega arith in ap (λ k. replicate k c) next) ∙ pushed n c

sound_take : (n : ℕ) (P : Patterns) → list_all is_entry P ≡ true → list_all is_entry (take n P) ≡ true
sound_take zero P sound = refl
sound_take (suc n) [] sound = refl
sound_take (suc n) (e ∷ P) sound = and_from _ _ (and_first _ _ sound) (sound_take n P (and_second _ _ sound))

-- the turn of the i-th entry, where those before it were added
abbrev pub turn_after : List PositionInReach → Patterns → ℕ → Turn
turn_after positions P i = record { positions = positions; before = take i P; entry = entry_of P i; behind = [] }

pub with_next : (positions : List PositionInReach) (P : Patterns) (i : ℕ) → i < length P → take (i + 1) P ≡ with_entry (turn_after positions P i)
with_next positions P i inside = take_more P i (([], 0), 0) inside

pub turn_awaited : {V : Type 0} (items : V → List ℕ) (positions : List PositionInReach) (P : Patterns) (vs : List V) (count : ℕ) (holders : List (List ℕ)) (i : ℕ)
    (v : V) (numbers : List ℕ) (x : (List ℕ × ℕ) × ℕ) → ListsPositions positions P (map items vs) count
    → list_all is_entry P ≡ true → IsTallied positions (take i P) holders → i < length P → i < 2 ^ 64 - 1 → v ≡ get_or vs i v → numbers ≡ items v
    → slice_get P i ≡ Some x → IsAwaited (turn_after positions P i) holders numbers x.1
turn_awaited items positions P vs count holders i v numbers x g sound tallied inside room is own entry =
    let many : length vs ≡ length P = sym (length-map vs items) ∙ ap length g.all ∙ length-map P (positions_of_entry positions) in
    record {
      entry = record {
        stands = own ∙ ap items is ∙ sym (get_or-map items vs i v [] (omega arith)) ∙ ap (λ t. get_or t i []) g.all ∙ standing_at positions P i inside;
        gives = ap (λ (e : (List ℕ × ℕ) × ℕ). e.1) (sym (get_or_from_slice_get P i x (([], 0), 0) entry));
        sound = subst (λ (Q : Patterns). list_all is_entry Q ≡ true) (with_next positions P i inside) (sound_take (i + 1) P sound);
      };
      tallied = subst (λ (Q : Patterns). IsTallied positions Q holders) (sym (append-nil (take i P))) tallied;
      room = (let short : length (take i P ++ []) ≡ i = ap length (append-nil (take i P)) ∙ length-take-le i P (omega arith) in omega arith);
    }
