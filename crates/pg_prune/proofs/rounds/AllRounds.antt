-- The loop over the rounds.
use Rattle.std.proofs.Common.{◌≡◌, ◌≢◌, ℕ, zero, suc, ◌+◌, ◌<◌, ◌≤◌, true, cond, List, [], length, refl, sym, subst, ap, ◌∙◌, arith}
use Rattle.std.specs.Prelude.{nat_eq}
use Rattle.std.specs.List.{list_all, range_with_len}
use Rattle.std.proofs.lemmas.List.{length-map}
use Rattle.std.proofs.lemmas.List.FromFn.{length-range_with_len}
use Rattle.std.proofs.lemmas.Bool.{eq-eqb, eqb-true}
use Rattle.pg_types.proofs.BoolFacts.{no_test}
use Rattle.pg_patterns.specs.Values.{Patterns}
use Rattle.pg_patterns.specs.Inside.PatternMaps.{is_entry}
use Rattle.pg_prune.specs.Inside.positions.PositionInReach.{PositionInReach}
use Rattle.pg_prune.specs.Prunes.{rounds_from, round_from}
use Rattle.pg_prune.specs.Inside.rounds.EqualBreaks.{break_alike}
use Rattle.pg_prune.specs.Inside.rounds.Turns.{IsTallied}
use Rattle.pg_prune.specs.Inside.rounds.Picks.{picked_entries, IsKeptSoFar, IsOneRound, HasAllEntries, entry_of}
use Rattle.pg_prune.proofs.rounds.RoundLaws.{round_length, round_same}
use Rattle.pg_prune.proofs.pruning.NeedLaws.{alike_self}
use Rattle.pg_prune.proofs.rounds.Picking.{picked_all, range_below}

-- so many rounds are made, and the entries with the numbers `kept` are left
pub record RoundsSoFar (positions : List PositionInReach) (P : Patterns) (stands : List (List ℕ)) (holders : List (List ℕ)) (kept : List ℕ) (count : ℕ) : Type 0 where
  pub ready : IsKeptSoFar positions P stands holders kept
  pub most : ℕ
  pub few : length kept ≤ most
  pub so_far : rounds_from positions P 1 (length P) P ≡ rounds_from positions P (count + 1) most (picked_entries P kept)

module _ (positions : List PositionInReach) (P : Patterns) (stands : List (List ℕ)) where
  pub rounds_begin : (holders : List (List ℕ)) → list_all is_entry P ≡ true → HasAllEntries positions P stands holders → RoundsSoFar positions P stands holders (range_with_len 0 (length P)) 0
  rounds_begin holders sound s = record {
    ready = record {
      all = s.all;
      sound = sound;
      within = range_below 0 (length P) (length P) (omega arith);
      tallied = subst (λ (Q : Patterns). IsTallied positions Q holders) (sym (picked_all P)) s.tallied;
      alike = subst (λ (Q : Patterns). break_alike positions P Q ≡ true) (sym (picked_all P)) (alike_self positions P);
    };
    most = length P;
    few = (let many = length-range_with_len 0 (length P) in omega (arith, many));
    so_far = ap (λ (Q : Patterns). rounds_from positions P 1 (length P) Q) (sym (picked_all P));
  }

  -- how many entries a round leaves
  left_by : (holders : List (List ℕ)) (kept stay : List ℕ) → IsOneRound positions P stands holders kept stay → length stay ≡ length (round_from positions P [] (picked_entries P kept))
  left_by holders kept stay d = sym (length-map stay (entry_of P)) ∙ ap length d.done

  pub round_fewer : (holders : List (List ℕ)) (kept stay : List ℕ) → IsOneRound positions P stands holders kept stay → length stay ≤ length kept
  round_fewer holders kept stay d =
      let left : length stay ≡ length (round_from positions P [] (picked_entries P kept)) = left_by holders kept stay d in
      let fewer : length (round_from positions P [] (picked_entries P kept)) ≤ 0 + length (picked_entries P kept) = round_length positions P [] (picked_entries P kept) in
      let many : length (picked_entries P kept) ≡ length kept = length-map kept (entry_of P) in
      omega arith

  one_more : (count most : ℕ) (Q : Patterns) → length Q ≤ most → length (round_from positions P [] Q) < length Q → (n : ℕ) × (length (round_from positions P [] Q) ≤ n)
      × (rounds_from positions P count most Q ≡ rounds_from positions P (count + 1) n (round_from positions P [] Q))
  one_more count zero Q few less = absurd (omega arith)
  one_more count (suc most) Q few less = (
    most,
    omega arith,
    ap (λ b. cond {A = Patterns × ℕ} b (Q, count) (rounds_from positions P (count + 1) most (round_from positions P [] Q)))
        (no_test (nat_eq (length (round_from positions P [] Q)) (length Q)) (λ same. let is = eqb-true _ _ same in absurd (omega (arith, is)))),
  )

  pub rounds_next : (old new : List (List ℕ)) (kept stay : List ℕ) (count : ℕ) → RoundsSoFar positions P stands old kept count → IsOneRound positions P stands new kept stay
      → length stay ≢ length kept → RoundsSoFar positions P stands new stay (count + 1)
  rounds_next old new kept stay count r d other =
      let left : length stay ≡ length (round_from positions P [] (picked_entries P kept)) = left_by new kept stay d in
      let fewer = round_fewer new kept stay d in
      let many : length (picked_entries P kept) ≡ length kept = length-map kept (entry_of P) in
      let few : length kept ≤ r.most = r.few in
      let more = one_more (count + 1) r.most (picked_entries P kept) (omega arith) (omega arith) in
      record {
        ready = d.next;
        most = more.0;
        few = (let low = more.1 in omega (arith, low));
        so_far = r.so_far ∙ more.2 ∙ ap (λ (Q : Patterns). rounds_from positions P (count + 1 + 1) more.0 Q) (sym d.done);
      }

  no_more : (count most : ℕ) (Q : Patterns) → length (round_from positions P [] Q) ≡ length Q → rounds_from positions P count most Q ≡ (Q, count)
  no_more count zero Q same = refl
  no_more count (suc most) Q same =
      ap (λ b. cond {A = Patterns × ℕ} b (Q, count)
      (rounds_from positions P (count + 1) most (round_from positions P [] Q))) (eq-eqb (length (round_from positions P [] Q)) (length Q) same)

  pub rounds_end_with : (old new : List (List ℕ)) (kept stay : List ℕ) (count : ℕ) → RoundsSoFar positions P stands old kept count → IsOneRound positions P stands new kept stay
      → length stay ≡ length kept → IsKeptSoFar positions P stands new kept × (rounds_from positions P 1 (length P) P ≡ (picked_entries P kept, count + 1))
  rounds_end_with old new kept stay count r d same =
      let left : length stay ≡ length (round_from positions P [] (picked_entries P kept)) = left_by new kept stay d in
      let many : length (picked_entries P kept) ≡ length kept = length-map kept (entry_of P) in
      let as_many : length (round_from positions P [] (picked_entries P kept)) ≡ length (picked_entries P kept) = omega arith in
      let is : picked_entries P stay ≡ picked_entries P kept = d.done ∙ round_same positions P [] (picked_entries P kept)
      (let all : length (round_from positions P [] (picked_entries P kept)) ≡ 0 + length (picked_entries P kept) = omega arith in all) in (
        record {
          all = r.ready.all;
          sound = r.ready.sound;
          within = r.ready.within;
          tallied = subst (λ (Q : Patterns). IsTallied positions Q new) is d.next.tallied;
          alike = r.ready.alike;
        },
        r.so_far ∙ no_more (count + 1) r.most (picked_entries P kept) as_many,
      )
