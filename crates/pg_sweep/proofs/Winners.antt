-- The first of the least costs wins.
use Rattle.std.proofs.Common.{◌≡◌, ℕ, ◌+◌, ◌-◌, ◌<◌, ◌≤◌, Bool, true, false, nat_lt, nat_le, None, Some, List, [], ◌∷◌, ◌++◌, length, take, refl, ap, sym, subst, ◌∙◌, arith}
use Rattle.std.specs.Prelude.{slice_index, All, if◌then◌else◌}
use Rattle.std.proofs.Math.ListN.{get_or-append}
use Rattle.std.proofs.Math.Seq.{get_or-append_seam, take-append_seam}
use Rattle.std.proofs.lemmas.List.{append_assoc, append-nil, length-append, take-append-le, get_or-take, length-take-le}
use Rattle.std.proofs.lemmas.List.Elements.{All-append, All-cons, All-nil}
use Rattle.std.proofs.lemmas.Bool.{ltb-true, ltb-false, lt-ltb, lt-leb, le-leb}
use Rattle.std.proofs.lemmas.List.Folds.{list_all_at}
use Rattle.std.proofs.lemmas.List.Sums.{list_all-from_AllPass, position_or_len_is}
use Rattle.std.specs.List.{list_all, position_or_len}
use Rattle.std.specs.Option.{option_map_or}
use Rattle.pg_sweep.specs.Winners.{winner_of}
use Rattle.pg_sweep.specs.Promises.{IsWinner}
use Rattle.pg_sweep.specs.Inside.Least.{winner_from, first_least}

-- the best of the costs so far, which are not none
pub record IsBest (done : List ℕ) (best least : ℕ) : Type 0 where
  pub from_one : 1 ≤ best
  pub there : best ≤ length done
  pub at : slice_index done (best - 1) ≡ least
  pub all : All (λ cost. least ≤ cost) done
  pub before : All (λ cost. least < cost) (take (best - 1) done)

-- the best of all costs wins
wins : (costs : List ℕ) (best least : ℕ) → IsBest costs best least → IsWinner costs best
wins costs best least is = record {
  from_one = is.from_one;
  there = is.there;
  least = subst (λ n. All (λ cost. n ≤ cost) costs) (sym is.at) is.all;
  first = subst (λ n. All (λ cost. n < cost) (take (best - 1) costs)) (sym is.at) is.before;
}

-- a cost that is not less
stays : (done : List ℕ) (best least cost : ℕ) → IsBest done best least → least ≤ cost → IsBest (done ++ cost ∷ []) best least
stays done best least cost is more =
    let one : 1 ≤ best = is.from_one in
    let within : best ≤ length done = is.there in
    let front : take (best - 1) (done ++ cost ∷ []) ≡ take (best - 1) done = take-append-le (best - 1) done (cost ∷ []) (omega arith) in
    record {
      from_one = one;
      there = omega (arith, length-append done (cost ∷ []));
      at = get_or-append done (cost ∷ []) 0 (best - 1) (omega arith) ∙ is.at;
      all = All-append (λ c. least ≤ c) done (cost ∷ []) is.all (All-cons (λ c. least ≤ c) cost [] more (All-nil (λ c. least ≤ c)));
      before = subst (λ (cs : List ℕ). All (λ c. least < c) cs) (sym front) is.before;
    }

-- a cost that is less
falls : (done : List ℕ) (best least cost : ℕ) → IsBest done best least → cost < least → IsBest (done ++ cost ∷ []) (length done + 1) cost
falls done best least cost is less =
    let at_end : length done + 1 - 1 ≡ length done = omega arith in
    let front : take (length done + 1 - 1) (done ++ cost ∷ []) ≡ done = ap (λ n. take n (done ++ cost ∷ [])) at_end ∙ take-append_seam done (cost ∷ []) in
    let lower : All (λ c. cost < c) done = λ k d within. omega (arith, is.all k d within) in
    let not_more : All (λ c. cost ≤ c) done = λ k d within. omega (arith, is.all k d within) in
    record {
      from_one = omega arith;
      there = omega (arith, length-append done (cost ∷ []));
      at = ap (λ n. slice_index (done ++ cost ∷ []) n) at_end ∙ get_or-append_seam done cost [] 0;
      all = All-append (λ c. cost ≤ c) done (cost ∷ []) not_more (All-cons (λ c. cost ≤ c) cost [] (omega arith) (All-nil (λ c. cost ≤ c)));
      before = subst (λ (cs : List ℕ). All (λ c. cost < c) cs) (sym front) lower;
    }

-- a cost more
grows : (b : Bool) (done : List ℕ) (best least cost : ℕ) → IsBest done best least → nat_lt cost least ≡ b → IsBest (done ++ cost ∷ []) (if b then length done + 1 else best) (if b then cost else least)
grows true done best least cost is less = falls done best least cost is (ltb-true cost least less)
grows false done best least cost is less = stays done best least cost is (ltb-false cost least less)

-- the costs that are left
goes_on : (costs done : List ℕ) (best least number : ℕ) → number ≡ length done + 1 → IsBest done best least → IsWinner (done ++ costs) (winner_from best least number costs)
goes_on [] done best least number here is = subst (λ (cs : List ℕ). IsWinner cs best) (sym (append-nil done)) (wins done best least is)
goes_on (cost ∷ costs) done best least number here is =
    let more : IsBest (done ++ cost ∷ []) (if nat_lt cost least then length done + 1 else best) (if nat_lt cost least then cost else least) = grows (nat_lt cost least) done best least cost is refl in
    let next : IsBest (done ++ cost ∷ []) (if nat_lt cost least then number else best) (if nat_lt cost least then cost else least) =
    subst (λ n. IsBest (done ++ cost ∷ []) (if nat_lt cost least then n else best) (if nat_lt cost least then cost else least)) (sym here) more in
    let rest : IsWinner ((done ++ cost ∷ []) ++ costs) (winner_from best least number (cost ∷ costs)) =
    goes_on costs (done ++ cost ∷ []) (if nat_lt cost least then number else best) (if nat_lt cost least then cost else least) (number + 1)
    (omega (arith, here, length-append done (cost ∷ []))) next in
    subst (λ (cs : List ℕ). IsWinner cs (winner_from best least number (cost ∷ costs))) (append_assoc done (cost ∷ []) costs) rest

-- the first of the least costs wins
least_wins : (costs : List ℕ) → 1 ≤ length costs → IsWinner costs (first_least costs)
least_wins [] some = absurd (omega (arith, some))
least_wins (cost ∷ costs) some = goes_on costs (cost ∷ []) 1 cost 2 refl (record {
  from_one = omega arith;
  there = omega arith;
  at = refl;
  all = All-cons (λ c. cost ≤ c) cost [] (omega arith) (All-nil (λ c. cost ≤ c));
  before = All-nil (λ c. cost < c);
})

-- where one wins, it is the first cost that is no greater than any
first_that : (costs : List ℕ) (number : ℕ) → IsWinner costs number → position_or_len (λ c. list_all (nat_le c) costs) costs ≡ number - 1
first_that costs number is =
    let one : 1 ≤ number = is.from_one in
    let there : number ≤ length costs = is.there in
    let least : ℕ = slice_index costs (number - 1) in
    let before : (k : ℕ) → k < number - 1 → list_all (nat_le (slice_index costs k)) costs ≡ false = λ k early.
    let within : k < length (take (number - 1) costs) = omega (arith, early, there, length-take-le (number - 1) costs (omega (arith, there))) in
    let more : least < slice_index costs k = subst (λ (c : ℕ). least < c) (get_or-take (number - 1) costs k 0 early) (is.first k 0 within) in
    list_all_at (nat_le (slice_index costs k)) costs (number - 1) 0 (omega (arith, one, there)) (lt-leb (slice_index costs k) least more) in
    let at : number - 1 < length costs → list_all (nat_le least) costs ≡ true = λ within. list_all-from_AllPass (nat_le least) costs (λ k d inside. le-leb _ _ (is.least k d inside)) in
    position_or_len_is (λ c. list_all (nat_le c) costs) costs (number - 1) 0 (omega (arith, there)) before at

winner_is : (costs : List ℕ) (number : ℕ) → IsWinner costs number → winner_of costs ≡ number
winner_is costs number is =
    let one : 1 ≤ number = is.from_one in
    let there : number ≤ length costs = is.there in
    let place : position_or_len (λ c. list_all (nat_le c) costs) costs ≡ number - 1 = first_that costs number is in
    let within : nat_lt (number - 1) (length costs) ≡ true = lt-ltb (number - 1) (length costs) (omega (arith, one, there)) in
    let back : number - 1 + 1 ≡ number = omega (arith, one) in
    ap (λ (n : ℕ). option_map_or (λ i. i + 1) (if nat_lt n (length costs) then Some n else None) 0) place
    ∙ ap (λ (b : Bool). option_map_or (λ i. i + 1) (if b then Some (number - 1) else None) 0) within
    ∙ back

-- the winner is the first of the least costs
pub winner_agrees : (costs : List ℕ) → 1 ≤ length costs → first_least costs ≡ winner_of costs
winner_agrees costs some = sym (winner_is costs (first_least costs) (least_wins costs some))

-- the winner of costs wins
pub winner_wins : (costs : List ℕ) → 1 ≤ length costs → IsWinner costs (winner_of costs)
winner_wins costs some = subst (λ n. IsWinner costs n) (winner_agrees costs some) (least_wins costs some)

-- the first of equal costs wins, and none of no costs
two_equal : winner_of (5 ∷ 3 ∷ 4 ∷ 3 ∷ []) ≡ 2
two_equal = refl

no_costs : winner_of [] ≡ 0
no_costs = refl
