-- A pass of the trace over the open positions of its level, and what values are up to in a level of it.
use Rattle.std.proofs.Common.{◌≡◌, ℕ, ◌≤◌, ◌<◌, ◌+◌, ◌-◌, max, nat_le, true, refl, List, [], ◌∷◌, map, sym, subst, ◌∙◌, arith}
use Rattle.std.specs.List.{flat_map, list_all, range_with_len, sum_by}
use Rattle.std.proofs.lemmas.Bool.{and_parts, and_from, leb-true, le-leb}
use Rattle.std.proofs.lemmas.List.Folds.{list_all-append}
use Rattle.pg_types.specs.declared.parameters.LevelParams.{LevelParams}
use Rattle.pg_dict.specs.Word.{Word}
use Rattle.pg_translate.specs.Alphabets.{Alphabet}
use Rattle.pg_select.specs.Sums.{totals as totals_by}
use Rattle.pg_patterns.specs.Values.{Patterns, largest}
use Rattle.pg_select.specs.declared.pass.Pass.{Pass}
use Rattle.pg_select.specs.Inside.laws.Steps.{IsBelow, IsUpTo}
use Rattle.pg_select.specs.Statuses.{is_odd}
use Rattle.pg_select.proofs.LawsBounds.{next_is_below, up_to_largest, up_to_more, up_to_raised}
use Rattle.pg_select.proofs.LawsTotals.{totals_after}
use Rattle.pg_driver.specs.Dots.{order}
use Rattle.pg_driver.specs.Traces.{Knowledge, is_chosen, chosen_in, known_after, pass_trace, at_start, level_trace, passes_of, patterns_after}
use Rattle.pg_driver.specs.Inside.level.Passes.{pass_traces, known_at_end}
use Rattle.pg_driver.specs.Inside.counting.LevelCounting.{Carries}
use Rattle.pg_driver.proofs.ListedTraces.{listed_trace}

module _ (T : Alphabet) (W : List Word) (params : LevelParams) (known : Knowledge) (pass : Pass) where
  -- the totals after it
  pub totals_on : IsUpTo pass.level known.patterns
      → Carries (is_odd pass.level) (totals_by T W known.patterns) (totals_by T W (known_after (listed_trace T W params known pass)).patterns)
      (sum_by (λ c. c.good) (chosen_in (listed_trace T W params known pass))) (sum_by (λ c. c.bad) (chosen_in (listed_trace T W params known pass)))
  totals_on upto = totals_after T W pass known.patterns known.hopeless (λ c. is_chosen params c) upto

-- passes raise no value above what their level and the values were up to
up_to_made : (T : Alphabet) (W : List Word) (params : LevelParams) (n : ℕ) (known : Knowledge) (passes : List Pass) → list_all (λ (p : Pass). nat_le p.level n) passes
    ≡ true → IsUpTo n known.patterns → IsUpTo n (known_at_end known (pass_traces T W params known passes)).patterns
up_to_made T W params n known [] all upto = upto
up_to_made T W params n known (pass ∷ passes) all upto =
    let parts = and_parts (nat_le pass.level n) (list_all (λ (p : Pass). nat_le p.level n) passes) all in
    up_to_made T W params n (known_after (pass_trace T W params known pass)) passes parts.1
    (up_to_raised pass.level pass.dot n known.patterns (chosen_in (pass_trace T W params known pass)) (leb-true pass.level n parts.0) upto)

-- and so does a level
pub up_to_level : (T : Alphabet) (W : List Word) (params : LevelParams) (number n : ℕ) (P : Patterns) → number ≤ n → IsUpTo n P → IsUpTo n (patterns_after (level_trace T W P (number, params)))
up_to_level T W params number n P within upto = up_to_made T W params n (at_start P) (passes_of number params)
    (all_flat (range_with_len params.pat_start (params.pat_finish + 1 - params.pat_start))) upto
  where
    here : nat_le number n ≡ true
    here = le-leb number n within

    all_dots_of : (len : ℕ) (ds : List ℕ) → list_all (λ (p : Pass). nat_le p.level n) (map (λ dot. record { level = number; len = len; dot = dot }) ds) ≡ true
    all_dots_of len [] = refl
    all_dots_of len (d ∷ ds) = and_from (nat_le number n) (list_all (λ (p : Pass). nat_le p.level n) (map (λ dot. record { level = number; len = len; dot = dot }) ds)) here (all_dots_of len ds)

    all_flat : (lens : List ℕ) → list_all (λ (p : Pass). nat_le p.level n) (flat_map (λ (len : ℕ). map (λ dot. record { level = number; len = len; dot = dot }) (order len)) lens) ≡ true
    all_flat [] = refl
    all_flat (len ∷ lens) =
        list_all-append (λ (p : Pass). nat_le p.level n) (map (λ dot. record { level = number; len = len; dot = dot }) (order len))
        (flat_map (λ (l : ℕ). map (λ dot. record { level = number; len = l; dot = dot }) (order l)) lens)
        ∙ and_from (list_all (λ (p : Pass). nat_le p.level n) (map (λ dot. record { level = number; len = len; dot = dot }) (order len)))
        (list_all (λ (p : Pass). nat_le p.level n) (flat_map (λ (l : ℕ). map (λ dot. record { level = number; len = l; dot = dot }) (order l)) lens)) (all_dots_of len (order len)) (all_flat lens)

-- a level begins below the level, where no starting value is as great
pub below_level : (greatest number : ℕ) (P : Patterns) → IsUpTo (max greatest (number - 1)) P → 1 ≤ number → greatest < number → IsBelow number P
below_level greatest number P upto first low =
    let next : number - 1 + 1 ≡ number = omega arith in
    subst (λ (n : ℕ). IsBelow n P) next (next_is_below (number - 1) P (up_to_more (max greatest (number - 1)) (number - 1) P (omega arith) upto))

pub up_to_next : (T : Alphabet) (W : List Word) (params : LevelParams) (greatest number : ℕ) (P Q : Patterns) → Q ≡ patterns_after (level_trace T W P (number, params))
    → IsUpTo (max greatest (number - 1)) P → IsUpTo (max greatest (number + 1 - 1)) Q
up_to_next T W params greatest number P Q is upto =
    subst (λ (R : Patterns). IsUpTo (max greatest (number + 1 - 1)) R) (sym is)
    (up_to_level T W params number (max greatest (number + 1 - 1)) P (omega arith) (up_to_more (max greatest (number - 1)) (max greatest (number + 1 - 1)) P (omega arith) upto))

pub up_to_starting : (greatest n : ℕ) (P : Patterns) → greatest ≡ largest P → IsUpTo (max greatest n) P
up_to_starting greatest n P is = up_to_more (largest P) (max greatest n) P (omega (arith, is)) (up_to_largest P)
