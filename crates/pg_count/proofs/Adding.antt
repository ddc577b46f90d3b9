-- What entering a window and setting its sums leaves of the counts.
use Rattle.std.proofs.Common.{◌≡◌, ℕ, Bool, true, List, length, unwrap_or, Option, None, Some, sym, ◌∙◌, ap, subst}
use Rattle.std.specs.FinMap.Entries.{find, put}
use Rattle.pg_cells.specs.Inside.linked.ValuedFamilies.{ValuedFamilies}
use Rattle.pg_cells.specs.Inside.linked.AreValuedFamilies.{AreValuedFamilies}
use Rattle.pg_cells.specs.Inside.linked.Walks.{AddsBlanks}
use Rattle.pg_cells.proofs.StringMaps.{order}
use Rattle.pg_types.specs.Inside.Signs.{SignsWithin}
use Rattle.pg_types.specs.Inside.counting.Counts.{AreSmall, sums_of, with_weight, with_count, is_counted}
use Rattle.pg_count.specs.Inside.Counting.{Counting, IsCounting, AreCounting, counting_of, counts_in}
use Rattle.pg_count.proofs.Counted.{counts_in-put, counts_in-blanks, sums_told, not_counted, counting_put}

-- a window that has no cell is not counted
pub absent : (c : Counting) (cells : ValuedFamilies (Option (ℕ × ℕ))) (len : ℕ) (u : List ℕ) → counting_of cells len ≡ c → AreCounting cells len → find order u cells.values ≡ None → is_counted c.counts u ≡ true → ⊥
absent c cells len u is kept none counted =
    not_counted cells.values u kept.held.ordered none (ap (λ (d : Counting). is_counted d.counts u) is ∙ counted)

-- the window u was entered
pub record Enters (c : Counting) (old mid : ValuedFamilies (Option (ℕ × ℕ))) (len : ℕ) (u : List ℕ) : Type 0 where
  pub is : counting_of old len ≡ c
  pub kept : AreCounting old len
  pub held : AreValuedFamilies mid
  pub signs : mid.signs ≡ old.signs
  pub adds : AddsBlanks u None old.values mid.values

module _ (c : Counting) (old mid : ValuedFamilies (Option (ℕ × ℕ))) (len : ℕ) (u : List ℕ) (e : Enters c old mid len u) where
  same_counts : counts_in mid.values ≡ counts_in old.values
  same_counts = counts_in-blanks u old.values mid.values e.kept.held.ordered e.held.ordered e.adds

  pub entered : counting_of mid len ≡ c
  entered =
      ap (λ n. record { signs = n; len = len; counts = counts_in mid.values }) e.signs
      ∙ ap (λ counts. record { signs = old.signs; len = len; counts = counts }) same_counts ∙ e.is

  pub entered_kept : AreCounting mid len
  entered_kept = record { held = e.held; counting = subst IsCounting (e.is ∙ sym entered) e.kept.counting }

  pub sums_entered : (tally : Option (ℕ × ℕ)) → find order u mid.values ≡ Some tally → sums_of c.counts u ≡ unwrap_or tally (0, 0)
  sums_entered tally there = sym (ap (λ (d : Counting). sums_of d.counts u) entered) ∙ sums_told mid.values u tally e.held.ordered there

  pub small : (tally : Option (ℕ × ℕ)) (good : Bool) (weight : ℕ) → find order u mid.values ≡ Some tally → AreSmall (with_weight (sums_of c.counts u) good weight) → AreSmall (with_weight (unwrap_or tally (0, 0)) good weight)
  small tally good weight there low = subst (λ sums. AreSmall (with_weight sums good weight)) (sums_entered tally there) low

  module _ (new : ValuedFamilies (Option (ℕ × ℕ))) (tally v : Option (ℕ × ℕ)) (good : Bool) (weight : ℕ) (there : find order u mid.values ≡ Some tally)
      (sums : v ≡ Some (with_weight (unwrap_or tally (0, 0)) good weight)) (set : new ≡ record mid { values = put order u v mid.values }) where
    pub added : counting_of new len ≡ record c { counts = with_count c.counts u good weight }
    added =
        let n = with_weight (sums_of c.counts u) good weight in
        let told : v ≡ Some n = sums ∙ ap (λ x. Some (with_weight x good weight)) (sym (sums_entered tally there)) in
        ap (λ h. counting_of h len) (set ∙ ap (λ x. record mid { values = put order u x mid.values }) told)
        ∙ ap (λ counts. record { signs = mid.signs; len = len; counts = counts }) (counts_in-put mid.values u n e.held.ordered)
        ∙ ap (λ (d : Counting). record d { counts = put order u n d.counts }) entered

    pub added_kept : AreValuedFamilies new → length u ≡ c.len → SignsWithin c.signs u → AreCounting new len
    added_kept held size within = record {
      held = held;
      counting = subst IsCounting (sym added) (counting_put c (subst IsCounting e.is e.kept.counting) u (with_weight (sums_of c.counts u) good weight) size within);
    }
