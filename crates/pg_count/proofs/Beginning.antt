-- A count trie whose cells are the root alone.
use Rattle.std.proofs.Common.{◌≡◌, ℕ, ◌≤◌, [], Option, None, sym, ◌∙◌, ap, subst}
use Rattle.std.specs.List.{range_with_len}
use Rattle.pg_types.specs.declared.limits.TheConstants.{LENGTH_MAX}
use Rattle.pg_cells.specs.Inside.linked.ValuedFamilies.{ValuedFamilies}
use Rattle.pg_cells.specs.Inside.linked.AreValuedFamilies.{AreValuedFamilies}
use Rattle.pg_cells.specs.Inside.families.Root.{root_alone}
use Rattle.pg_count.specs.Inside.Counting.{IsCounting, AreCounting, counting_of}
use Rattle.pg_count.proofs.Counted.{counts_in-root, counting_none}

module _ (cells : ValuedFamilies (Option (ℕ × ℕ))) (n len : ℕ) (root : cells ≡ root_alone n None) where
  pub begun : counting_of cells len ≡ record { signs = n; len = len; counts = [] }
  begun = ap (λ h. counting_of h len) root ∙ ap (λ counts. record { signs = n; len = len; counts = counts }) (counts_in-root (range_with_len 1 n))

  pub begun_kept : AreValuedFamilies cells → 1 ≤ len → len ≤ LENGTH_MAX → AreCounting cells len
  begun_kept held some most = record { held = held; counting = subst IsCounting (sym begun) (counting_none n len some most) }
