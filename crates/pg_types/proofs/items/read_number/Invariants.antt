use Rattle.std.proofs.Common.{◌≡◌, ℕ, ◌≤◌, drop, min, option_map}
use Rattle.pg_types.specs.declared.items.TheConstants.{TOO_GREAT}
use Rattle.pg_types.specs.Inside.reading.Parts.{number_from}
use Rattle.pg_types.proofs.items.read_number.Given as goal

abbrev pub invariant-loop-digit : goal.invariant-loop-digit
invariant-loop-digit l = record {
  small : l.value ≤ TOO_GREAT;
  whole : option_map (λ (n : ℕ). min n TOO_GREAT) (number_from l.value (drop l.digit-index l.item)) ≡ option_map (λ (n : ℕ). min n TOO_GREAT) (number_from 0 l.item);
}
