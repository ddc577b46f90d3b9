use Rattle.std.proofs.Common.{length, ◌-◌, ◌≡◌, ◌<◌, ◌≤◌, drop}
use Rattle.pg_translate.specs.Inside.items.Kinds.{weight_at}
use Rattle.pg_translate.proofs.WeightDigits.{weight_from}
use Rattle.pg_translate.proofs.weights.weight_of.Given as goal

abbrev pub invariant-digits : goal.invariant-digits
invariant-digits l =
    (weight_from (5 - l.size) l.value l.size (drop l.size l.text) ≡ weight_at l.text)
    × (0 < l.size)
    × (l.size ≤ 5)
    × (l.size ≤ length l.text)
    × (l.size ≤ 1 → l.value ≤ 0)
    × (l.size ≤ 2 → l.value ≤ 9)
    × (l.size ≤ 3 → l.value ≤ 99)
    × (l.size ≤ 4 → l.value ≤ 999)
    × (l.value ≤ 9999)

abbrev pub decreases-digits : goal.decreases-digits
decreases-digits l = length l.text - l.size
