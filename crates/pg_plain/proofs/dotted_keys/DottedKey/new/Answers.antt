use Rattle.std.proofs.Common.{List, ℕ, sym, subst, arith}
use Rattle.pg_plain.specs.Inside.Keys.{HasFirstSigns}
use Rattle.pg_plain.proofs.dotted_keys.DottedKey.new.Goals as goal

pub invariant_of-result : goal.invariant_of-result
invariant_of-result c = subst (λ (p : List ℕ × ℕ). HasFirstSigns c.packed.result p.0) (sym c.new.ensures) (record { is = c.packed.ensures; small = λ i. omega (arith, c.type_inv.signs i) })
