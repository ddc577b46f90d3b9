-- Covers as numbers.
use Rattle.std.proofs.Common.{◌≡◌, Bool, true, false, refl, arith}
use Rattle.pg_select.specs.Inside.words.Positions.{bit}

-- covers are equal where their numbers are
pub same_bits : (a b : Bool) → bit a ≡ bit b → a ≡ b
same_bits true true e = refl
same_bits true false e = absurd (omega arith)
same_bits false true e = absurd (omega arith)
same_bits false false e = refl
