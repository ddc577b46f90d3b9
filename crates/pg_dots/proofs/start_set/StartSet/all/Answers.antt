use Rattle.std.proofs.Common.{◌≡◌, ℕ, ◌+◌, ◌/◌, ap, ◌∙◌, replicate, refl}
use Rattle.pg_types.specs.Inside.Bits.{has_bit}
use Rattle.pg_dots.proofs.Shifts.{zeros_clear}
use Rattle.pg_dots.proofs.start_set.StartSet.all.Goals as goal

pub returns-clause-all : goal.returns-clause-all
returns-clause-all c = λ i. ap (λ xs. has_bit xs i) (c.in_ok-bits.ensures.items_if_clones_equal (λ x h. h)) ∙ zeros_clear (c.args.size / 64 + 1) i
