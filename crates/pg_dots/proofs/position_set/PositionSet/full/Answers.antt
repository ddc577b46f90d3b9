use Rattle.std.proofs.Common.{◌≡◌, ◌-◌, ◌^◌, replicate, ap, ◌∙◌, rules}
use Rattle.pg_types.specs.Inside.Bits.{has_bit}
use Rattle.pg_dots.specs.Inside.Positions.{is_among}
use Rattle.pg_dots.proofs.Places.{full_bit}
use Rattle.pg_dots.proofs.position_set.PositionSet.full.Goals as goal

pub returns-clause-among : goal.returns-clause-among
unfolding is_among
returns-clause-among c = λ i within.
    let width = c.args.width in
    let items : c.reserve_exact.new.self.items ≡ replicate width (2 ^ 64 - 1) = c.reserve_exact.ensures.items ∙ search rules in
    ap (λ bits. has_bit bits i) items ∙ full_bit width i within
