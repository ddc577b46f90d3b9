use Rattle.std.proofs.Common.{◌≡◌, ◌+◌, ◌-◌, ◌*◌, ◌/◌, ◌^◌, replicate, ap, ◌∙◌, arith, rules}
use Rattle.pg_types.specs.Inside.Bits.{has_bit}
use Rattle.pg_dots.specs.Inside.Dots.{is_closed, dot_row}
use Rattle.pg_dots.proofs.Places.{full_bit, row_beyond}
use Rattle.pg_dots.proofs.open_dots.OpenDots.all_closed.Goals as goal

pub returns-clause-closed : goal.returns-clause-closed
unfolding is_closed
returns-clause-closed c = λ dot i within.
    let width = c.args.size / 64 + 1 in
    let items : c.ask_for_rows.new.bits.items ≡ replicate width (2 ^ 64 - 1) = c.ask_for_rows.ensures ∙ search rules in
    ap (λ bits. has_bit bits (dot_row 0 dot * (64 * width) + i)) items
    ∙ full_bit width (dot_row 0 dot * (64 * width) + i) (let row = row_beyond 0 dot (omega arith) in let none : dot_row 0 dot * (64 * width)
    ≡ 0 * (64 * width) = ap (λ r. r * (64 * width)) row in omega arith)
