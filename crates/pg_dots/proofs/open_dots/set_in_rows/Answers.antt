use Rattle.std.proofs.Common.{◌≡◌, ◌+◌, ◌*◌, nat_eq, ◌&&◌, ◌||◌, ap, ◌∙◌, arith}
use Rattle.std.proofs.lemmas.Bool.{lt-ltb}
use Rattle.pg_types.specs.Inside.Bits.{has_bit}
use Rattle.pg_dots.proofs.Places.{rows_more, same_place}
use Rattle.pg_dots.proofs.open_dots.set_in_rows.Goals as goal

pub rows-preserved : goal.rows-preserved
rows-preserved c = λ r j inside.
    let s = 64 * c.args.width in
    let row = c.rows.row in
    let place : row * c.args.width * 64 + c.args.i ≡ row * s + c.args.i = omega arith in
    c.set.ensures (r * s + j)
    ∙ ap (λ p. nat_eq (r * s + j) p || has_bit c.rows.bits (r * s + j)) place
    ∙ (λ k. same_place r row s c.args.i j c.requires.within inside k || c.rows.invariant r j inside k)
    ∙ rows_more r row (nat_eq j c.args.i) (has_bit c.args.bits.now (r * s + j))

pub returns : goal.returns
returns c = λ r j low inside.
    c.rows.invariant r j inside
    ∙ ap (λ b. (b && nat_eq j c.args.i) || has_bit c.args.bits.now (r * (64 * c.args.width) + j)) (lt-ltb r c.rows.row (omega (arith, c.rows-test.false)))
