use Rattle.std.proofs.Common.{◌≡◌, ℕ, ◌+◌, ◌-◌, ◌*◌, ◌≤◌, ◌<◌, List, length, take, drop, ap, ◌∙◌, arith, length-drop}
use Rattle.std.proofs.Math.Nat.{mul-le-mul_left}
use Rattle.std.proofs.lemmas.List.{length-take-le}
use Rattle.pg_types.specs.Inside.Bits.{has_bit}
use Rattle.pg_dots.specs.Inside.Dots.{dot_row, is_closed}
use Rattle.pg_dots.proofs.Places.{row_within}
use Rattle.pg_dots.proofs.Rows.{part_bit}
use Rattle.pg_dots.proofs.open_dots.OpenDots.row.Goals as goal

pub returns-clause-size : goal.returns-clause-size
returns-clause-size c =
    let o = c.args.self.now in
    let row : ℕ = c.row_index.result in
    let is : row ≡ dot_row o.reached c.args.dot = c.row_index.ensures in
    let start = row * o.width in
    let size = start + o.width - start in
    let wide : size ≡ o.width = omega arith in
    let low = row_within o.reached c.args.dot in
    let rows : o.width * (row + 1) ≤ o.width * (o.reached + 1) = mul-le-mul_left o.width (let z : row + 1 ≤ o.reached + 1 = omega (arith, is, low) in z) in
    let whole : List ℕ = c.deref.result.now in
    let same : whole ≡ o.bits.items = c.deref.ensures.value in
    length-take-le size (drop start whole) (let left = length-drop start whole in let all = ap length same in omega (arith, o.rows)) ∙ wide

pub returns-clause-bits : goal.returns-clause-bits
unfolding is_closed
returns-clause-bits c = λ i within.
    let o = c.args.self.now in
    let row : ℕ = c.row_index.result in
    let is : row ≡ dot_row o.reached c.args.dot = c.row_index.ensures in
    let start = row * o.width in
    let size = start + o.width - start in
    let wide : size ≡ o.width = omega arith in
    let inside : i < 64 * size = omega (arith, within, wide) in
    let place : 64 * start + i ≡ row * (64 * o.width) + i = omega arith in
    ap (λ (bits : List ℕ). has_bit (take size (drop start bits)) i) c.deref.ensures.value
    ∙ part_bit o.bits.items start size i inside
    ∙ ap (has_bit o.bits.items) place
    ∙ ap (λ r. has_bit o.bits.items (r * (64 * o.width) + i)) is
