use Rattle.std.proofs.Common.{◌≡◌, ℕ, ◌+◌, ◌*◌, ◌<◌, not, ◌||◌, List, length, take, ap, ◌∙◌, arith, rules}
use Rattle.std.proofs.lemmas.List.{length-take-le, with_items_is, places}
use Rattle.pg_types.specs.declared.limits.TheConstants.{LENGTH_MAX}
use Rattle.pg_types.specs.Inside.Bits.{has_bit}
use Rattle.pg_dots.specs.Inside.Dots.{is_closed, dot_row}
use Rattle.pg_dots.specs.Inside.Positions.{is_among}
use Rattle.pg_dots.proofs.Places.{next_level_row}
use Rattle.pg_dots.proofs.open_dots.OpenDots.next_level.Goals as goal

pub returns-clause-closed : goal.returns-clause-closed
unfolding is_closed is_among
returns-clause-closed c = λ d j within.
    let o = c.args.self.now in
    let now : List ℕ = c.turn_others.new.row in
    let new = with_items_is c.ask_for_rows.new.bits now (search (rules, places)) in
    let first : c.deref_mut.result.now ≡ take o.width o.bits.items = c.deref_mut.ensures.value ∙ c.ask_for_rows.ensures ∙ c.shrink_to_fit.ensures.items ∙ c.truncate.ensures.items in
    let size = length-take-le o.width o.bits.items (omega (arith, o.rows)) in
    let wide : j < 64 * length c.deref_mut.result.now = (let same = ap (λ (xs : List ℕ). length xs) first in omega arith) in
    ap (λ bits. has_bit bits (dot_row 0 d * (64 * o.width) + j)) new
    ∙ next_level_row o.bits.items now o.width o.reached d (LENGTH_MAX + 1) j (has_bit c.args.kept.now.bits.items j) (omega (arith, o.few)) within
    (c.turn_others.ensures j wide ∙ (λ i. not (has_bit (first i) j) || has_bit (c.deref.ensures.value i) j))
