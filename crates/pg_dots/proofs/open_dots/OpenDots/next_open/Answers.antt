use Rattle.std.proofs.Common.{◌*◌, sym, ◌∙◌, arith}
use Rattle.pg_types.specs.Inside.Bits.{has_bit}
use Rattle.pg_dots.specs.Inside.Dots.{is_closed}
use Rattle.pg_dots.specs.Inside.Walks.{IsAhead}
use Rattle.pg_dots.proofs.Walks.{ahead_kept}
use Rattle.pg_dots.proofs.open_dots.OpenDots.next_open.Goals as goal

pub returns-clause-next : goal.returns-clause-next
returns-clause-next c = λ from begun.
    let o = c.args.self.now in
    let row = c.row.result.now in
    let bits = c.row.ensures.bits in
    let ahead : IsAhead (has_bit row) c.args.walk.now from = ahead_kept (is_closed o c.args.dot) (has_bit row) c.args.walk.now from (64 * o.width)
    (omega (arith, c.requires.within)) (λ i behind low. bits i low) begun in
    let next = c.next.ensures.next from ahead in
    record {
      after = next.after;
      within = omega (arith, next.within, c.row.ensures.size);
      fails = λ less. sym (bits c.next.result less) ∙ next.fails (omega (arith, c.row.ensures.size));
      passes = λ i behind before. sym (bits i (omega (arith, next.within, c.row.ensures.size))) ∙ next.passes i behind before;
    }

pub returns-clause-ahead : goal.returns-clause-ahead
returns-clause-ahead c = λ from begun less.
    let o = c.args.self.now in
    let row = c.row.result.now in
    let bits = c.row.ensures.bits in
    let ahead : IsAhead (has_bit row) c.args.walk.now from = ahead_kept (is_closed o c.args.dot) (has_bit row) c.args.walk.now from (64 * o.width)
    (omega (arith, c.requires.within)) (λ i behind low. bits i low) begun in
    let then = c.next.ensures.ahead from ahead (omega (arith, c.row.ensures.size)) in
    ahead_kept (has_bit row) (is_closed o c.args.dot) c.next.new.self _ (64 * o.width) (omega (arith, c.next.ensures.within, c.row.ensures.size)) (λ i behind low. sym (bits i low)) then
