use Rattle.std.proofs.Common.{◌*◌, sym, arith}
use Rattle.pg_types.specs.Inside.Bits.{has_bit}
use Rattle.pg_dots.specs.Inside.Dots.{is_closed}
use Rattle.pg_dots.proofs.Walks.{ahead_kept}
use Rattle.pg_dots.proofs.open_dots.OpenDots.walk.Goals as goal

pub returns-clause-ahead : goal.returns-clause-ahead
returns-clause-ahead c =
    let o = c.args.self.now in
    ahead_kept (has_bit c.row.result.now) (is_closed o c.args.dot) c.start.result 0 (64 * o.width) (omega (arith, c.start.ensures.within, c.row.ensures.size))
    (λ i behind low. sym (c.row.ensures.bits i low)) c.start.ensures.ahead
