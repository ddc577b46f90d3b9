use Rattle.std.proofs.Common.{◌≡◌, ◌+◌, ◌*◌, length, subst, arith}
use Rattle.pg_types.specs.Inside.Bits.{has_bit}
use Rattle.pg_dots.specs.Inside.Walks.{IsFirstFailing}
use Rattle.pg_dots.proofs.Walks.{ahead_behind, next_none, next_some}
use Rattle.pg_dots.proofs.walk.Walk.next.Goals as goal

pub returns-then-walk-eq0-clause-next : goal.returns-then-walk-eq0-clause-next
returns-then-walk-eq0-clause-next c = λ from begun.
    let row = c.args.row.now in
    let walk = c.on_open_number-walk.result in
    let found = c.on_open_number-walk.ensures in
    let end : 64 * walk.at + 64 ≡ 64 * length row = (let last = found.last c.if-walk-eq0.true in omega arith) in
    let same : 64 * length row ≡ length row * 64 = omega arith in
    subst (IsFirstFailing (has_bit row) (64 * length row) from) same (next_none (has_bit row) walk (64 * length row) from c.if-walk-eq0.true end (found.ahead from begun))

pub returns-clause-next : goal.returns-clause-next
returns-clause-next c = λ from begun.
    let walk = c.on_open_number-walk.result in
    let found = c.on_open_number-walk.ensures in
    let low = c.lowest_set-bit.ensures in
    next_some (has_bit c.args.row.now) walk from c.lowest_set-bit.result low.within low.set low.before (found.ahead from begun) (64 * length c.args.row.now)
    (walk.at * 64 + c.lowest_set-bit.result) (omega (arith, found.within)) (omega arith)

pub returns-clause-ahead : goal.returns-clause-ahead
returns-clause-ahead c = λ from begun less.
    let walk = c.on_open_number-walk.result in
    let found = c.on_open_number-walk.ensures in
    let low = c.lowest_set-bit.ensures in
    ahead_behind (has_bit c.args.row.now) walk from c.lowest_set-bit.result low.within low.set low.before (found.ahead from begun) (walk.at * 64 + c.lowest_set-bit.result) (omega arith)
