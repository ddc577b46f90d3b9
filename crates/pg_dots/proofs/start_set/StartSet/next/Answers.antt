use Rattle.std.proofs.Common.{◌≡◌, ◌<◌, ◌*◌, ◌+◌, ℕ, List, length, ap, sym, subst}
use Rattle.pg_types.specs.Inside.Bits.{has_bit}
use Rattle.pg_dots.specs.Inside.Walks.{IsAhead, IsFirstFailing}
use Rattle.pg_dots.proofs.start_set.StartSet.next.Goals as goal

pub returns-clause-next : goal.returns-clause-next
returns-clause-next c = λ from ahead.
    let same = c.deref.ensures.value in
    subst (λ (xs : List ℕ). IsFirstFailing (has_bit xs) (64 * length xs) from c.next.result) same
    (c.next.ensures.next from (subst (λ (xs : List ℕ). IsAhead (has_bit xs) c.args.walk.now from) (sym same) ahead))

pub returns-clause-ahead : goal.returns-clause-ahead
returns-clause-ahead c = λ from ahead low.
    let same = c.deref.ensures.value in
    subst (λ (xs : List ℕ). IsAhead (has_bit xs) c.next.new.self (c.next.result + 1)) same
    (c.next.ensures.ahead from (subst (λ (xs : List ℕ). IsAhead (has_bit xs) c.args.walk.now from) (sym same) ahead)
    (subst (λ (xs : List ℕ). c.next.result < 64 * length xs) (sym same) low))
