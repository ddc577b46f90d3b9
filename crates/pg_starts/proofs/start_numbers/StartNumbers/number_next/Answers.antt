use Rattle.std.proofs.Common.{ℕ, List, sym, subst, arith}
use Rattle.pg_dots.specs.declared.start_set.StartSet.{StartSet}
use Rattle.pg_starts.specs.Inside.Orders.{AreOrdered}
use Rattle.pg_starts.specs.Inside.Starts.{has_window, window_order}
use Rattle.pg_starts.proofs.Numbering.{step_few, step_ordered}
use Rattle.pg_starts.proofs.start_numbers.StartNumbers.number_next.Goals as goal

pub number_to-requires-clause-count : goal.number_to-requires-clause-count
number_to-requires-clause-count c =
    let go = c.length_to_go_on-from.ensures in
    let n = c.args.self.now in
    let from = c.length_to_go_on-from.result in
    step_few c.args.signs.now n c.requires.known from c.in_ok-count.count go.coded
    (λ other. ((go.some other).0, omega (arith, (c.in_ok-count.ensures.old other).0, c.len.ensures)))
    (λ same. (c.in_ok-count.ensures.codes same).0)

pub number_to-requires-clause-numbers : goal.number_to-requires-clause-numbers
number_to-requires-clause-numbers c =
    let go = c.length_to_go_on-from.ensures in
    let n = c.args.self.now in
    let signs = c.args.signs.now in
    let from = c.length_to_go_on-from.result in
    let count = c.in_ok-count.count in
    subst (λ (s : StartSet). AreOrdered (window_order signs from) (has_window signs s c.args.len) c.deref_mut.result.now count) (sym c.swap.ensures.x_after)
    (subst (λ (ns : List ℕ). AreOrdered (window_order signs from) (has_window signs n.next c.args.len) ns count) (sym c.deref_mut.ensures.value)
    (step_ordered signs n c.requires.known from count go.coded
    (λ other. ((go.some other).0, omega (arith, (c.in_ok-count.ensures.old other).0, c.len.ensures)))
    n.next c.args.len c.begin.new.numbers.items go.below (λ other. (go.some other).1) c.requires.known.next_room
    (λ same. c.in_ok-count.ensures.codes same)
    (λ other. (c.in_ok-count.ensures.old other).1)
    (λ other. go.part other)))
