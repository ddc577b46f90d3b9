use Rattle.std.proofs.Common.{◌≡◌, ◌<◌, ◌≤◌, ◌+◌, ◌-◌, ℕ, List, take, drop, get_or, slice_get, length, Some, sym, ap, ◌∙◌, arith}
use Rattle.pg_starts.specs.Inside.StartCountings.{windows_in}
use Rattle.pg_driver.proofs.SeenCandidates.{seen_part}
use Rattle.std.proofs.lemmas.List.{get_or-drop, get_or-take, length-drop, length-take-le}
use Rattle.std.proofs.lemmas.Option.{get_or_from_slice_get, slice_get-get_or, slice_get_within}
use Rattle.pg_driver.proofs.choices.look_ahead.look_ahead.Goals as goal

pub returns-clause-seen : goal.returns-clause-seen
returns-clause-seen c =
    let within = c.requires.within in
    let min = c.min-end.ensures in
    seen_part c.args.fates.now (windows_in c.args.signs.now c.args.counts.now) c.args.order.now c.look_at.new.seen.items c.args.k c.min-end.result (omega arith) (omega arith)
    c.in_ok-look_at.ensures.size c.in_ok-look_at.ensures.each

pub returns-then-k-from-clause-from : goal.returns-then-k-from-clause-from
returns-then-k-from-clause-from c = c.requires.from

pub returns-then-k-from-clause-within : goal.returns-then-k-from-clause-within
returns-then-k-from-clause-within c = omega (arith, c.if-k-from.true, c.len.ensures)

pub returns-then-k-from-clause-seen : goal.returns-then-k-from-clause-seen
returns-then-k-from-clause-seen c = c.requires.seen

pub look_at-requires-clause-fates : goal.look_at-requires-clause-fates
look_at-requires-clause-fates c = c.requires.fates

-- a number of a part of the order is one of the order
in_order : (order : List ℕ) (k end i n : ℕ) → k ≤ end → end ≤ length order → slice_get (take (end - k) (drop k order)) i ≡ Some n → slice_get order (k + i) ≡ Some n
in_order order k end i n from upto at =
    let part : List ℕ = take (end - k) (drop k order) in
    let count : length part ≡ end - k = length-take-le (end - k) (drop k order) (omega (arith, length-drop k order)) in
    let inside : i < length part = slice_get_within part i n at in
    let here : get_or part i 0 ≡ get_or order (k + i) 0 = get_or-take (end - k) (drop k order) i 0 (omega arith) ∙ get_or-drop k order i 0 in
    slice_get-get_or order (k + i) 0 (omega arith) ∙ ap (λ (m : ℕ). Some m) (sym here ∙ get_or_from_slice_get part i n 0 at)

pub look_at-requires-clause-there : goal.look_at-requires-clause-there
look_at-requires-clause-there c = λ i n at.
    let within = c.requires.within in
    let min = c.min-end.ensures in
    c.requires.there (c.args.k + i) n (in_order c.args.order.now c.args.k c.min-end.result i n (omega arith) (omega arith) at)

pub look_at-requires-clause-cursors : goal.look_at-requires-clause-cursors
look_at-requires-clause-cursors c = λ i n u at.
    let within = c.requires.within in
    let min = c.min-end.ensures in
    c.requires.cursors (c.args.k + i) n u (in_order c.args.order.now c.args.k c.min-end.result i n (omega arith) (omega arith) at)

pub look_at-requires-clause-counting : goal.look_at-requires-clause-counting
look_at-requires-clause-counting c = c.requires.counting
