use Rattle.std.proofs.Common.{◌+◌, ℕ, Bool, arith}
use Rattle.std.proofs.lemmas.Result.{IfOk-weaker}
use Rattle.pg_starts.specs.Inside.Starts.{has_window, part_behind, window_order}
use Rattle.pg_starts.specs.Inside.Orders.{then_part}
use Rattle.pg_starts.proofs.Orders.{numbers_in, sign_order}
use Rattle.pg_starts.proofs.Tests.{window_ends}
use Rattle.pg_starts.proofs.steps.lengthen.Goals as goal

pub returns-clause-numbers : goal.returns-clause-numbers
returns-clause-numbers c =
    let signs = c.args.signs.now in
    let at = c.args.at in
    let test : ℕ → Bool = has_window signs c.args.starts.now c.args.len in
    let order = then_part (then_part (window_order signs at) (part_behind signs at 2)) (part_behind signs at 1) in
    IfOk-weaker c.refine.result _ _
    (λ firsts ok.
    numbers_in (then_part order (part_behind signs at 0)) (window_order signs (at + 1)) test c.refine.new.numbers firsts.items
    (λ i j x y. sign_order signs at i j
    (let ends = window_ends signs c.args.starts.now c.args.len i x in omega (arith, ends, c.requires.at))
    (let ends = window_ends signs c.args.starts.now c.args.len j y in omega (arith, ends, c.requires.at)))
    (ok order (c.in_ok-more.ensures.ok (then_part (window_order signs at) (part_behind signs at 2)) (c.in_ok-some.ensures.ok (window_order signs at) c.requires.numbers))))
    c.refine.ensures.ok
