use Rattle.std.proofs.Common.{◌≡◌, ◌∙◌, ◌∷◌, ◌++◌, ◌+◌, ◌-◌, [], map, sym, ap, arith}
use Rattle.std.specs.List.{range_with_len}
use Rattle.std.proofs.lemmas.List.{append-nil, append_assoc}
use Rattle.pg_select.proofs.Reaches.{range_step}
use Rattle.pg_prune.proofs.positions.PositionSteps.{at_word, needs_in}
use Rattle.pg_prune.proofs.positions.add_word.Goals as goal

pub positions-preserved : goal.positions-preserved
positions-preserved c =
    let f = at_word c.args.word in
    let rest = map f (range_with_len (c.positions.p + 1) (c.in-Some.end - (c.positions.p + 1))) in
    ap (λ ns. ns ++ rest) c.in_ok-push.ensures.items
    ∙ append_assoc c.positions.all.items (f c.positions.p ∷ []) rest
    ∙ ap (λ ps. c.positions.all.items ++ map f ps) (sym (range_step c.positions.p c.in-Some.end c.positions-test.true))
    ∙ c.positions.invariant

pub returns : goal.returns
returns c =
    let f = at_word c.args.word in
    let none : c.in-Some.end - c.positions.p ≡ 0 = omega arith in
    sym (append-nil c.positions.all.items)
    ∙ ap (λ n. c.positions.all.items ++ map f (range_with_len c.positions.p n)) (sym none)
    ∙ c.positions.invariant
    ∙ ap (λ ps. c.args.all.now.items ++ map f ps) (sym c.in-Some.ensures.some)
    ∙ ap (λ ns. c.args.all.now.items ++ ns) (sym (needs_in c.args.word c.args.w.now.signs.now _))
