use Rattle.std.proofs.Common.{sym, subst, inl, inr, refl}
use Rattle.pg_plans.specs.Plans.{Plan, Follows}
use Rattle.pg_steps.proofs.Stopping.{short}
use Rattle.pg_top.specs.Sampling.{sampled}
use Rattle.pg_top.proofs.sample.sample.Goals as goal

pub returns-in-Ok : goal.returns-in-Ok
returns-in-Ok g c files =
    let old = g.O.Sink.shown c.args.out.now in
    let new = g.O.Sink.shown c.answer.new.out in
    let says = rw c.deref.ensures.value at c.answer.ensures in
    subst (λ (p : Plan). Follows p c.answer.result (files, old) (files, new)) (sym c.in-Ok.ensures) (inr (refl, says))

pub returns-in-Err : goal.returns-in-Err
returns-in-Err g c files = short (sampled c.args.seed c.args.count) _ (files, g.O.Sink.shown c.args.out.now) _ (refl, refl)
