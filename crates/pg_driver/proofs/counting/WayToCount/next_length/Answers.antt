use Rattle.std.proofs.Common.{refl, subst, arith}
use Rattle.pg_driver.specs.Inside.counting.LevelCounting.{IsReady}
use Rattle.pg_driver.specs.Inside.counting.OpenSigns.{dot_of_no_pass}
use Rattle.pg_driver.proofs.ReadySteps.{ready_longer}
use Rattle.pg_driver.proofs.counting.WayToCount.next_length.Goals as goal

pub returns-in_ok-next_length-clause-ready : goal.returns-in_ok-next_length-clause-ready
returns-in_ok-next_length-clause-ready c = λ T W level len known ready.
    let o = c.in-Open.open in
    ready_longer T W level len known o (subst (IsReady T W level len known) c.in-Open.is ready)
    (record { dots = c.next_length.new.self; never = o.never; totals = o.totals }) c.in_ok-next_length.ensures.positions c.in_ok-next_length.ensures.closed
    (λ j within. c.in_ok-next_length.ensures.beyond dot_of_no_pass j (omega arith) within) refl refl
