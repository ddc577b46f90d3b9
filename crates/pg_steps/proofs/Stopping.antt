-- A call that stopped, by what a `?` hands on.
use Rattle.std.proofs.Common.{◌≡◌, Result, Ok, Err, inl, subst}
use Rattle.std.specs.Result.{IsErrAnd}
use Rattle.pg_plans.specs.Plans.{Moment, Plan, Reading, Ending, IsShort, Follows}
use Rattle.pg_plans.specs.declared.answers.Status.{Status}
use Rattle.pg_steps.specs.Inside.Steps.{Goes, StopsBy}
use Rattle.pg_steps.specs.declared.inputs.Stop.{Stop}
use Rattle.pg_steps.specs.declared.inputs.Stop.TheVariants.{Memory}

pub stops : {Z : Type 0} (r : Result Z Stop) (next : Z → Plan) (stop : Stop) (status : Status) (old new : Moment) → IsErrAnd r (λ e. e ≡ stop) → Goes r next status old new
    → StopsBy stop status old new
stops (Ok z) next stop status old new is h = absurd is
stops (Err e) next stop status old new is h = subst (λ s. StopsBy s status old new) is h

-- memory may be short anywhere in a plan
pub short : (plan : Plan) (status : Status) (old new : Moment) → IsShort status old new → Follows plan status old new
short (Reading name next) status old new h = inl h
short (Ending answer writing lines) status old new h = inl h

pub stops_short : {Z : Type 0} (r : Result Z Stop) (next : Z → Plan) (plan : Plan) (status : Status) (old new : Moment) → IsErrAnd r (λ e. e ≡ Memory)
    → Goes r next status old new → Follows plan status old new
stops_short r next plan status old new is h = short plan status old new (stops r next Memory status old new is h)
