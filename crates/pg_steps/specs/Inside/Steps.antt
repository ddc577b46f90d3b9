-- What the steps of a call leave to do.
use Rattle.std.specs.Prelude.{◌≡◌, ℕ, ◌+◌, List, [], take, Vec, Result, MatchResult, codes}
use Rattle.std.specs.declared.alloc.Global.{Global}
use Rattle.pg_outside.specs.Content.{FilesShown, SinkShown}
use Rattle.pg_outside.specs.Faults.{Rose}
use Rattle.pg_plans.specs.Calls.{Asks, Gets, PutsFault}
use Rattle.pg_plans.specs.Plans.{Moment, Plan, Ending, Follows, IsShort}
use Rattle.pg_plans.specs.declared.answers.Status.{Status}
use Rattle.pg_plans.specs.declared.answers.Status.TheVariants as answers
use Rattle.pg_steps.specs.RefusedLines.{refused_line}
use Rattle.pg_steps.specs.declared.inputs.Stop.{Stop}
use Rattle.pg_steps.specs.declared.inputs.Stop.TheVariants.{Refused, Unread, Memory}

-- a call that stopped for this reason ended so
abbrev pub StopsBy : Stop → Status → Moment → Moment → Type 0
StopsBy (Refused kind refusal) status old new =
    Follows (Ending answers.Refused [] (refused_line kind refusal)) status old new
StopsBy (Unread name) status old new = (status ≡ answers.Fault) × (new.0 ≡ old.0)
    × PutsFault (codes "fault: reading ") name.now old.1 new.1
StopsBy Memory status old new = IsShort status old new

-- a call went on from this result: by the plan that follows from its value, or it stopped
abbrev pub Goes : {Y : Type 0} → Result Y Stop → (Y → Plan) → Status → Moment → Moment → Type 0
Goes result next status old new = MatchResult result (λ y. Follows (next y) status old new)
    (λ stop. StopsBy stop status old new)

-- a call with this plan was begun, which led to this result: where it goes on, it follows the plan
abbrev pub Begins : {Y : Type 0} → Plan → Result Y Stop → (Y → Plan)
    → FilesShown → FilesShown → Type 0
Begins plan result next old mid = (status : Status) (sink : SinkShown) (new : Moment)
    → Goes result next status (mid, sink) new → Follows plan status (old, sink) new

-- a part of a plan gave this result, whatever follows
abbrev pub Gives : {Y : Type 0} → ((Y → Plan) → Plan) → Result Y Stop
    → FilesShown → FilesShown → Type 0
Gives {Y} part result old mid = (next : Y → Plan) → Begins (part next) result next old mid

-- why a file gave no bytes
abbrev pub StopsReading : List ℕ → FilesShown → FilesShown → Stop → Type 0
StopsReading name old new (Refused kind refusal) = ⊥
StopsReading name old new (Unread at) = (at.now ≡ name) × Asks name old new
    × Rose (old.read_faults name) (new.read_faults name)
StopsReading name old new Memory = Asks name old new

-- a file was read, and these are its bytes, or its first ones where it is longer than the limit
abbrev pub ReadsFront : List ℕ → ℕ → Result (Vec ℕ Global) Stop → FilesShown → FilesShown → Type 0
ReadsFront name limit result old new = MatchResult result (λ front. (bytes : List ℕ)
    × Gets name bytes old new × (front.items ≡ take (limit + 1) bytes)) (StopsReading name old new)
